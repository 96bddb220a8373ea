-- What forms are made of: how many parts each operator has, and in which roles (HyperSpec 3.1.2.1, and the entries of
-- the operators).
use Rattle.std.specs.Prelude.{ℕ, ◌+◌, List, [], ◌∷◌, length, Bool, true, false, nat_le, ◌==◌, ◌&&◌}
use Rattle.lisp_data.specs.Name.{Name}
use Rattle.clos_forms.specs.Form.{Form, form, Forms, nil, cons, operator_in}
use Rattle.clos_forms.specs.Operator.{Bound, Callable, the_method, made, Place, variable_place, slot_value_place, call_place, Operator, constant, no_value, variable, function, if_form, cond, clause, when, unless, and_form, or_form, progn, prog1, let_form, let_in_order, setq, setf, incf, decf, place, dotimes, with_slots, call_next_method, next_method_p, call, call_method}
use Rattle.clos_forms.specs.Part.{in_effective, in_method}
use Rattle.clos_forms.specs.declared.part.Context.{Context}
use Rattle.clos_forms.specs.declared.part.Role.{Role}
use Rattle.clos_forms.specs.declared.part.Role.TheVariants.{Expression, Clause, Place as InPlace}

-- the role in which a form of this operator stands
abbrev pub role_of : Operator → Role
role_of (constant v) = Expression
role_of no_value = Expression
role_of (variable n) = Expression
role_of (function c) = Expression
role_of if_form = Expression
role_of cond = Expression
role_of clause = Clause
role_of when = Expression
role_of unless = Expression
role_of and_form = Expression
role_of or_form = Expression
role_of progn = Expression
role_of prog1 = Expression
role_of (let_form bs) = Expression
role_of (let_in_order bs) = Expression
role_of (setq ns) = Expression
role_of setf = Expression
role_of incf = Expression
role_of decf = Expression
role_of (place p) = InPlace
role_of (dotimes n b) = Expression
role_of (with_slots bs) = Expression
role_of call_next_method = Expression
role_of next_method_p = Expression
role_of (call n) = Expression
role_of (call_method m ns) = Expression

-- evaluated as it stands: neither a clause nor a place
abbrev pub is_expression : Role → Bool
is_expression Expression = true
is_expression Clause = false
is_expression InPlace = false

-- what cond has as its parts
abbrev pub is_clause : Role → Bool
is_clause Expression = false
is_clause Clause = true
is_clause InPlace = false

-- what setf, incf and decf store into
abbrev pub is_place : Role → Bool
is_place Expression = false
is_place Clause = false
is_place InPlace = true

-- any number of expressions, and nothing else
abbrev pub are_expressions : List Role → Bool
are_expressions [] = true
are_expressions (r ∷ rs) = is_expression r && are_expressions rs

-- any number of clauses, and nothing else
abbrev pub are_clauses : List Role → Bool
are_clauses [] = true
are_clauses (r ∷ rs) = is_clause r && are_clauses rs

-- at least so many expressions
abbrev pub at_least : ℕ → List Role → Bool
at_least n rs = are_expressions rs && nat_le n (length rs)

-- no parts at all, as of a constant
abbrev pub none : List Role → Bool
none [] = true
none (r ∷ rs) = false

-- a test, and one form or two
abbrev pub two_or_three : List Role → Bool
two_or_three rs = are_expressions rs && (nat_le 2 (length rs) && nat_le (length rs) 3)

-- one expression at least where the flag says so, and then what follows
abbrev pub first_if : Bool → (List Role → Bool) → List Role → Bool
first_if false others rs = others rs
first_if true others [] = false
first_if true others (r ∷ rs) = is_expression r && others rs

-- an init form for each variable that has one, and the body
abbrev pub inits_and_body : List Bound → List Role → Bool
inits_and_body [] rs = are_expressions rs
inits_and_body (b ∷ bs) rs = first_if b.has_init (inits_and_body bs) rs

-- a value for each name
abbrev pub values : List Name → List Role → Bool
values [] rs = none rs
values (n ∷ ns) rs = first_if true (values ns) rs

-- places and values in turn
abbrev pub assignments : List Role → Bool
assignments [] = true
assignments (p ∷ []) = false
assignments (p ∷ (v ∷ rs)) = is_place p && (is_expression v && assignments rs)

-- a place, and one amount at most
abbrev pub place_and_amount : List Role → Bool
place_and_amount [] = false
place_and_amount (p ∷ rs) = is_place p && (are_expressions rs && nat_le (length rs) 1)

-- the count, the result where there is one, and the body
abbrev pub count_result_body : Bool → List Role → Bool
count_result_body has_result rs = first_if true (first_if has_result are_expressions) rs

-- the subforms of a place
abbrev pub subforms : Place → List Role → Bool
subforms (variable_place n) rs = none rs
subforms slot_value_place rs = are_expressions rs && (length rs == 2)
subforms (call_place n) rs = are_expressions rs

-- how many of these methods are made of a form
abbrev pub made_among : List Callable → ℕ
made_among [] = 0
made_among (the_method n ∷ ms) = made_among ms
made_among (made ∷ ms) = made_among ms + 1

-- a form for each method that is made of one
abbrev pub forms_of_made : List Callable → List Role → Bool
forms_of_made ms rs = are_expressions rs && (length rs == made_among ms)

-- whether a form of this operator may have parts in these roles
abbrev pub takes : Context → Operator → List Role → Bool
takes context (constant v) rs = none rs
takes context no_value rs = none rs
takes context (variable n) rs = none rs
takes context (function c) rs = none rs
takes context if_form rs = two_or_three rs
takes context cond rs = are_clauses rs
takes context clause rs = at_least 1 rs
takes context when rs = at_least 1 rs
takes context unless rs = at_least 1 rs
takes context and_form rs = are_expressions rs
takes context or_form rs = are_expressions rs
takes context progn rs = are_expressions rs
takes context prog1 rs = at_least 1 rs
takes context (let_form bs) rs = inits_and_body bs rs
takes context (let_in_order bs) rs = inits_and_body bs rs
takes context (setq ns) rs = values ns rs
takes context setf rs = assignments rs
takes context incf rs = place_and_amount rs
takes context decf rs = place_and_amount rs
takes context (place p) rs = subforms p rs
takes context (dotimes n has_result) rs = count_result_body has_result rs
takes context (with_slots bs) rs = first_if true are_expressions rs
takes context call_next_method rs = in_method context && are_expressions rs
takes context next_method_p rs = in_method context && none rs
takes context (call n) rs = are_expressions rs
takes context (call_method m ns) rs = in_effective context && forms_of_made (m ∷ ns) rs

-- for each form the role in which its operator lets it stand
abbrev pub roles_of : Forms → List Role
roles_of nil = []
roles_of (cons f fs) = role_of (operator_in f) ∷ roles_of fs

-- whether each form in it has the parts that it may have
abbrev mutual
  -- its operator takes parts in their roles here, and each of them is made well itself
  pub is_made_well : Context → Form → Bool
  is_made_well context (form o parts) = takes context o (roles_of parts) && are_made_well context parts

  -- each by itself, whatever its role
  pub are_made_well : Context → Forms → Bool
  are_made_well context nil = true
  are_made_well context (cons f fs) = is_made_well context f && are_made_well context fs

-- a form that may stand by itself, in the body of a method or elsewhere
abbrev pub is_well_formed : Context → Form → Bool
is_well_formed context f = is_expression (role_of (operator_in f)) && is_made_well context f

-- and forms that may stand in a body
abbrev pub are_well_formed : Context → Forms → Bool
are_well_formed context fs = are_expressions (roles_of fs) && are_made_well context fs
