-- Each form that a datum is has the parts that its operator may have.
use Rattle.std.proofs.Common.{◌≡◌, ℕ, zero, suc, Bool, true, false, List, [], ◌∷◌, ◌++◌, Option, Some, None, length, refl, ap, subst, ◌∙◌, arith}
use Rattle.std.proofs.lemmas.Bool.{eq-eqb}
use Rattle.std.specs.Prelude.{⊤, nat_le, ◌==◌, ◌&&◌, ◌||◌, if◌then◌else◌, codes, is_some, Result, Ok, Err, IfOk}
use Rattle.lisp_data.specs.Name.{Name}
use Rattle.lisp_data.specs.Datum.{Dat, integer, symbol, string, list, dotted, method, Dats, nil, cons, length_of}
use Rattle.clos_forms.specs.Binding.{Entry, Counter, each_in, names_of, bounds_of, inits_of, binding_in, entry, let_with, let_shape, let_in_order_shape, assignments_in, counter_in, dotimes_with, dotimes_shape}
use Rattle.clos_forms.specs.Body.{body_of, body_parts}
use Rattle.clos_forms.specs.Distinct.{are_distinct}
use Rattle.clos_forms.specs.Fault.{◌>>=◌, Gives}
use Rattle.clos_forms.specs.Form.{Form, form, Forms, cons as more, nil as no_forms, operator_in}
use Rattle.clos_forms.specs.FunctionName.{symbol_in, variable_in, unless_constant, function_named}
use Rattle.clos_forms.specs.Grammar.{each_part, tree_at}
use Rattle.clos_names.specs.Names.{is_called, is_constant, is_one_of, definitions}
use Rattle.clos_forms.specs.NamedMethods.{NamedMethod, numbered, made_of, callables_of, made_parts, method_in, next_methods_in, calling, call_method_shape}
use Rattle.clos_forms.specs.Operator.{Operator, BoundSlot, constant, variable, function, if_form, clause, when, unless, prog1, incf, decf, call, let_form, let_in_order, setq, setf, with_slots, place, slot_value_place, call_place, variable_place, call_next_method, next_method_p}
use Rattle.clos_forms.specs.Part.{Part, Shape, shape, operation, in_role, in_roles, optional, only_in, in_effective, in_method}
use Rattle.clos_forms.specs.Place.{named_place, place_shape, setf_parts, change_shape}
use Rattle.clos_forms.specs.Quotation.{quotation, name_value}
use Rattle.clos_forms.specs.Shape.{atom, quoting, symbol_operator, special_shape, named_shape, headed_shape, expression_shape, clause_shape, shape_of}
use Rattle.clos_forms.specs.Slots.{slot_in, slots_with, variables_of, with_slots_shape}
use Rattle.clos_names.specs.Special.{special_of, special_operators}
use Rattle.clos_forms.specs.WellFormed.{role_of, is_expression, are_expressions, are_clauses, first_if, inits_and_body, values, assignments, made_among, forms_of_made, takes, roles_of, is_made_well, are_made_well, is_well_formed, are_well_formed}
use Rattle.clos_forms.specs.declared.fault.SyntaxFault.{SyntaxFault}
use Rattle.clos_forms.specs.declared.part.Context.{Context}
use Rattle.clos_forms.specs.declared.part.Role.{Role}
use Rattle.clos_forms.specs.declared.part.Role.TheVariants.{Expression, Clause, Place}
use Rattle.clos_names.specs.declared.special.Special.{Special}
use Rattle.clos_names.specs.declared.special.Special.TheVariants.{Quote, Function, If, Cond, When, Unless, And, Or, Progn, Prog1, Let, LetInOrder, Setq, Setf, Incf, Decf, Dotimes, WithSlots, CallNextMethod, NextMethodP}

-- the roles of parts
abbrev roles_in : List Part → List Role
roles_in [] = []
roles_in (p ∷ ps) = p.role ∷ roles_in ps

-- a shape, where there is one, stands in this role and has parts that its operator may have
abbrev Fits : Context → Role → Option Shape → Type 0
Fits context r None = ⊤
Fits context r (Some s) = (takes context s.operator (roles_in s.parts) ≡ true) × (role_of s.operator ≡ r)

-- and so does a form
abbrev Made : Context → Role → Option Form → Type 0
Made context r None = ⊤
Made context r (Some f) = (is_made_well context f ≡ true) × (role_of (operator_in f) ≡ r)

abbrev AllMade : Context → List Role → Option Forms → Type 0
AllMade context rs None = ⊤
AllMade context rs (Some fs) = (are_made_well context fs ≡ true) × (roles_of fs ≡ rs)

both_true : (a b : Bool) → a ≡ true → b ≡ true → (a && b) ≡ true
both_true true b h g = g
both_true false b h g = h

-- ---- forms of parts

one_more : (context : Context) (r : Role) (rs : List Role) (o : Option Form) (os : Option Forms) → Made context r o → AllMade context rs os → AllMade context (r ∷ rs) (o >>= λ f. os >>= λ fs. Some (more f fs))
one_more context r rs None os h g = tt
one_more context r rs (Some f) None h g = tt
one_more context r rs (Some f) (Some fs) h g =
    (both_true (is_made_well context f) (are_made_well context fs) h.0 g.0, ap (λ x. x ∷ roles_of fs) h.1 ∙ ap (λ xs. r ∷ xs) g.1)

all_parts : (context : Context) (tree : Part → Option Form) → ((q : Part) → Made context q.role (tree q)) → (ps : List Part) → AllMade context (roles_in ps) (each_part tree ps (Some no_forms))
all_parts context tree h [] = (refl, refl)
all_parts context tree h (p ∷ ps) =
    one_more context p.role (roles_in ps) (tree p) (each_part tree ps (Some no_forms)) (h p) (all_parts context tree h ps)

whole : (context : Context) (r : Role) (s : Shape) (o : Option Forms) → Fits context r (Some s) → AllMade context (roles_in s.parts) o → Made context r (o >>= λ fs. Some (form s.operator fs))
whole context r s None h g = tt
whole context r s (Some fs) h g =
    (both_true (takes context s.operator (roles_of fs)) (are_made_well context fs) (ap (takes context s.operator) g.1 ∙ h.0) g.0, h.1)

of_shape : (context : Context) (r : Role) (tree : Part → Option Form) → ((q : Part) → Made context q.role (tree q)) → (o : Option Shape) → Fits context r o → Made context r (o >>= λ s. each_part tree s.parts (Some no_forms) >>= λ fs. Some (form s.operator fs))
of_shape context r tree h None g = tt
of_shape context r tree h (Some s) g = whole context r s (each_part tree s.parts (Some no_forms)) g (all_parts context tree h s.parts)

-- ---- lists of parts

expressions : (l : Dats) → are_expressions (roles_in (in_roles Expression l)) ≡ true
expressions nil = refl
expressions (cons d l) = expressions l

clauses : (l : Dats) → are_clauses (roles_in (in_roles Clause l)) ≡ true
clauses nil = refl
clauses (cons d l) = clauses l

counted : (r : Role) (l : Dats) → length (roles_in (in_roles r l)) ≡ length_of l
counted r nil = refl
counted r (cons d l) = let e : length (roles_in (in_roles r l)) ≡ length_of l = counted r l in omega (arith, e)

body : (l : Dats) → are_expressions (roles_in (body_parts l)) ≡ true
body l = expressions (body_of l)

-- the parts of an operation under a test of their number
counts : (l : Dats) (test : ℕ → Bool) → test (length_of l) ≡ true → (are_expressions (roles_in (in_roles Expression l)) && test (length (roles_in (in_roles Expression l)))) ≡ true
counts l test h =
    both_true (are_expressions (roles_in (in_roles Expression l))) (test (length (roles_in (in_roles Expression l)))) (expressions l) (ap test (counted Expression l) ∙ h)

-- ---- shapes under a condition

when_so : (b : Bool) (context : Context) (r : Role) (s : Shape) → (b ≡ true → Fits context r (Some s)) → Fits context r (if b then Some s else None)
when_so true context r s h = h refl
when_so false context r s h = tt

unless_so : (b : Bool) (context : Context) (r : Role) (s : Shape) → Fits context r (Some s) → Fits context r (if b then None else Some s)
unless_so true context r s h = tt
unless_so false context r s h = h

bare : {A : Type 0} (context : Context) (r : Role) (o : Option A) (f : A → Operator) → ((x : A) → Fits context r (Some (atom (f x)))) → Fits context r (o >>= λ x. Some (atom (f x)))
bare context r None f h = tt
bare context r (Some x) f h = h x

quoted : (context : Context) (d : Dat) → Fits context Expression (Some (atom (quoting (quotation d))))
quoted context d = elim (quotation d) as (λ o. Fits context Expression (Some (atom (quoting o)))) [ Some v ↦ (refl, refl) | None ↦ (refl, refl) ]

named : (context : Context) (name : Name) → Fits context Expression (Some (atom (symbol_operator name)))
named context name = elim (is_constant name) as (λ b. Fits context Expression (Some (atom (if b then constant (name_value name) else variable name)))) [ true ↦ (refl, refl) | false ↦ (refl, refl) ]

-- ---- bindings

inits : (es : List Entry) (ps : List Part) → are_expressions (roles_in ps) ≡ true → inits_and_body (bounds_of es) (roles_in (inits_of es ++ ps)) ≡ true
inits [] ps h = h
inits (e ∷ es) ps h =
    elim e.init as (λ o. first_if (is_some o) (inits_and_body (bounds_of es)) (roles_in ((optional o ++ inits_of es) ++ ps)) ≡ true)
    [ None ↦ inits es ps h | Some d ↦ inits es ps h ]

let_case : (context : Context) (o : Option (List Entry)) (l : Dats) → Fits context Expression (o >>= λ es. let_with es l)
let_case context None l = tt
let_case context (Some es) l =
    when_so (are_distinct (names_of es)) context Expression (shape (let_form (bounds_of es)) (inits_of es ++ body_parts l))
    (λ _. (inits es (body_parts l) (body l), refl))

let_in_order_case : (context : Context) (o : Option (List Entry)) (l : Dats) → Fits context Expression (o >>= λ es. Some (shape (let_in_order (bounds_of es)) (inits_of es ++ body_parts l)))
let_in_order_case context None l = tt
let_in_order_case context (Some es) l = (inits es (body_parts l) (body l), refl)

let_fits : (context : Context) (l : Dats) → Fits context Expression (let_shape l)
let_fits context nil = tt
let_fits context (cons d l) = let_case context (each_in binding_in d) l

let_in_order_fits : (context : Context) (l : Dats) → Fits context Expression (let_in_order_shape l)
let_in_order_fits context nil = tt
let_in_order_fits context (cons d l) = let_in_order_case context (each_in binding_in d) l

-- ---- setq and setf

abbrev Sets : Option (List Entry) → Type 0
Sets None = ⊤
Sets (Some es) = values (names_of es) (roles_in (inits_of es)) ≡ true

set_one : (v : Option Name) (d : Dat) (r : Option (List Entry)) → Sets r → Sets (v >>= λ n. r >>= λ es. Some (entry n (Some d) ∷ es))
set_one None d r h = tt
set_one (Some n) d None h = tt
set_one (Some n) d (Some es) h = h

sets : (l : Dats) → Sets (assignments_in l)
sets nil = refl
sets (cons v nil) = tt
sets (cons v (cons d l)) = set_one (variable_in v) d (assignments_in l) (sets l)

setq_case : (context : Context) (o : Option (List Entry)) → Sets o → Fits context Expression (o >>= λ es. Some (shape (setq (names_of es)) (inits_of es)))
setq_case context None h = tt
setq_case context (Some es) h = (h, refl)

abbrev Stores : Option (List Part) → Type 0
Stores None = ⊤
Stores (Some ps) = assignments (roles_in ps) ≡ true

store_one : (p d : Dat) (r : Option (List Part)) → Stores r → Stores (r >>= λ ps. Some (in_role Place p ∷ (in_role Expression d ∷ ps)))
store_one p d None h = tt
store_one p d (Some ps) h = h

stores : (l : Dats) → Stores (setf_parts l)
stores nil = refl
stores (cons p nil) = tt
stores (cons p (cons d l)) = store_one p d (setf_parts l) (stores l)

setf_case : (context : Context) (o : Option (List Part)) → Stores o → Fits context Expression (o >>= λ ps. Some (shape setf ps))
setf_case context None h = tt
setf_case context (Some ps) h = (h, refl)

incf_fits : (context : Context) (l : Dats) → Fits context Expression (change_shape incf l)
incf_fits context nil = tt
incf_fits context (cons p l) =
    when_so (nat_le (length_of l) 1) context Expression (shape incf (in_role Place p ∷ in_roles Expression l)) (λ h. (counts l (λ n. nat_le n 1) h, refl))

decf_fits : (context : Context) (l : Dats) → Fits context Expression (change_shape decf l)
decf_fits context nil = tt
decf_fits context (cons p l) =
    when_so (nat_le (length_of l) 1) context Expression (shape decf (in_role Place p ∷ in_roles Expression l)) (λ h. (counts l (λ n. nat_le n 1) h, refl))

-- ---- dotimes and with-slots

result_and_body : (o : Option Dat) (ps : List Part) → are_expressions (roles_in ps) ≡ true → first_if (is_some o) are_expressions (roles_in (optional o ++ ps)) ≡ true
result_and_body None ps h = h
result_and_body (Some d) ps h = h

dotimes_case : (context : Context) (o : Option Counter) (l : Dats) → Fits context Expression (o >>= λ c. Some (dotimes_with c l))
dotimes_case context None l = tt
dotimes_case context (Some c) l = (result_and_body c.result (body_parts l) (body l), refl)

dotimes_fits : (context : Context) (l : Dats) → Fits context Expression (dotimes_shape l)
dotimes_fits context nil = tt
dotimes_fits context (cons d l) = dotimes_case context (counter_in d) l

slots_case : (context : Context) (o : Option (List BoundSlot)) (d : Dat) (l : Dats) → Fits context Expression (o >>= λ ss. slots_with ss d l)
slots_case context None d l = tt
slots_case context (Some ss) d l =
    when_so (are_distinct (variables_of ss)) context Expression (shape (with_slots ss) (in_role Expression d ∷ body_parts l)) (λ _. (body l, refl))

with_slots_fits : (context : Context) (l : Dats) → Fits context Expression (with_slots_shape l)
with_slots_fits context nil = tt
with_slots_fits context (cons e nil) = tt
with_slots_fits context (cons e (cons d l)) = slots_case context (each_in slot_in e) d l

-- ---- all shapes

in_body : (context : Context) (b c : Bool) → in_method context ≡ b → c ≡ true → b ≡ true → (in_method context && c) ≡ true
in_body context b c e h g = both_true (in_method context) c (e ∙ g) h

first_of : (a b : Bool) → (a && b) ≡ true → a ≡ true
first_of true b h = refl
first_of false b h = h

special_fits : (context : Context) (s : Special) (l : Dats) → Fits context Expression (special_shape context s l)
special_fits context Quote l = bare context Expression (only_in l) (λ d. quoting (quotation d)) (quoted context)
special_fits context Function l = bare context Expression (only_in l >>= function_named) function (λ c. (refl, refl))
special_fits context If l =
    when_so (nat_le 2 (length_of l) && nat_le (length_of l) 3) context Expression (operation if_form l)
    (λ h. (counts l (λ n. nat_le 2 n && nat_le n 3) h, refl))
special_fits context Cond l = (clauses l, refl)
special_fits context When l = when_so (nat_le 1 (length_of l)) context Expression (operation when l) (λ h. (counts l (nat_le 1) h, refl))
special_fits context Unless l = when_so (nat_le 1 (length_of l)) context Expression (operation unless l) (λ h. (counts l (nat_le 1) h, refl))
special_fits context And l = (expressions l, refl)
special_fits context Or l = (expressions l, refl)
special_fits context Progn l = (expressions l, refl)
special_fits context Prog1 l = when_so (nat_le 1 (length_of l)) context Expression (operation prog1 l) (λ h. (counts l (nat_le 1) h, refl))
special_fits context Let l = let_fits context l
special_fits context LetInOrder l = let_in_order_fits context l
special_fits context Setq l = setq_case context (assignments_in l) (sets l)
special_fits context Setf l = setf_case context (setf_parts l) (stores l)
special_fits context Incf l = incf_fits context l
special_fits context Decf l = decf_fits context l
special_fits context Dotimes l = dotimes_fits context l
special_fits context WithSlots l = with_slots_fits context l
special_fits context CallNextMethod l =
    when_so (in_method context) context Expression (operation call_next_method l)
    (λ h. (both_true (in_method context) (are_expressions (roles_in (in_roles Expression l))) h (expressions l), refl))
special_fits context NextMethodP l =
    when_so (in_method context && nat_le (length_of l) 0) context Expression (atom next_method_p)
    (λ h. (both_true (in_method context) true (first_of (in_method context) (nat_le (length_of l) 0) h) refl, refl))

-- ---- call-method

made_expressions : (ms : List NamedMethod) → are_expressions (roles_in (made_parts ms)) ≡ true
made_expressions [] = refl
made_expressions (numbered n ∷ ms) = made_expressions ms
made_expressions (made_of d ∷ ms) = made_expressions ms

made_counted : (ms : List NamedMethod) → length (roles_in (made_parts ms)) ≡ made_among (callables_of ms)
made_counted [] = refl
made_counted (numbered n ∷ ms) = made_counted ms
made_counted (made_of d ∷ ms) = let e : length (roles_in (made_parts ms)) ≡ made_among (callables_of ms) = made_counted ms in omega (arith, e)

made_fit : (ms : List NamedMethod) → forms_of_made (callables_of ms) (roles_in (made_parts ms)) ≡ true
made_fit ms =
    both_true (are_expressions (roles_in (made_parts ms))) (length (roles_in (made_parts ms)) == made_among (callables_of ms)) (made_expressions ms)
    (eq-eqb (length (roles_in (made_parts ms))) (made_among (callables_of ms)) (made_counted ms))

next_case : (context : Context) (m : NamedMethod) (o : Option (List NamedMethod)) → in_effective context ≡ true → Fits context Expression (o >>= λ ms. Some (calling m ms))
next_case context m None h = tt
next_case context m (Some ms) h =
    (both_true (in_effective context) (forms_of_made (callables_of (m ∷ ms)) (roles_in (made_parts (m ∷ ms)))) h (made_fit (m ∷ ms)), refl)

method_case : (context : Context) (m : Option NamedMethod) (o : Option (List NamedMethod)) → in_effective context ≡ true → Fits context Expression (m >>= λ x. o >>= λ ms. Some (calling x ms))
method_case context None o h = tt
method_case context (Some m) o h = next_case context m o h

call_method_fits : (context : Context) (l : Dats) → in_effective context ≡ true → Fits context Expression (call_method_shape l)
call_method_fits context nil h = tt
call_method_fits context (cons d l) h = method_case context (method_in d) (next_methods_in l) h

call_fits : (context : Context) (a b c : Bool) (name : Name) (l : Dats) → in_effective context ≡ b → Fits context Expression (if a then None else if b && c then call_method_shape l else Some (operation (call name) l))
call_fits context true b c name l h = tt
call_fits context false true true name l h = call_method_fits context l h
call_fits context false true false name l h = (expressions l, refl)
call_fits context false false c name l h = (expressions l, refl)

named_fits : (o : Option Special) (context : Context) (name : Name) (l : Dats) → Fits context Expression (named_shape o context name l)
named_fits None context name l =
    call_fits context (is_one_of definitions name) (in_effective context) (is_called (codes "CALL-METHOD") name) name l refl
named_fits (Some s) context name l = special_fits context s l

headed_fits : (context : Context) (d : Dat) (l : Dats) → Fits context Expression (headed_shape context d l)
headed_fits context (integer n) l = tt
headed_fits context (symbol name) l = named_fits (special_of name) context name l
headed_fits context (string s) l = tt
headed_fits context (list m) l = tt
headed_fits context (dotted m d) l = tt
headed_fits context (method n) l = tt

expression_fits : (context : Context) (d : Dat) → Fits context Expression (expression_shape context d)
expression_fits context (integer n) = (refl, refl)
expression_fits context (symbol name) = named context name
expression_fits context (string s) = (refl, refl)
expression_fits context (list nil) = (refl, refl)
expression_fits context (list (cons d l)) = headed_fits context d l
expression_fits context (dotted l d) = tt
expression_fits context (method n) = tt

clause_fits : (context : Context) (d : Dat) → Fits context Clause (clause_shape d)
clause_fits context (integer n) = tt
clause_fits context (symbol name) = tt
clause_fits context (string s) = tt
clause_fits context (list l) = when_so (nat_le 1 (length_of l)) context Clause (operation clause l) (λ h. (counts l (nat_le 1) h, refl))
clause_fits context (dotted l d) = tt
clause_fits context (method n) = tt

called_place : (context : Context) (a c : Bool) (name : Name) (l : Dats) → Fits context Place (if a then (if length_of l == 2 then Some (operation (place slot_value_place) l) else None) else if c then None else Some (operation (place (call_place name)) l))
called_place context true c name l = when_so (length_of l == 2) context Place (operation (place slot_value_place) l) (λ h. (counts l (λ n. n == 2) h, refl))
called_place context false c name l = unless_so c context Place (operation (place (call_place name)) l) (expressions l, refl)

place_called : (context : Context) (o : Option Name) (l : Dats) → Fits context Place (o >>= λ n. named_place n l)
place_called context None l = tt
place_called context (Some name) l =
    called_place context (is_called (codes "SLOT-VALUE") name) (is_one_of special_operators name || is_one_of definitions name) name l

place_fits : (context : Context) (d : Dat) → Fits context Place (place_shape d)
place_fits context (integer n) = tt
place_fits context (symbol name) = bare context Place (unless_constant name) (λ n. place (variable_place n)) (λ n. (refl, refl))
place_fits context (string s) = tt
place_fits context (list nil) = tt
place_fits context (list (cons d l)) = place_called context (symbol_in d) l
place_fits context (dotted l d) = tt
place_fits context (method n) = tt

shape_fits : (context : Context) (r : Role) (d : Dat) → Fits context r (shape_of context r d)
shape_fits context Expression d = expression_fits context d
shape_fits context Clause d = clause_fits context d
shape_fits context Place d = place_fits context d

-- ---- forms

made_well : (room : ℕ) (context : Context) (p : Part) → Made context p.role (tree_at room context p)
made_well zero context p = tt
made_well (suc room) context p =
    of_shape context p.role (tree_at room context) (made_well room context) (shape_of context p.role p.datum) (shape_fits context p.role p.datum)

stands_alone : (context : Context) (o : Option Form) (f : Form) → Made context Expression o → o ≡ Some f → is_well_formed context f ≡ true
stands_alone context o f h e =
    let m : Made context Expression (Some f) = subst (Made context Expression) e h in
    both_true (is_expression (role_of (operator_in f))) (is_made_well context f) (ap is_expression m.1) m.0

-- a form that an expression is
pub form_is_well_formed : (room : ℕ) (context : Context) (d : Dat) (f : Form) → tree_at room context (record { role = Expression; datum = d }) ≡ Some f → is_well_formed context f ≡ true
form_is_well_formed room context d f e =
    stands_alone context (tree_at room context (record { role = Expression; datum = d })) f (made_well room context (record { role = Expression; datum = d })) e

all_stand_alone : (context : Context) (rs : List Role) (o : Option Forms) (fs : Forms) → AllMade context rs o → are_expressions rs ≡ true → o ≡ Some fs → are_well_formed context fs ≡ true
all_stand_alone context rs o fs h g e =
    let m : AllMade context rs (Some fs) = subst (AllMade context rs) e h in
    both_true (are_expressions (roles_of fs)) (are_made_well context fs) (ap are_expressions m.1 ∙ g) m.0

-- the forms that expressions are
pub forms_are_well_formed : (room : ℕ) (context : Context) (l : Dats) (fs : Forms) → each_part (tree_at room context) (in_roles Expression l) (Some no_forms) ≡ Some fs → are_well_formed context fs ≡ true
forms_are_well_formed room context l fs e =
    all_stand_alone context (roles_in (in_roles Expression l)) (each_part (tree_at room context) (in_roles Expression l) (Some no_forms)) fs
    (all_parts context (tree_at room context) (made_well room context) (in_roles Expression l)) (expressions l) e

-- what a parse answers
pub parsed_form : (room : ℕ) (context : Context) (d : Dat) (r : Result Form SyntaxFault) → Gives (λ f. f) r (tree_at room context (record { role = Expression; datum = d })) → IfOk r (λ f. is_well_formed context f ≡ true)
parsed_form room context d (Ok f) h = form_is_well_formed room context d f h
parsed_form room context d (Err e) h = tt

pub parsed_forms : (room : ℕ) (context : Context) (l : Dats) (r : Result Forms SyntaxFault) → Gives (λ fs. fs) r (each_part (tree_at room context) (in_roles Expression l) (Some no_forms)) → IfOk r (λ fs. are_well_formed context fs ≡ true)
parsed_forms room context l (Ok fs) h = forms_are_well_formed room context l fs h
parsed_forms room context l (Err e) h = tt
