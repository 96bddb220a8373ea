-- What templates stand for, by their operators (HyperSpec 7.7 define-method-combination).
use Rattle.std.specs.Prelude.{ℕ, zero, suc, Bool, true, false, List, [], ◌∷◌, ◌++◌, Option, Some, None, if◌then◌else◌, length, drop}
use Rattle.lisp_data.specs.Name.{Name, same_kind}
use Rattle.lisp_data.specs.Datum.{Dat, dotted, Dats, nil, cons, elements}
use Rattle.clos_forms.specs.Operator.{Bound}
use Rattle.clos_lambda.specs.Lists.{ahead, list_in}
use Rattle.clos_template.specs.Expansion.{Expansion, made, bad, then_do, built}
use Rattle.clos_template.specs.Function.{answer, from_elements, is_nil, nil_symbol, prepended, truth, with_elements}
use Rattle.clos_template.specs.Operator.{Operator, constant, variable, if_form, cond, and_form, or_form, let_form, let_in_order, mapcar, call, written}
use Rattle.clos_template.specs.Scope.{Env, bound, value_of}
use Rattle.clos_template.specs.Template.{Template, template, Templates, nil as none, cons as more}

-- what is given where names stand for this, and so many conses may still be made
abbrev pub Meaning : Type 0
Meaning = Env → ℕ → Expansion

-- the one datum or the other
abbrev pub choose : Dat → Expansion → Expansion → Expansion
choose d a b = if is_nil d then b else a

-- the part at a place, or NIL where there is none
abbrev pub part : List Meaning → ℕ → Meaning
part [] k env n = made nil_symbol n
part (m ∷ ms) zero env n = m env n
part (m ∷ ms) (suc k) env n = part ms k env n

-- what a name stands for costs no cons; a name that stands for nothing is a fault
abbrev pub known : Option Dat → ℕ → Expansion
known None n = bad
known (Some d) n = made d n

-- the last of the parts, or this datum where there are none
abbrev pub sequence : List Meaning → Dat → Meaning
sequence [] d env n = made d n
sequence (m ∷ ms) d env n = then_do (m env n) (λ e k. sequence ms e env k)

-- the first that is NIL where the flag is true, and that is not NIL where it is false; else the last, or this datum where there are none
abbrev pub until : Bool → List Meaning → Dat → Meaning
until stop [] d env n = made d n
until stop (m ∷ ms) d env n = then_do (m env n) (λ e k. if same_kind (is_nil e) stop then made e k else until stop ms e env k)

-- the body of a clause, or its test where it has none
abbrev pub clause_value : Bool → List Meaning → Dat → Meaning
clause_value b ms d env n = if b then part ms 1 env n else made d n

-- what is left of the parts after a clause
abbrev pub after_clause : Bool → List Meaning → List Meaning
after_clause b ms = if b then drop 2 ms else drop 1 ms

-- the first clause whose test is not NIL
abbrev pub clauses : List Bool → List Meaning → Meaning
clauses [] ms env n = made nil_symbol n
clauses (b ∷ bs) ms env n =
    then_do (part ms 0 env n) (λ d k. choose d (clause_value b ms d env k) (clauses bs (after_clause b ms) env k))

-- ---- variables

-- the value of a variable, where it has one; else it is NIL
abbrev pub init : Bound → List Meaning → Meaning
init b ms env n = if b.has_init then part ms 0 env n else made nil_symbol n

-- what is left of the parts after the value of a variable
abbrev pub after_init : Bound → List Meaning → List Meaning
after_init b ms = if b.has_init then drop 1 ms else ms

-- all values are given before a variable is bound
abbrev pub aside : List Bound → List Meaning → Env → Meaning
aside [] ms new env n = sequence ms nil_symbol (env ++ new) n
aside (b ∷ bs) ms new env n = then_do (init b ms env n) (λ d k. aside bs (after_init b ms) (new ++ bound b.name d ∷ []) env k)

-- each variable is bound before the next value is given
abbrev pub in_order : List Bound → List Meaning → Meaning
in_order [] ms env n = sequence ms nil_symbol env n
in_order (b ∷ bs) ms env n = then_do (init b ms env n) (λ d k. in_order bs (after_init b ms) (env ++ bound b.name d ∷ []) k)

-- what is given for each element, with this variable for it
abbrev pub mapped : Name → Meaning → Env → Dats → List Dat → ℕ → Expansion
mapped v m env nil ds n = prepended ds nil n
mapped v m env (cons d l) ds n = then_do (m (env ++ bound v d ∷ []) n) (λ e k. mapped v m env l (ds ++ e ∷ []) k)

-- the list of what the second part gives for each element of the list that the first one gives, with this variable for it
abbrev pub mapcar_of : Name → List Meaning → Meaning
mapcar_of v ms env n = then_do (part ms 0 env n) (λ d k. with_elements (list_in d) (λ l. mapped v (part ms 1) env l [] k))

-- ---- backquoted lists

-- the list of these elements, with this atom after its dot
abbrev pub ended : List Dat → Option Dat → Dat
ended ds None = from_elements (ahead ds nil)
ended [] (Some d) = d
ended (e ∷ ds) (Some d) = dotted (ahead (e ∷ ds) nil) d

-- where no flags are left, nothing is spliced, as of the arguments of a function
abbrev pub first_flag : List Bool → Bool
first_flag [] = false
first_flag (b ∷ bs) = b

-- the elements of what is spliced stand in its place
abbrev pub standing : Bool → Dat → List Dat → (List Dat → Expansion) → Expansion
standing false d ds go = go (ds ++ d ∷ [])
standing true d ds go = with_elements (list_in d) (λ l. go (ds ++ elements l))

-- what all parts give, from left to right; the elements of those that are spliced
abbrev pub gather : List Bool → List Meaning → Env → List Dat → (List Dat → ℕ → Expansion) → ℕ → Expansion
gather bs [] env ds go n = go ds n
gather bs (m ∷ ms) env ds go n =
    then_do (m env n) (λ d k. standing (first_flag bs) d ds (λ es. gather (drop 1 bs) ms env es go k))

-- ---- templates

-- what an operator gives of its parts
abbrev pub operated : Operator → List Meaning → Meaning
operated (constant d) ms env n = made d n
operated (variable name) ms env n = known (value_of env name) n
operated if_form ms env n = then_do (part ms 0 env n) (λ d k. choose d (part ms 1 env k) (part ms 2 env k))
operated (cond bs) ms env n = clauses bs ms env n
operated and_form ms env n = until true ms (truth true) env n
operated or_form ms env n = until false ms nil_symbol env n
operated (let_form bs) ms env n = aside bs ms [] env n
operated (let_in_order bs) ms env n = in_order bs ms env n
operated (mapcar v) ms env n = mapcar_of v ms env n
operated (call f) ms env n = gather [] ms env [] (answer f) n
operated (written bs last) ms env n = gather bs ms env [] (λ ds k. built (length ds) (ended ds last) k) n

abbrev mutual
  -- the operator says which of the parts are expanded, and what names stand for in them
  pub meaning : Template → Meaning
  meaning (template o parts) = operated o (meanings parts)

  -- each by itself, in order: none is expanded before the operator asks for it
  pub meanings : Templates → List Meaning
  meanings none = []
  meanings (more t ts) = meaning t ∷ meanings ts
