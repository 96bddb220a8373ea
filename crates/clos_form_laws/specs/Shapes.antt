-- What well-formed forms mean, told of parts that can't be malformed (HyperSpec 3.1.2.1). Where the meaning says something of other parts,
-- it is never met.
use Rattle.std.specs.Prelude.{◌≡◌, ℕ, List, [], ◌∷◌, Bool, true, Option, Some, None, is_some, map, ⊤}
use Rattle.lisp_data.specs.Name.{Name}
use Rattle.lisp_data.specs.Value.{Val, list, nil as no_values}
use Rattle.lisp_prims.specs.lisp_functions.declared.primitive.Primitive.{Primitive}
use Rattle.clos_forms.specs.Form.{Form, form, Forms, nil, cons, list_from, operator_in, parts_in}
use Rattle.clos_forms.specs.Operator.{Bound, Callable, the_method, made, Operator, Place}
use Rattle.clos_forms.specs.Operator as of
use Rattle.clos_forms.specs.WellFormed.{is_well_formed}
use Rattle.clos_forms.specs.declared.part.Context.{Context as Standing}
use Rattle.clos_meaning.specs.Contexts.{Context}
use Rattle.clos_meaning.specs.Meaning.{alone, assigned, changed_by, changing, collect, setf, setq}
use Rattle.clos_meaning.specs.Outcome.{Eval, Gave, Run, then_do}
use Rattle.clos_meaning.specs.SlotNames.{name_stored}
use Rattle.clos_meaning.specs.Variables.{aside, binding, body_of, dotimes, in_order, repeated, result_value, together, within}
use Rattle.clos_meaning.specs.clos_world.World.{Local, State, held}

-- ---- forms that are there or not

-- this one, where it is there, before the others
abbrev pub with_form : Option Form → Forms → Forms
with_form None fs = fs
with_form (Some f) fs = cons f fs

-- its value, and NIL where it is not there
abbrev pub value_or_nil : Eval → Context → Option Form → Run
value_or_nil ev env None w s = Gave (list no_values) w s
value_or_nil ev env (Some f) w s = ev env f w s

-- ---- setq

-- each variable is set before the next form is evaluated
abbrev pub set_each : Eval → Context → List (Name × Form) → Val → Run
set_each ev env [] v w s = Gave v w s
set_each ev env (p ∷ ps) v w s = then_do (collect ev env (alone p.1) [] (name_stored ev env p.0) w s) (λ u. set_each ev env ps u)

-- names, each with the form of its new value
pub record SetqShape (names : List Name) (fs : Forms) : Type 0 where
  pub pairs : List (Name × Form)
  pub their_names : names ≡ map (λ p. p.0) pairs
  pub their_forms : fs ≡ list_from (map (λ p. p.1) pairs)
  pub means : (ev : Eval) (env : Context) (v : Val) (w : State) (s : ℕ) → setq ev env names fs v w s ≡ set_each ev env pairs v w s

-- ---- setf, incf and decf

-- a place with its subforms
pub record Target : Type 0 where
  pub place : Place
  pub parts : Forms

-- as the form that it is
abbrev pub form_of : Target → Form
form_of t = form (of.place t.place) t.parts

-- each place is set before the next form is evaluated
abbrev pub store_each : Eval → Context → List (Target × Form) → Val → Run
store_each ev env [] v w s = Gave v w s
store_each ev env (p ∷ ps) v w s = then_do (assigned ev env (Some p.0.place) p.0.parts p.1 w s) (λ u. store_each ev env ps u)

-- places and forms in turn
abbrev pub in_turn : List (Target × Form) → Forms
in_turn [] = nil
in_turn (p ∷ ps) = cons (form_of p.0) (cons p.1 (in_turn ps))

-- places, each with the form of its new value
pub record SetfShape (fs : Forms) : Type 0 where
  pub pairs : List (Target × Form)
  pub parts : fs ≡ in_turn pairs
  pub means : (ev : Eval) (env : Context) (v : Val) (w : State) (s : ℕ) → setf ev env fs v w s ≡ store_each ev env pairs v w s

-- a place, and the form of the amount, where there is one
pub record ChangeShape (fs : Forms) : Type 0 where
  pub target : Target
  pub amount : Option Form
  pub parts : fs ≡ cons (form_of target) (with_form amount nil)
  pub means : (ev : Eval) (env : Context) (p : Primitive) (w : State) (s : ℕ)
      → changing ev env p fs w s ≡ changed_by ev env p (Some target.place) target.parts (with_form amount nil) w s

-- ---- let and let*

-- the variables, of which some have an init form
abbrev pub bounds : List (Name × Option Form) → List Bound
bounds [] = []
bounds (b ∷ bs) = record { name = b.0; has_init = is_some b.1 } ∷ bounds bs

-- those forms, before the body
abbrev pub inits : List (Name × Option Form) → Forms → Forms
inits [] body = body
inits (b ∷ bs) body = with_form b.1 (inits bs body)

-- each variable is bound to its value before the next
abbrev pub bound_in_order : Eval → Context → ℕ → List (Name × Option Form) → Forms → Run
bound_in_order ev env n [] body w s = within ev env n body (list no_values) w s
bound_in_order ev env n (b ∷ bs) body w s = then_do (value_or_nil ev env b.1 w s) (λ v. binding b.0 v (bound_in_order ev env n bs body))

-- first all values, the last of them first
abbrev pub bound_aside : Eval → Context → ℕ → List (Name × Option Form) → Forms → List Local → Run
bound_aside ev env n [] body ls w s = together ev env n ls body w s
bound_aside ev env n (b ∷ bs) body ls w s = then_do (value_or_nil ev env b.1 w s) (λ v. bound_aside ev env n bs body ((b.0, held v) ∷ ls))

-- variables, each with its init form where it has one, and a body
pub record LetShape (bs : List Bound) (fs : Forms) : Type 0 where
  pub bindings : List (Name × Option Form)
  pub body : Forms
  pub names : bs ≡ bounds bindings
  pub parts : fs ≡ inits bindings body
  pub in_order : (ev : Eval) (env : Context) (n : ℕ) (w : State) (s : ℕ) → in_order ev env n bs fs w s ≡ bound_in_order ev env n bindings body w s
  pub aside : (ev : Eval) (env : Context) (n : ℕ) (ls : List Local) (w : State) (s : ℕ)
      → aside ev env n bs fs ls w s ≡ bound_aside ev env n bindings body ls w s

-- ---- dotimes

-- the form of the count, that of the result where there is one, and a body
pub record DotimesShape (has_result : Bool) (fs : Forms) : Type 0 where
  pub count : Form
  pub result : Option Form
  pub body : Forms
  pub has : has_result ≡ is_some result
  pub parts : fs ≡ cons count (with_form result body)
  pub turns : body_of has_result (with_form result body) ≡ body
  pub gives : (ev : Eval) (env : Context) (w : State) (s : ℕ) → result_value ev env has_result (with_form result body) w s ≡ value_or_nil ev env result w s
  pub means : (ev : Eval) (env : Context) (n : ℕ) (name : Name) (w : State) (s : ℕ)
      → dotimes ev env n name has_result fs w s
      ≡ then_do (ev env count w s) (λ v. repeated ev env (record { outer = n; name = name; has_result = has_result; forms = with_form result body }) v)

-- ---- call-method

-- what is called is a method by its number, or made of a form
abbrev pub HasItsForm : Callable → Forms → Type 0
HasItsForm (the_method m) fs = ⊤
HasItsForm made nil = ⊥
HasItsForm made (cons f fs) = ⊤

-- ---- forms

-- the operator has parts that can be told so; clauses and places are no forms by themselves
abbrev pub IsShaped : Operator → Forms → Type 0
IsShaped of.clause fs = ⊥
IsShaped (of.place p) fs = ⊥
IsShaped (of.setq names) fs = SetqShape names fs
IsShaped of.setf fs = SetfShape fs
IsShaped of.incf fs = ChangeShape fs
IsShaped of.decf fs = ChangeShape fs
IsShaped (of.let_form bs) fs = LetShape bs fs
IsShaped (of.let_in_order bs) fs = LetShape bs fs
IsShaped (of.dotimes name has_result) fs = DotimesShape has_result fs
IsShaped (of.call_method m next) fs = HasItsForm m fs
IsShaped o fs = ⊤

-- Each form that may stand by itself has such parts.
abbrev pub FormsAreShaped : Type 0
FormsAreShaped = (standing : Standing) (f : Form) → is_well_formed standing f ≡ true → IsShaped (operator_in f) (parts_in f)
