-- Variables, and what binds them (HyperSpec 3.1.2.1.1, 5.3 `let`, `let*`, 6.2 `dotimes`).
use Rattle.std.specs.Prelude.{ℕ, zero, suc, ℤ, pos, negsuc, Bool, true, false, List, [], ◌∷◌, ◌++◌, map, Option, Some, None, if◌then◌else◌}
use Rattle.lisp_data.specs.Name.{Name}
use Rattle.lisp_data.specs.Value.{Val, integer, symbol, string, list, class, generic, method, instance, nil}
use Rattle.clos_forms.specs.Form.{Forms}
use Rattle.clos_forms.specs.Form as form
use Rattle.clos_forms.specs.Operator.{Bound}
use Rattle.clos_forms.specs.Quotation.{name_value}
use Rattle.clos_world.specs.Globals.{is_global, global_value, any_global}
use Rattle.clos_world.specs.World.{State, Denoted, held, in_slot, Local, bound_as, local_named, outermost}
use Rattle.clos_world.specs.declared.condition.ConditionKind.TheVariants.{ProgramError, UnboundVariable, TypeError, Unsupported}
use Rattle.clos_meaning.specs.Contexts.{Context}
use Rattle.clos_meaning.specs.Control.{sequence}
use Rattle.clos_meaning.specs.Outcome.{Gave, Run, Eval, then_do, step_then, stopped}

-- the innermost lexical variable's value, else the global one's; a name that stands for a slot hides both
abbrev pub or_global : Option Denoted → Option Val → Option Val
or_global (Some (held v)) global = Some v
or_global (Some (in_slot slot object)) global = None
or_global None global = global

-- the value of a symbol as a form (3.1.2.1.1); none where it names no variable, or one without a value
abbrev pub found_value : State → Name → Option Val
found_value w name = or_global (local_named w.locals name) (global_value w.globals name)

-- where there is none: UNBOUND-VARIABLE, also for a global variable that was given no value
abbrev pub variable_value : Name → Option Val → Run
variable_value name None w s = stopped UnboundVariable (name_value name ∷ []) w s
variable_value name (Some v) w s = Gave v w s

-- one more variable, within the others
abbrev pub inner : Name → Val → State → State
inner name v w = bound_as ((name, held v) ∷ w.locals) w

-- The same, before going on; but a global variable is never bound.
abbrev pub binding : Name → Val → Run → Run
binding name v go w s = if is_global w.globals name then stopped Unsupported [] w s else go (inner name v w) s

-- this value, with so many of the outermost names left
abbrev pub leaving : ℕ → Val → Run
leaving n v w s = Gave v (bound_as (outermost n w.locals) w) s

-- a body within names of which only so many stay after it
abbrev pub within : Eval → Context → ℕ → Forms → Val → Run
within ev env n fs v w s = then_do (sequence ev env fs v w s) (leaving n)

-- The value of an init form, the next of the forms. The grammar gives a form to each variable that has one.
abbrev pub init_form : Eval → Context → Forms → (Forms → Val → Run) → Run
init_form ev env form.nil go w s = stopped ProgramError [] w s
init_form ev env (form.cons f fs) go w s = then_do (ev env f w s) (λ v. go fs v)

-- ---- let*: each variable is bound to the value of its init form, or to NIL, before the next; then the body

-- the bindings that are left, with their init forms and the body; so many names are outside of let*
abbrev pub in_order : Eval → Context → ℕ → List Bound → Forms → Run
in_order ev env n [] fs w s = within ev env n fs (list nil) w s
in_order ev env n (b ∷ bs) fs w s =
    if b.has_init then init_form ev env fs (λ rest v. binding b.name v (in_order ev env n bs rest)) w s
    else binding b.name (list nil) (in_order ev env n bs fs) w s

-- ---- let: first all values; then all variables are bound, and then the body

-- the name that is bound, without what it denotes
abbrev pub name_in : Local → Name
name_in l = l.0

-- all at once; where one of the names is that of a global variable, none is bound: UNSUPPORTED
abbrev pub together : Eval → Context → ℕ → List Local → Forms → Run
together ev env n ls fs w s =
    if any_global w.globals (map name_in ls) then stopped Unsupported [] w s
    else within ev env n fs (list nil) (bound_as (ls ++ w.locals) w) s

-- with the variables whose values are there, the last one first
abbrev pub aside : Eval → Context → ℕ → List Bound → Forms → List Local → Run
aside ev env n [] fs ls w s = together ev env n ls fs w s
aside ev env n (b ∷ bs) fs ls w s =
    if b.has_init then init_form ev env fs (λ rest v. aside ev env n bs rest ((b.name, held v) ∷ ls)) w s
    else aside ev env n bs fs ((b.name, held (list nil)) ∷ ls) w s

-- ---- dotimes

-- a loop: how many variables are outside it, its own, whether it has a result form, and that form and the body
pub record Loop : Type 0 where
  pub outer : ℕ
  pub name : Name
  pub has_result : Bool
  pub forms : Forms

-- the forms of each turn: those after the result form, where one is written
abbrev pub body_of : Bool → Forms → Forms
body_of false fs = fs
body_of true form.nil = form.nil
body_of true (form.cons f fs) = fs

-- what the loop gives after its last turn; NIL where no result form is written
abbrev pub result_value : Eval → Context → Bool → Forms → Run
result_value ev env false fs w s = Gave (list nil) w s
result_value ev env true form.nil w s = Gave (list nil) w s
result_value ev env true (form.cons f fs) w s = ev env f w s

-- its variable set to the number of turns done
abbrev pub with_count : Loop → ℤ → List Local → List Local
with_count l done ls = (l.name, held (integer done)) ∷ outermost l.outer ls

-- the state before a turn or the result: whatever was assigned to the variable is gone
abbrev pub counted : Loop → ℤ → State → State
counted l done w = bound_as (with_count l done w.locals) w

-- Each turn takes a step, and then sets the variable; before the result it is set again.
abbrev pub turns : Eval → Context → Loop → ℕ → ℕ → Run
turns ev env l zero done w s = then_do (result_value ev env l.has_result l.forms (counted l (pos done) w) s) (leaving l.outer)
turns ev env l (suc left) done w s =
    step_then (λ u k. then_do (sequence ev env (body_of l.has_result l.forms) (list nil) (counted l (pos done) u) k) (λ v. turns ev env l left (suc done))) w s

-- a count below 0 makes no turn
abbrev pub turns_in : ℤ → ℕ
turns_in (pos n) = n
turns_in (negsuc n) = 0

-- the count has to be an integer, and the name not that of a global variable; then the turns
abbrev pub repeated : Eval → Context → Loop → Val → Run
repeated ev env l (integer n) w s = if is_global w.globals l.name then stopped Unsupported [] w s else turns ev env l (turns_in n) 0 w s
repeated ev env l (symbol name) w s = stopped TypeError (symbol name ∷ []) w s
repeated ev env l (string t) w s = stopped TypeError (string t ∷ []) w s
repeated ev env l (list vs) w s = stopped TypeError (list vs ∷ []) w s
repeated ev env l (class n) w s = stopped TypeError (class n ∷ []) w s
repeated ev env l (generic n) w s = stopped TypeError (generic n ∷ []) w s
repeated ev env l (method n) w s = stopped TypeError (method n ∷ []) w s
repeated ev env l (instance n) w s = stopped TypeError (instance n ∷ []) w s

-- the number of turns, then the turns
abbrev pub dotimes : Eval → Context → ℕ → Name → Bool → Forms → Run
dotimes ev env n name has_result fs w s =
    init_form ev env fs (λ rest v. repeated ev env (record { outer = n; name = name; has_result = has_result; forms = rest }) v) w s
