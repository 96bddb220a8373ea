-- What defvar and defparameter do (HyperSpec 5.3).
use Rattle.std.specs.Prelude.{ℕ, ◌-◌, ◌||◌, min, nat_lt, Bool, false, [], Option, Some, None, is_some, length, if◌then◌else◌}
use Rattle.lisp_data.specs.Name.{Name}
use Rattle.lisp_data.specs.Value.{Val}
use Rattle.clos_forms.specs.Form.{Form}
use Rattle.clos_forms.specs.Quotation.{name_value}
use Rattle.clos_syntax.specs.declared.variable.Definer.{Definer}
use Rattle.clos_syntax.specs.declared.variable.Definer.TheVariants.{DefVar, DefParameter}
use Rattle.clos_syntax.specs.declared.variable.VariableDefinition.{VariableDefinition}
use Rattle.clos_eval.specs.clos_machine.clos_world.Globals.{is_global, global_value, with_global}
use Rattle.clos_eval.specs.clos_machine.clos_world.World.{State}
use Rattle.clos_eval.specs.clos_machine.clos_world.declared.condition.ConditionKind.TheVariants.{TableLimit}
use Rattle.clos_eval.specs.clos_machine.clos_meaning.Meaning.{evaluation}
use Rattle.clos_eval.specs.clos_machine.clos_meaning.Outcome.{Gave, Run, then_do, stopped, step_then}

-- how deep the forms may nest that stand in a definition
abbrev pub room_below : State → ℕ
room_below w = min w.limits.depth 4_000 - 1

-- a defvar leaves the value that there is
abbrev pub keeps_value : State → Definer → Name → Bool
keeps_value w DefVar name = is_some (global_value w.globals name)
keeps_value w DefParameter name = false

-- the name is given, and nothing is changed
abbrev pub named : Name → Run
named name w k = Gave (name_value name) w k

-- a variable without a value, where there is none yet
abbrev pub declared : Name → Run
declared name w k =
    if is_global w.globals name then named name w k else Gave (name_value name) (record w { globals = with_global name None w.globals }) k

-- the variable has this value, whether it was there or not; its name is given
abbrev pub value_given : Name → Val → Run
value_given name v w k = Gave (name_value name) (record w { globals = with_global name (Some v) w.globals }) k

-- the form is evaluated first; where that ends with a condition, the definition has no effect
abbrev pub given_value : Name → Form → Run
given_value name f w k = then_do (evaluation (room_below w) f w k) (λ v. step_then (value_given name v))

-- a defvar alone may be without a form: there is the variable then, but no value
abbrev pub new_value : Name → Option Form → Run
new_value name None w k = step_then (declared name) w k
new_value name (Some f) w k = given_value name f w k

-- a variable is there, or the table has room for one more
abbrev pub admits : State → Name → Bool
admits w name = is_global w.globals name || nat_lt (length w.globals) w.limits.globals

-- a new variable needs room in the table; a defvar that leaves the value evaluates no form
abbrev pub variable_defined : VariableDefinition → Run
variable_defined d w k =
    if admits w d.name
    then (if keeps_value w d.definer d.name then step_then (named d.name) w k else new_value d.name d.form w k)
    else stopped TableLimit [] w k
