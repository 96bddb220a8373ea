-- Assignment (HyperSpec 3.1.2.1.1, 5.3 `setq`, `setf`, 12.2 `incf`, `decf`).
use Rattle.std.specs.Prelude.{List, [], ◌∷◌, Option, Some, None, is_some, if◌then◌else◌}
use Rattle.lisp_data.specs.Name.{Name, same_name}
use Rattle.lisp_data.specs.Value.{Val}
use Rattle.lisp_prims.specs.Primitive.{answer}
use Rattle.lisp_prims.specs.lisp_functions.declared.primitive.Primitive.{Primitive}
use Rattle.clos_forms.specs.Quotation.{name_value}
use Rattle.clos_world.specs.Globals.{is_global, with_global}
use Rattle.clos_world.specs.World.{Local, bound_as, local_named, held}
use Rattle.clos_world.specs.declared.condition.ConditionKind.TheVariants.{ProgramError, UnboundVariable}
use Rattle.clos_meaning.specs.Fault.{answered}
use Rattle.clos_meaning.specs.Outcome.{Gave, Run, then_do, step_then, stopped}
use Rattle.clos_meaning.specs.Variables.{found_value, variable_value}

-- the innermost variable of this name has this value
abbrev pub with_local : Name → Val → List Local → List Local
with_local name v [] = []
with_local name v (l ∷ ls) = if same_name l.0 name then (l.0, held v) ∷ ls else l ∷ with_local name v ls

-- the global variable of this name has this value, which is given
abbrev pub global_set : Name → Val → Run
global_set name v w s = Gave v (record w { globals = with_global name (Some v) w.globals }) s

-- where no lexical variable has the name; an assignment makes no new variable: UNBOUND-VARIABLE
abbrev pub stored_globally : Name → Val → Run
stored_globally name v w s = if is_global w.globals name then step_then (global_set name v) w s else stopped UnboundVariable (name_value name ∷ []) w s

-- The value goes to the innermost lexical variable of this name, else to the global one, which takes a step.
abbrev pub stored : Name → Val → Run
stored name v w s =
    if is_some (local_named w.locals name) then Gave v (bound_as (with_local name v w.locals) w) s else stored_globally name v w s

-- the same of the one value that is there; where there is none, or more, PROGRAM-ERROR
abbrev pub stored_only : Name → Option Val → Run
stored_only name None w s = stopped ProgramError [] w s
stored_only name (Some v) w s = stored name v w s

-- what the function makes of the variable's value and this amount
abbrev pub made_of : Primitive → Name → Val → Run
made_of p name amount w s = then_do (variable_value name (found_value w name) w s) (λ old. answered (answer p (old ∷ amount ∷ [])))

-- is its new value
abbrev pub changed : Primitive → Name → Val → Run
changed p name amount w s = then_do (made_of p name amount w s) (λ v. stored name v)

-- the same by the one amount that is there; where there is none, or more, PROGRAM-ERROR
abbrev pub changed_only : Primitive → Name → Option Val → Run
changed_only p name None w s = stopped ProgramError [] w s
changed_only p name (Some amount) w s = changed p name amount w s
