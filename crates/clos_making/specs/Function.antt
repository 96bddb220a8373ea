-- What a defun does (HyperSpec 5.3).
use Rattle.std.specs.Prelude.{◌+◌, ◌||◌, nat_lt, Bool, [], is_some, length, if◌then◌else◌}
use Rattle.lisp_data.specs.Name.{Name}
use Rattle.clos_forms.specs.Quotation.{name_value}
use Rattle.clos_forms.specs.declared.operator.FunctionName.{FunctionName}
use Rattle.clos_forms.specs.declared.operator.FunctionName.TheVariants.{Symbol, Setf}
use Rattle.clos_machine.specs.clos_world.clos_generic.Table.{named}
use Rattle.clos_machine.specs.clos_world.FunctionName.{setter_value}
use Rattle.clos_machine.specs.clos_world.Functions.{function_in, with_function}
use Rattle.clos_machine.specs.clos_world.World.{State}
use Rattle.clos_machine.specs.clos_world.declared.condition.ConditionKind.TheVariants.{ProgramError, TableLimit}
use Rattle.clos_machine.specs.clos_world.declared.functions.Function.{Function}
use Rattle.clos_machine.specs.clos_meaning.Outcome.{Gave, Run, stopped, step_then}

-- one more function may be defined
abbrev pub has_room : State → Bool
has_room w = nat_lt (length w.functions + length w.setters) w.limits.functions

-- the symbol names this function from now on, and is given
abbrev pub function_defined : Name → Function → Run
function_defined name f w k = Gave (name_value name) (record w { functions = with_function name f w.functions }) k

-- the same of a function (setf name); that list is given
abbrev pub setter_defined : Name → Function → Run
setter_defined name f w k = Gave (setter_value name) (record w { setters = with_function name f w.setters }) k

-- a function that a symbol names, in place of an older one; the name of a generic function is taken
abbrev pub new_function_defined : Name → Function → Run
new_function_defined name f w k =
    if is_some (named w.generics (Symbol name)) then stopped ProgramError [] w k
    else if is_some (function_in w.functions name) || has_room w then step_then (function_defined name f) w k
    else stopped TableLimit [] w k

-- the same of a function (setf name); functions of both kinds count towards the one limit
abbrev pub new_setter_defined : Name → Function → Run
new_setter_defined name f w k =
    if is_some (named w.generics (Setf name)) then stopped ProgramError [] w k
    else if is_some (function_in w.setters name) || has_room w then step_then (setter_defined name f) w k
    else stopped TableLimit [] w k

-- by what names it: a symbol, or (setf symbol)
abbrev pub define_function : FunctionName → Function → Run
define_function (Symbol name) f w k = new_function_defined name f w k
define_function (Setf name) f w k = new_setter_defined name f w k
