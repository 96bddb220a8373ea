-- What a top-level form does (HyperSpec 3.1.2.1).
use Rattle.std.specs.Prelude.{ℕ, min, [], Option, Some, None}
use Rattle.lisp_data.specs.Datum.{Dat}
use Rattle.lisp_data.specs.Value.{list, nil}
use Rattle.clos_top.specs.Top.{top_of}
use Rattle.clos_top.specs.declared.top.Top.{Top}
use Rattle.clos_top.specs.declared.top.Top.TheVariants.{DefClass, DefGeneric, DefMethod, DefCombination, Defun, DefVar, RemoveMethod, AddDependent, RemoveDependent, InPackage, Expr}
use Rattle.clos_definition_forms.specs.clos_world.World.{State}
use Rattle.clos_definition_forms.specs.clos_world.declared.condition.ConditionKind.TheVariants.{ProgramError}
use Rattle.clos_definition_forms.specs.clos_machine.clos_meaning.Meaning.{evaluation}
use Rattle.clos_definition_forms.specs.clos_machine.clos_meaning.Outcome.{Gave, Run, stopped}
use Rattle.clos_definition_forms.specs.clos_making.Combination.{define_combination}
use Rattle.clos_definition_forms.specs.Dependents.{change_dependents}
use Rattle.clos_definition_forms.specs.declared.dependents.Change.TheVariants.{Add, Remove}
use Rattle.clos_definition_forms.specs.Definition.{define_class, define_generic, define_method, remove_method}
use Rattle.clos_definition_forms.specs.clos_making.Function.{define_function}
use Rattle.clos_definition_forms.specs.Variable.{variable_defined}

-- how deep its forms may nest
abbrev pub room_of : State → ℕ
room_of w = min w.limits.depth 4_000

-- by the kind of the form; in-package does nothing, and gives NIL
abbrev pub performed : Top → Run
performed (DefClass d) w k = define_class d w k
performed (DefGeneric d) w k = define_generic d w k
performed (DefMethod name m) w k = define_method name m w k
performed (DefCombination c) w k = define_combination c w k
performed (Defun f) w k = define_function f.name (record { lambda_list = f.lambda_list; body = f.body }) w k
performed (DefVar d) w k = variable_defined d w k
performed (RemoveMethod function m) w k = remove_method function m w k
performed (AddDependent m d) w k = change_dependents Add m d w k
performed (RemoveDependent m d) w k = change_dependents Remove m d w k
performed InPackage w k = Gave (list nil) w k
performed (Expr f) w k = evaluation (room_of w) f w k

-- a datum that is no form of the language is refused first
abbrev pub checked : Option Top → Run
checked None w k = stopped ProgramError [] w k
checked (Some top) w k = performed top w k

-- the step of a top-level form: the value or the condition, and the state after
abbrev pub step : Dat → Run
step d w k = checked (top_of d) w k
