-- With no step left a top-level form changes nothing.
use Rattle.std.proofs.Common.{zero, suc, [], ◌∷◌, Option, Some, None, Bool, true, false, refl}
use Rattle.std.specs.Prelude.{◌||◌, is_some, if◌then◌else◌}
use Rattle.lisp_data.specs.Name.{Name}
use Rattle.lisp_data.specs.Datum.{Dat}
use Rattle.lisp_data.specs.Value.{Val}
use Rattle.clos_forms.specs.Form.{Form}
use Rattle.clos_forms.specs.declared.operator.FunctionName.{FunctionName}
use Rattle.clos_forms.specs.declared.operator.FunctionName.TheVariants.{Symbol, Setf}
use Rattle.clos_definition_forms.specs.clos_generic.Table.{named as generic_named}
use Rattle.clos_top.specs.Top.{top_of}
use Rattle.clos_top.specs.declared.top.Top.{Top}
use Rattle.clos_top.specs.declared.top.Top.TheVariants.{DefClass, DefGeneric, DefMethod, DefCombination, Defun, DefVar, RemoveMethod, AddDependent, RemoveDependent, InPackage, Expr}
use Rattle.clos_top.specs.clos_syntax.declared.variable.VariableDefinition.{VariableDefinition}
use Rattle.clos_definition_forms.specs.clos_world.Functions.{function_in}
use Rattle.clos_definition_forms.specs.clos_world.World.{State, seen}
use Rattle.clos_definition_forms.specs.clos_world.declared.functions.Function.{Function}
use Rattle.clos_definition_forms.specs.clos_world.declared.tables.World.{World}
use Rattle.clos_definition_forms.specs.clos_machine.clos_meaning.Contexts.{known}
use Rattle.clos_definition_forms.specs.clos_machine.clos_meaning.Meaning.{evaluation}
use Rattle.clos_definition_forms.specs.clos_machine.clos_meaning.Outcome.{Asked, Looked, Noted, Out, Gave, Stopped, Run, then_do, step_then, leaves}
use Rattle.clos_definition_forms.proofs.clos_machine.clos_meaning.Quiet.{evaluation_quiet}
use Rattle.clos_definition_forms.specs.Dependents.{change_dependents, values_watched}
use Rattle.clos_definition_forms.specs.declared.dependents.Change.{Change}
use Rattle.clos_definition_forms.specs.declared.dependents.Change.TheVariants.{Add, Remove}
use Rattle.clos_definition_forms.specs.clos_making.Function.{has_room, define_function}
use Rattle.clos_perform.specs.Step.{checked, performed, room_of, step}
use Rattle.clos_definition_forms.specs.Variable.{admits, room_below, keeps_value, value_given, new_value, variable_defined}
use Rattle.clos_definition_forms.proofs.Evaluated.{forms_quiet}
use Rattle.clos_definition_forms.proofs.Watched.{values_watched_quiet}
use Rattle.clos_definition_forms.proofs.Quiet.{define_class_quiet, define_generic_quiet, define_method_quiet, remove_method_quiet}
use Rattle.clos_definition_forms.proofs.clos_making.Quiet.{define_combination_quiet}

either : (b : Bool) (x y : Out) (w : State) → leaves x w 0 → leaves y w 0 → leaves (if b then x else y) w 0
either true x y w p q = p
either false x y w p q = q

function_quiet : (name : FunctionName) (f : Function) (w : State) → leaves (define_function name f w 0) w 0
function_quiet (Symbol name) f w =
    either (is_some (generic_named w.generics (Symbol name))) _ _ w (refl, refl)
    (either (is_some (function_in w.functions name) || has_room w) _ _ w (refl, refl) (refl, refl))
function_quiet (Setf name) f w =
    either (is_some (generic_named w.generics (Setf name))) _ _ w (refl, refl)
    (either (is_some (function_in w.setters name) || has_room w) _ _ w (refl, refl) (refl, refl))

-- an evaluation with no step left, and then a step
then_step_quiet : (o : Out) (go : Val → Run) (w : State) → leaves o w 0 → leaves (then_do o (λ v. step_then (go v))) w 0
then_step_quiet (Stopped c u k) go w h = h
then_step_quiet (Noted n o) go w h = then_step_quiet o go w h
then_step_quiet (Looked name more) go w h = λ n. then_step_quiet (more n) go w (h n)
then_step_quiet (Asked name xs more) go w h = absurd h
then_step_quiet (Gave v u zero) go w h = h
then_step_quiet (Gave v u (suc k)) go w h = absurd (cc h.1)

value_quiet : (name : Name) (o : Option Form) (w : World) → leaves (new_value name o (seen w) 0) (seen w) 0
value_quiet name None w = (refl, refl)
value_quiet name (Some f) w =
    then_step_quiet (evaluation (room_below (seen w)) f (seen w) 0) (λ v. value_given name v) (seen w)
    (evaluation_quiet (room_below (seen w)) (known []) f (seen w))

variable_quiet : (d : VariableDefinition) (w : World) → leaves (variable_defined d (seen w) 0) (seen w) 0
variable_quiet d w =
    either (admits (seen w) d.name) _ _ (seen w)
    (either (keeps_value (seen w) d.definer d.name) _ _ (seen w) (refl, refl) (value_quiet d.name d.form w)) (refl, refl)

change_quiet : (c : Change) (m d : Form) (w : World) → leaves (change_dependents c m d (seen w) 0) (seen w) 0
change_quiet c m d w = forms_quiet (Some m ∷ Some d ∷ []) [] (values_watched c) (seen w) refl (λ vs. values_watched_quiet c vs (seen w))

performed_quiet : (top : Top) (w : World) → leaves (performed top (seen w) 0) (seen w) 0
performed_quiet (DefClass d) w = define_class_quiet d (seen w) refl
performed_quiet (DefGeneric d) w = define_generic_quiet d (seen w) refl
performed_quiet (DefMethod name m) w = define_method_quiet name m (seen w) refl
performed_quiet (DefCombination c) w = define_combination_quiet c (seen w)
performed_quiet (Defun f) w = function_quiet f.name (record { lambda_list = f.lambda_list; body = f.body }) (seen w)
performed_quiet (DefVar d) w = variable_quiet d w
performed_quiet (RemoveMethod function m) w = remove_method_quiet function m (seen w) refl
performed_quiet (AddDependent m d) w = change_quiet Add m d w
performed_quiet (RemoveDependent m d) w = change_quiet Remove m d w
performed_quiet InPackage w = (refl, refl)
performed_quiet (Expr f) w = evaluation_quiet (room_of (seen w)) (known []) f (seen w)

pub checked_quiet : (o : Option Top) (w : World) → leaves (checked o (seen w) 0) (seen w) 0
checked_quiet None w = (refl, refl)
checked_quiet (Some top) w = performed_quiet top w

pub step_quiet : (d : Dat) (w : World) → leaves (step d (seen w) 0) (seen w) 0
step_quiet d w = checked_quiet (top_of d) w
