-- A definition that is refused defines nothing, and neither does any other form. What was written before it stays.
use Rattle.std.proofs.Common.{ℕ, zero, suc, List, [], ◌∷◌, ◌++◌, Option, Some, None, Result, Ok, Err, Bool, true, false, length, map}
use Rattle.std.specs.Prelude.{⊤, ℤ, option_map, ◌||◌, is_some, if◌then◌else◌}
use Rattle.lisp_data.specs.Datum.{Dat}
use Rattle.lisp_data.specs.Name.{Name}
use Rattle.lisp_data.specs.Value.{Val, class, generic, method}
use Rattle.clos_forms.specs.Form.{Form}
use Rattle.clos_forms.specs.declared.operator.FunctionName.{FunctionName}
use Rattle.clos_forms.specs.declared.operator.FunctionName.TheVariants.{Symbol, Setf}
use Rattle.clos_definition_forms.specs.clos_generic.Table.{named as generic_named, number}
use Rattle.clos_top.specs.Top.{top_of}
use Rattle.clos_top.specs.clos_syntax.clos_defclass.declared.class.ClassDefinition.{ClassDefinition}
use Rattle.clos_top.specs.clos_syntax.declared.generic.GenericDefinition.{GenericDefinition}
use Rattle.clos_top.specs.clos_syntax.declared.method.MethodDefinition.{MethodDefinition}
use Rattle.clos_top.specs.declared.top.Top.{Top}
use Rattle.clos_top.specs.declared.top.Top.TheVariants.{DefClass, DefGeneric, DefMethod, DefCombination, Defun, DefVar, RemoveMethod, AddDependent, RemoveDependent, InPackage, Expr}
use Rattle.clos_top.specs.clos_syntax.declared.variable.VariableDefinition.{VariableDefinition}
use Rattle.clos_definition_forms.specs.clos_machine.clos_meaning.Output.{WritesMore}
use Rattle.clos_definition_forms.specs.clos_world.Functions.{function_in}
use Rattle.clos_definition_forms.specs.clos_world.Globals.{is_global}
use Rattle.clos_definition_forms.specs.clos_world.World.{State}
use Rattle.clos_definition_forms.specs.clos_world.declared.condition.Condition.{Condition}
use Rattle.clos_definition_forms.specs.clos_world.declared.condition.ConditionKind.TheVariants.{TableLimit}
use Rattle.clos_definition_forms.specs.clos_world.declared.functions.Function.{Function}
use Rattle.clos_definition_forms.specs.clos_definition.Class.{cells_needed, class_concerned, class_number, class_refusal, initforms, with_defined_class}
use Rattle.clos_definition_forms.specs.clos_definition.Generic.{eql_forms, generic_concerned, generic_refusal, with_defined_generic}
use Rattle.clos_definition_forms.specs.clos_definition.Method.{eql_form, method_concerned, method_refusal, with_defined_method}
use Rattle.clos_definition_forms.specs.clos_definition.Removal.{concerned_by_removal, removable, with_removed}
use Rattle.clos_definition_forms.specs.clos_machine.clos_meaning.Host.{Host, answered_by, may_answer}
use Rattle.clos_definition_forms.specs.clos_machine.clos_meaning.Meaning.{evaluation}
use Rattle.clos_definition_forms.specs.clos_machine.clos_meaning.Outcome.{Asked, End, Given, Looked, Noted, Out, Gave, Signalled, Stopped, Run, then_do, step_then, stopped, took_effect}
use Rattle.clos_definition_forms.specs.clos_world.clos_cache.Cache as of_calls
use Rattle.clos_definition_forms.proofs.clos_machine.clos_meaning.Kept.{Follows, SameAfter, evaluation_kept, follows_then, nothing_written, stays, writes_then}
use Rattle.clos_definition_forms.specs.Definition.{define_class, define_generic, define_method, remove_method}
use Rattle.clos_definition_forms.specs.clos_making.Made.{class_made, generic_made, method_made, removed_if, unless, value_at, values_removed}
use Rattle.clos_definition_forms.specs.clos_effects.Effects.{takes_effect}
use Rattle.clos_definition_forms.specs.lisp_prims.Primitive.{truth}
use Rattle.clos_definition_forms.specs.Dependents.{change_dependents, changed_if, values_watched, watched, with_change}
use Rattle.clos_definition_forms.specs.declared.dependents.Change.{Change}
use Rattle.clos_definition_forms.specs.declared.dependents.Change.TheVariants.{Add, Remove}
use Rattle.clos_definition_forms.specs.clos_watch.declared.notice.Metaobject.{Metaobject}
use Rattle.clos_definition_forms.specs.Forms.{form_evaluated, forms_evaluated}
use Rattle.clos_definition_forms.specs.clos_making.Combination.{combination_defined, define_combination}
use Rattle.clos_definition_forms.specs.clos_world.clos_comb.Table as combinations
use Rattle.clos_definition_forms.specs.clos_world.clos_comb.Table.{is_predefined, name_of}
use Rattle.clos_definition_forms.specs.clos_world.clos_comb.clos_combination.declared.combination.CombinationDefinition.{CombinationDefinition}
use Rattle.clos_definition_forms.specs.clos_making.Function.{has_room, function_defined, setter_defined, define_function}
use Rattle.clos_perform.specs.Step.{checked, performed, room_of, step}
use Rattle.clos_definition_forms.specs.Variable.{admits, room_below, keeps_value, named as defined_name, declared, value_given, new_value, variable_defined}

-- what was written stays, and where a form is refused, the definitions are those before

abbrev Refuses : State → Out → Type 0
Refuses w (Gave v u k) = WritesMore w u
Refuses w (Stopped c u k) = Follows w u
Refuses w (Noted n o) = Refuses w o
Refuses w (Looked name more) = (n : Option ℕ) → Refuses w (more n)
Refuses w (Asked name xs more) = (x : ℤ) → Refuses w (more x)

kept_refuses : (w : State) (o : Out) → SameAfter w o → Refuses w o
kept_refuses w (Gave v u k) h = h.1
kept_refuses w (Stopped c u k) h = h
kept_refuses w (Noted n o) h = kept_refuses w o h
kept_refuses w (Looked name more) h = λ n. kept_refuses w (more n) (h n)
kept_refuses w (Asked name xs more) h = λ x. kept_refuses w (more x) (h x)

shifted_refuses : (w u : State) (o : Out) → Follows w u → Refuses u o → Refuses w o
shifted_refuses w u (Gave v t k) h g = writes_then w u t h.1 g
shifted_refuses w u (Stopped c t k) h g = follows_then w u t h g
shifted_refuses w u (Noted n o) h g = shifted_refuses w u o h g
shifted_refuses w u (Looked name more) h g = λ n. shifted_refuses w u (more n) h (g n)
shifted_refuses w u (Asked name xs more) h g = λ x. shifted_refuses w u (more x) h (g x)

choice_refuses : (b : Bool) (w : State) (x y : Out) → Refuses w x → Refuses w y → Refuses w (if b then x else y)
choice_refuses true w x y h g = h
choice_refuses false w x y h g = g

step_refuses : (run : Run) (w : State) (k : ℕ) → ((j : ℕ) → Refuses w (run w j)) → Refuses w (step_then run w k)
step_refuses run w zero h = stays w
step_refuses run w (suc k) h = h k

unless_refuses : (o : Option Condition) (go : Run) (w : State) (k : ℕ) → Refuses w (go w k) → Refuses w (unless o go w k)
unless_refuses None go w k h = h
unless_refuses (Some c) go w k h = stays w

-- ---- forms, and then what defines nothing

-- an evaluation before it
then_refuses : (w : State) (o : Out) (go : Val → Run) → SameAfter w o → ((v : Val) (u : State) (j : ℕ) → Refuses u (go v u j)) → Refuses w (then_do o go)
then_refuses w (Stopped c u k) go h g = h
then_refuses w (Noted n o) go h g = then_refuses w o go h g
then_refuses w (Looked name more) go h g = λ n. then_refuses w (more n) go (h n) g
then_refuses w (Asked name xs more) go h g = λ x. then_refuses w (more x) go (h x) g
then_refuses w (Gave v u k) go h g = shifted_refuses w u (go v u k) h (g v u k)

form_refuses : (o : Option Form) (go : Option Val → Run) (w : State) (k : ℕ) → ((v : Option Val) (u : State) (j : ℕ) → Refuses u (go v u j)) → Refuses w (form_evaluated o go w k)
form_refuses None go w k g = g None w k
form_refuses (Some f) go w k g =
    then_refuses w (evaluation (room_below w) f w k) (λ v. go (Some v)) (evaluation_kept (room_below w) f w k) (λ v u j. g (Some v) u j)

forms_refuse : (fs : List (Option Form)) (vs : List (Option Val)) (go : List (Option Val) → Run) (w : State) (k : ℕ) → ((us : List (Option Val)) (u : State) (j : ℕ) → Refuses u (go us u j))
    → Refuses w (forms_evaluated fs vs go w k)
forms_refuse [] vs go w k g = g vs w k
forms_refuse (f ∷ fs) vs go w k g =
    form_refuses f (λ v. forms_evaluated fs (vs ++ v ∷ []) go) w k (λ v u j. forms_refuse fs (vs ++ v ∷ []) go u j g)

-- ---- the definition forms

effect_refuses : (o : Option Condition) (cs : List of_calls.Change) (v : Val) (u w : State) (k : ℕ) → WritesMore w u
    → Refuses w (unless o (takes_effect cs v u) w k)
effect_refuses o cs v u w k h = unless_refuses o (takes_effect cs v u) w k (step_refuses (λ x j. Noted (took_effect x cs) (Gave v u j)) w k (λ j. h))

method_refuses : (name : FunctionName) (m : MethodDefinition) (w : State) (k : ℕ) → Refuses w (define_method name m w k)
method_refuses name m w k =
    unless_refuses (method_refusal name m None w) (forms_evaluated (map eql_form m.specializers) [] (method_made name m)) w k
    (forms_refuse (map eql_form m.specializers) [] (method_made name m) w k
    (λ vs u j. effect_refuses (method_refusal name m (Some vs) u) (method_concerned name m vs u) (method (length u.generics.methods)) (with_defined_method name m vs u) u j (nothing_written u)))

generic_refuses : (d : GenericDefinition) (w : State) (k : ℕ) → Refuses w (define_generic d w k)
generic_refuses d w k =
    unless_refuses (generic_refusal d None w) (forms_evaluated (eql_forms d.methods) [] (generic_made d)) w k
    (forms_refuse (eql_forms d.methods) [] (generic_made d) w k
    (λ vs u j. effect_refuses (generic_refusal d (Some vs) u) (generic_concerned d vs u) (generic (number u.generics d.name)) (with_defined_generic d vs u) u j (nothing_written u)))

class_refuses : (d : ClassDefinition) (w : State) (k : ℕ) → Refuses w (define_class d w k)
class_refuses d w k =
    unless_refuses (class_refusal d (length (cells_needed d w)) w) (forms_evaluated (initforms (cells_needed d w)) [] (class_made d)) w k
    (forms_refuse (initforms (cells_needed d w)) [] (class_made d) w k
    (λ vs u j. effect_refuses (class_refusal d (length vs) u) (class_concerned d vs u) (class (class_number d u)) (with_defined_class d vs u) u j (nothing_written u)))

removed_refuses : (v : Val) (r : Result (ℕ × ℕ) Condition) (w : State) (k : ℕ) → Refuses w (removed_if v r w k)
removed_refuses v (Err c) w k = stays w
removed_refuses v (Ok p) w k = step_refuses (λ x j. Noted (took_effect x (concerned_by_removal p.0 p.1 w.generics)) (Gave v (with_removed p.0 p.1 w) j)) w k (λ j. nothing_written w)

removal_refuses : (f m : Form) (w : State) (k : ℕ) → Refuses w (remove_method f m w k)
removal_refuses f m w k =
    forms_refuse (Some f ∷ Some m ∷ []) [] values_removed w k (λ vs u j. removed_refuses (value_at vs 0) (removable (value_at vs 0) (value_at vs 1)) u j)

changed_refuses : (c : Change) (r : Result (Metaobject × ℕ) Condition) (w : State) (k : ℕ) → Refuses w (changed_if c r w k)
changed_refuses c (Err e) w k = stays w
changed_refuses c (Ok p) w k = step_refuses (λ x j. Gave (truth true) (with_change c p.0 p.1 w) j) w k (λ j. nothing_written w)

change_refuses : (c : Change) (m d : Form) (w : State) (k : ℕ) → Refuses w (change_dependents c m d w k)
change_refuses c m d w k =
    forms_refuse (Some m ∷ Some d ∷ []) [] (values_watched c) w k
    (λ vs u j. changed_refuses c (watched u.hearing.names (value_at vs 0) (value_at vs 1)) u j)

function_refuses : (name : FunctionName) (f : Function) (w : State) (k : ℕ) → Refuses w (define_function name f w k)
function_refuses (Symbol name) f w k =
    choice_refuses (is_some (generic_named w.generics (Symbol name))) w _ _ (stays w)
    (choice_refuses (is_some (function_in w.functions name) || has_room w) w (step_then (function_defined name f) w k) _
    (step_refuses (function_defined name f) w k (λ j. nothing_written w)) (stays w))
function_refuses (Setf name) f w k =
    choice_refuses (is_some (generic_named w.generics (Setf name))) w _ _ (stays w)
    (choice_refuses (is_some (function_in w.setters name) || has_room w) w (step_then (setter_defined name f) w k) _
    (step_refuses (setter_defined name f) w k (λ j. nothing_written w)) (stays w))

combination_refuses : (d : CombinationDefinition) (w : State) (k : ℕ) → Refuses w (define_combination d w k)
combination_refuses d w k =
    choice_refuses (is_predefined (name_of d)) w _ _ (stays w)
    (choice_refuses (combinations.has_room w.combinations (name_of d)) w (step_then (combination_defined d) w k) _
    (step_refuses (combination_defined d) w k (λ j. nothing_written w)) (stays w))

-- ---- variables

-- a step after an evaluation
then_step_refuses : (w : State) (o : Out) (go : Val → Run) → SameAfter w o → ((v : Val) (u : State) (j : ℕ) → Refuses u (go v u j)) → Refuses w (then_do o (λ v. step_then (go v)))
then_step_refuses w (Stopped c u k) go h g = h
then_step_refuses w (Noted n o) go h g = then_step_refuses w o go h g
then_step_refuses w (Looked name more) go h g = λ n. then_step_refuses w (more n) go (h n) g
then_step_refuses w (Asked name xs more) go h g = λ x. then_step_refuses w (more x) go (h x) g
then_step_refuses w (Gave v u zero) go h g = h
then_step_refuses w (Gave v u (suc k)) go h g = shifted_refuses w u (go v u k) h (g v u k)

value_refuses : (name : Name) (o : Option Form) (w : State) (k : ℕ) → Refuses w (new_value name o w k)
value_refuses name None w k = step_refuses (declared name) w k (λ j. choice_refuses (is_global w.globals name) w _ _ (nothing_written w) (nothing_written w))
value_refuses name (Some f) w k =
    then_step_refuses w (evaluation (room_below w) f w k) (λ v. value_given name v) (evaluation_kept (room_below w) f w k) (λ v u j. nothing_written u)

variable_refuses : (d : VariableDefinition) (w : State) (k : ℕ) → Refuses w (variable_defined d w k)
variable_refuses d w k =
    choice_refuses (admits w d.name) w _ (stopped TableLimit [] w k)
    (choice_refuses (keeps_value w d.definer d.name) w (step_then (defined_name d.name) w k) (new_value d.name d.form w k)
    (step_refuses (defined_name d.name) w k (λ j. nothing_written w)) (value_refuses d.name d.form w k)) (stays w)

-- ---- top-level forms

performed_refuses : (top : Top) (w : State) (k : ℕ) → Refuses w (performed top w k)
performed_refuses (DefClass d) w k = class_refuses d w k
performed_refuses (DefGeneric d) w k = generic_refuses d w k
performed_refuses (DefMethod name m) w k = method_refuses name m w k
performed_refuses (DefCombination c) w k = combination_refuses c w k
performed_refuses (Defun f) w k = function_refuses f.name (record { lambda_list = f.lambda_list; body = f.body }) w k
performed_refuses (DefVar d) w k = variable_refuses d w k
performed_refuses (RemoveMethod function m) w k = removal_refuses function m w k
performed_refuses (AddDependent m d) w k = change_refuses Add m d w k
performed_refuses (RemoveDependent m d) w k = change_refuses Remove m d w k
performed_refuses InPackage w k = nothing_written w
performed_refuses (Expr f) w k = kept_refuses w (evaluation (room_of w) f w k) (evaluation_kept (room_of w) f w k)

checked_refuses : (o : Option Top) (w : State) (k : ℕ) → Refuses w (checked o w k)
checked_refuses None w k = stays w
checked_refuses (Some top) w k = performed_refuses top w k

pub step_refused : (d : Dat) (w : State) (k : ℕ) → Refuses w (step d w k)
step_refused d w k = checked_refuses (top_of d) w k

-- .. as it ends with the answers that came
abbrev pub ends_refused : State → Option End → Type 0
ends_refused w None = ⊤
ends_refused w (Some (Given v u k)) = WritesMore w u
ends_refused w (Some (Signalled c u k)) = Follows w u

if_permitted : (w : State) (b : Bool) (o : Option End) → ends_refused w o → ends_refused w (if b then o else None)
if_permitted w true o h = h
if_permitted w false o h = tt

pub answered_refused : (host : Host) (w : State) (o : Out) (xs : List ℤ) → Refuses w o → ends_refused w (answered_by host o xs)
answered_refused host w (Gave v u k) [] h = h
answered_refused host w (Gave v u k) (x ∷ xs) h = tt
answered_refused host w (Stopped c u k) [] h = h
answered_refused host w (Stopped c u k) (x ∷ xs) h = tt
answered_refused host w (Noted n o) xs h = answered_refused host w o xs h
answered_refused host w (Looked name more) xs h = answered_refused host w (more (option_map (λ f. f.takes) (host name))) xs
    (h (option_map (λ f. f.takes) (host name)))
answered_refused host w (Asked name ys more) [] h = tt
answered_refused host w (Asked name ys more) (x ∷ xs) h =
    if_permitted w (may_answer (host name) ys x) (answered_by host (more x) xs) (answered_refused host w (more x) xs (h x))
