-- What evaluation and the effects of definitions keep, each form that a session performs keeps.
use Rattle.std.proofs.Common.{◌≡◌, ℕ, zero, suc, List, [], ◌∷◌, ◌++◌, Option, Some, None, Result, Ok, Err, Bool, true, false, length, map, refl, subst}
use Rattle.std.specs.Prelude.{⊤, ℤ, option_map, ◌||◌, is_some, if◌then◌else◌}
use Rattle.lisp_data.specs.Datum.{Dat}
use Rattle.lisp_data.specs.Name.{Name}
use Rattle.lisp_data.specs.Value.{Val, class, generic, method}
use Rattle.clos_forms.specs.Form.{Form}
use Rattle.clos_forms.specs.declared.operator.FunctionName.{FunctionName}
use Rattle.clos_forms.specs.declared.operator.FunctionName.TheVariants.{Symbol, Setf}
use Rattle.clos_session.specs.clos_world.clos_generic.Fault.{is_system}
use Rattle.clos_session.specs.clos_world.clos_generic.Table.{named as generic_named, number}
use Rattle.clos_syntax.specs.clos_defclass.declared.class.ClassDefinition.{ClassDefinition}
use Rattle.clos_syntax.specs.declared.function.FunctionDefinition.{FunctionDefinition}
use Rattle.clos_syntax.specs.declared.generic.GenericDefinition.{GenericDefinition}
use Rattle.clos_syntax.specs.declared.method.MethodDefinition.{MethodDefinition}
use Rattle.clos_syntax.specs.declared.variable.VariableDefinition.{VariableDefinition}
use Rattle.clos_top.specs.Top.{top_of}
use Rattle.clos_top.specs.declared.top.Top.{Top}
use Rattle.clos_top.specs.declared.top.Top.TheVariants.{DefClass, DefGeneric, DefMethod, DefCombination, Defun, DefVar, RemoveMethod, AddDependent, RemoveDependent, InPackage, Expr}
use Rattle.clos_session.specs.clos_world.Definitions.{Same}
use Rattle.clos_session.specs.clos_world.Functions.{function_in, with_function}
use Rattle.clos_session.specs.clos_world.Globals.{Variables, is_global, with_global}
use Rattle.clos_session.specs.clos_world.Initial.{initial}
use Rattle.clos_session.specs.clos_world.World.{State}
use Rattle.clos_session.specs.clos_world.clos_comb.Table as combinations
use Rattle.clos_session.specs.clos_world.clos_comb.Table.{is_predefined, name_of, with_combination}
use Rattle.clos_session.specs.clos_world.clos_comb.clos_combination.declared.combination.CombinationDefinition.{CombinationDefinition}
use Rattle.clos_session.specs.clos_world.declared.condition.Condition.{Condition}
use Rattle.clos_session.specs.clos_world.declared.condition.ConditionKind.TheVariants.{TableLimit}
use Rattle.clos_session.specs.clos_world.declared.functions.Function.{Function}
use Rattle.clos_session.specs.clos_world.declared.limits.Limits.{Limits}
use Rattle.clos_session.specs.clos_definition_forms.clos_definition.Class.{cells_needed, class_concerned, class_number, class_refusal, initforms, with_defined_class}
use Rattle.clos_session.specs.clos_definition_forms.clos_definition.Generic.{eql_forms, generic_concerned, generic_refusal, with_defined_generic}
use Rattle.clos_session.specs.clos_definition_forms.clos_definition.Method.{eql_form, method_concerned, method_refusal, with_defined_method}
use Rattle.clos_session.specs.clos_definition_forms.clos_definition.Removal.{concerned_by_removal, generic_in, method_in, removable, removable_in, unless_system, with_removed}
use Rattle.clos_session.specs.clos_definition_forms.clos_making.Combination.{combination_defined, define_combination}
use Rattle.clos_session.specs.clos_definition_forms.Definition.{define_class, define_generic, define_method, remove_method}
use Rattle.clos_session.specs.clos_definition_forms.clos_making.Made.{class_made, generic_made, method_made, removed_if, unless, value_at, values_removed}
use Rattle.clos_session.specs.clos_definition_forms.clos_effects.Effects.{takes_effect}
use Rattle.clos_session.specs.clos_definition_forms.Dependents.{change_dependents, changed_if, values_watched, watched, with_change}
use Rattle.clos_session.specs.clos_definition_forms.Forms.{form_evaluated, forms_evaluated}
use Rattle.clos_session.specs.clos_definition_forms.clos_making.Function.{has_room, function_defined, setter_defined, define_function}
use Rattle.clos_session.specs.clos_definition_forms.Variable.{admits, room_below, keeps_value, named as defined_name, declared, value_given, new_value, variable_defined}
use Rattle.clos_session.specs.clos_definition_forms.clos_watch.declared.notice.Metaobject.{Metaobject}
use Rattle.clos_session.specs.clos_definition_forms.declared.dependents.Change.{Change}
use Rattle.clos_session.specs.clos_definition_forms.declared.dependents.Change.TheVariants.{Add, Remove}
use Rattle.clos_session.specs.clos_definition_forms.lisp_prims.Primitive.{truth}
use Rattle.clos_session.specs.clos_machine.clos_meaning.Meaning.{evaluation}
use Rattle.clos_session.specs.clos_machine.clos_meaning.Host.{Host, answered_by, may_answer}
use Rattle.clos_session.specs.clos_machine.clos_meaning.Outcome.{Asked, End, Gave, Looked, Noted, Out, Run, Stopped, step_then, stopped, then_do, took_effect}
use Rattle.clos_session.specs.clos_world.clos_cache.Cache as of_calls
use Rattle.clos_meaning.proofs.Kept.{SameAfter, evaluation_kept}
use Rattle.clos_session.specs.clos_perform.Step.{checked, performed, room_of, step}
use Rattle.clos_laws.specs.Reached.{IsReached, begins, performs, state_in}

-- ---- what stays

-- whatever is evaluated, and whatever combination, dependent or removal comes
pub record Stays (P : State → Type 0) : Type 0 where
  pub same : (w u : State) → Same w u → P w → P u
  pub combination : (d : CombinationDefinition) (u : State) → P u → P (record u { combinations = with_combination d u.combinations })
  pub change : (c : Change) (m : Metaobject) (n : ℕ) (u : State) → P u → P (with_change c m n u)
  pub removal : (g m : ℕ) (u : State) → is_system (Some m) ≡ false → P u → P (with_removed g m u)

-- the function that a defun defines
abbrev pub defined : FunctionDefinition → Function
defined f = record { lambda_list = f.lambda_list; body = f.body }

-- and with what a top-level form defines, where nothing stands against it
abbrev pub StaysWith : (State → Type 0) → Top → Type 0
StaysWith P (DefClass d) = (vs : List (Option Val)) (u : State) → class_refusal d (length vs) u ≡ None → P u → P (with_defined_class d vs u)
StaysWith P (DefGeneric d) = (vs : List (Option Val)) (u : State) → generic_refusal d (Some vs) u ≡ None → P u → P (with_defined_generic d vs u)
StaysWith P (DefMethod name m) = (vs : List (Option Val)) (u : State) → method_refusal name m (Some vs) u ≡ None → P u → P (with_defined_method name m vs u)
StaysWith P (DefCombination c) = ⊤
StaysWith P (Defun f) =
    (name : Name) (u : State) → P u
    → P (record u { functions = with_function name (defined f) u.functions }) × P (record u { setters = with_function name (defined f) u.setters })
StaysWith P (DefVar v) = ⊤
StaysWith P (RemoveMethod f g) = ⊤
StaysWith P (AddDependent f g) = ⊤
StaysWith P (RemoveDependent f g) = ⊤
StaysWith P InPackage = ⊤
StaysWith P (Expr f) = ⊤

-- .. which is to be shown of classes, generic functions, methods and functions alone
pub by_kind : (P : State → Type 0) (Good : Top → Type 0)
    → ((d : ClassDefinition) → Good (DefClass d) → StaysWith P (DefClass d))
    → ((d : GenericDefinition) → Good (DefGeneric d) → StaysWith P (DefGeneric d))
    → ((name : FunctionName) (m : MethodDefinition) → Good (DefMethod name m) → StaysWith P (DefMethod name m))
    → ((f : FunctionDefinition) → Good (Defun f) → StaysWith P (Defun f))
    → (top : Top) → Good top → StaysWith P top
by_kind P Good of_class of_generic of_method of_function (DefClass d) h = of_class d h
by_kind P Good of_class of_generic of_method of_function (DefGeneric d) h = of_generic d h
by_kind P Good of_class of_generic of_method of_function (DefMethod name m) h = of_method name m h
by_kind P Good of_class of_generic of_method of_function (DefCombination c) h = tt
by_kind P Good of_class of_generic of_method of_function (Defun f) h = of_function f h
by_kind P Good of_class of_generic of_method of_function (DefVar v) h = tt
by_kind P Good of_class of_generic of_method of_function (RemoveMethod f m) h = tt
by_kind P Good of_class of_generic of_method of_function (AddDependent f g) h = tt
by_kind P Good of_class of_generic of_method of_function (RemoveDependent f g) h = tt
by_kind P Good of_class of_generic of_method of_function InPackage h = tt
by_kind P Good of_class of_generic of_method of_function (Expr f) h = tt

-- after an outcome
abbrev After : (State → Type 0) → Out → Type 0
After P (Gave v u k) = P u
After P (Stopped c u k) = P u
After P (Noted n o) = After P o
After P (Looked name more) = (n : Option ℕ) → After P (more n)
After P (Asked name xs more) = (x : ℤ) → After P (more x)

-- where it holds before
abbrev Keeps : (State → Type 0) → Run → Type 0
Keeps P go = (u : State) (j : ℕ) → P u → After P (go u j)

step_after : (P : State → Type 0) (run : Run) → Keeps P run → Keeps P (step_then run)
step_after P run h w zero s = s
step_after P run h w (suc k) s = h w k s

either : (P : State → Type 0) (b : Bool) (x y : Out) → After P x → After P y → After P (if b then x else y)
either P true x y h g = h
either P false x y h g = g

unless_after : (P : State → Type 0) (o : Option Condition) (go : Run) (w : State) (k : ℕ) → P w → (o ≡ None → After P (go w k)) → After P (unless o go w k)
unless_after P None go w k s h = h refl
unless_after P (Some c) go w k s h = s

effect_after : (P : State → Type 0) (cs : List of_calls.Change) (v : Val) (u w : State) (k : ℕ) → P w → P u → After P (takes_effect cs v u w k)
effect_after P cs v u w k s h = step_after P (λ x j. Noted (took_effect x cs) (Gave v u j)) (λ x j i. h) w k s

-- ---- the methods of the system stay

unless_own : (b : Bool) (g m : ℕ) (p : ℕ × ℕ) → is_system (Some m) ≡ b → unless_system b g m ≡ Ok p → is_system (Some p.1) ≡ false
unless_own true g m p e h = cc
unless_own false g m p e h = let q : m ≡ p.1 = cc in subst (λ n. is_system (Some n) ≡ false) q e

removed_in : (g m : Option ℕ) (function v : Val) (p : ℕ × ℕ) → removable_in g m function v ≡ Ok p → is_system (Some p.1) ≡ false
removed_in None m function v p h = cc
removed_in (Some g) None function v p h = cc
removed_in (Some g) (Some m) function v p h = unless_own (is_system (Some m)) g m p refl h

removed_of_program : (function v : Val) (p : ℕ × ℕ) → removable function v ≡ Ok p → is_system (Some p.1) ≡ false
removed_of_program function v p h = removed_in (generic_in function) (method_in v) function v p h

module _ (P : State → Type 0) (stays : Stays P) where
  kept_after : (w : State) (o : Out) → SameAfter w o → P w → After P o
  kept_after w (Gave v u k) h s = stays.same w u h.0 s
  kept_after w (Stopped c u k) h s = stays.same w u h.0 s
  kept_after w (Noted n o) h s = kept_after w o h s
  kept_after w (Looked name more) h s = λ n. kept_after w (more n) (h n) s
  kept_after w (Asked name xs more) h s = λ x. kept_after w (more x) (h x) s

  then_after : (w : State) (o : Out) (go : Val → Run) → SameAfter w o → P w → ((v : Val) → Keeps P (go v)) → After P (then_do o go)
  then_after w (Gave v u k) go h s g = g v u k (stays.same w u h.0 s)
  then_after w (Stopped c u k) go h s g = stays.same w u h.0 s
  then_after w (Noted n o) go h s g = then_after w o go h s g
  then_after w (Looked name more) go h s g = λ n. then_after w (more n) go (h n) s g
  then_after w (Asked name xs more) go h s g = λ x. then_after w (more x) go (h x) s g

  form_after : (o : Option Form) (go : Option Val → Run) → ((v : Option Val) → Keeps P (go v)) → Keeps P (form_evaluated o go)
  form_after None go g w k s = g None w k s
  form_after (Some f) go g w k s =
      then_after w (evaluation (room_below w) f w k) (λ v. go (Some v)) (evaluation_kept (room_below w) f w k) s (λ v. g (Some v))

  forms_after : (fs : List (Option Form)) (vs : List (Option Val)) (go : List (Option Val) → Run)
      → ((us : List (Option Val)) → Keeps P (go us)) → Keeps P (forms_evaluated fs vs go)
  forms_after [] vs go g w k s = g vs w k s
  forms_after (f ∷ fs) vs go g w k s =
      form_after f (λ v. forms_evaluated fs (vs ++ v ∷ []) go) (λ v. forms_after fs (vs ++ v ∷ []) go g) w k s

  -- ---- the definition forms

  method_keeps : (name : FunctionName) (m : MethodDefinition) → StaysWith P (DefMethod name m) → Keeps P (define_method name m)
  method_keeps name m h w k s =
      unless_after P (method_refusal name m None w) (forms_evaluated (map eql_form m.specializers) [] (method_made name m)) w k s
      (λ e. forms_after (map eql_form m.specializers) [] (method_made name m)
      (λ vs u j i. unless_after P (method_refusal name m (Some vs) u)
      (takes_effect (method_concerned name m vs u) (method (length u.generics.methods)) (with_defined_method name m vs u)) u j i
      (λ none. effect_after P (method_concerned name m vs u) (method (length u.generics.methods)) (with_defined_method name m vs u) u j i
      (h vs u none i))) w k s)

  generic_keeps : (d : GenericDefinition) → StaysWith P (DefGeneric d) → Keeps P (define_generic d)
  generic_keeps d h w k s =
      unless_after P (generic_refusal d None w) (forms_evaluated (eql_forms d.methods) [] (generic_made d)) w k s
      (λ e. forms_after (eql_forms d.methods) [] (generic_made d)
      (λ vs u j i. unless_after P (generic_refusal d (Some vs) u)
      (takes_effect (generic_concerned d vs u) (generic (number u.generics d.name)) (with_defined_generic d vs u)) u j i
      (λ none. effect_after P (generic_concerned d vs u) (generic (number u.generics d.name)) (with_defined_generic d vs u) u j i
      (h vs u none i))) w k s)

  class_keeps : (d : ClassDefinition) → StaysWith P (DefClass d) → Keeps P (define_class d)
  class_keeps d h w k s =
      unless_after P (class_refusal d (length (cells_needed d w)) w)
      (forms_evaluated (initforms (cells_needed d w)) [] (class_made d)) w k s
      (λ e. forms_after (initforms (cells_needed d w)) [] (class_made d)
      (λ vs u j i. unless_after P (class_refusal d (length vs) u)
      (takes_effect (class_concerned d vs u) (class (class_number d u)) (with_defined_class d vs u)) u j i
      (λ none. effect_after P (class_concerned d vs u) (class (class_number d u)) (with_defined_class d vs u) u j i
      (h vs u none i))) w k s)

  removed_keeps : (v : Val) (r : Result (ℕ × ℕ) Condition) → ((p : ℕ × ℕ) → r ≡ Ok p → is_system (Some p.1) ≡ false) → Keeps P (removed_if v r)
  removed_keeps v (Err c) own w k s = s
  removed_keeps v (Ok p) own w k s =
      effect_after P (concerned_by_removal p.0 p.1 w.generics) v (with_removed p.0 p.1 w) w k s (stays.removal p.0 p.1 w (own p refl) s)

  removal_keeps : (f m : Form) → Keeps P (remove_method f m)
  removal_keeps f m w k s =
      forms_after (Some f ∷ Some m ∷ []) [] values_removed
      (λ vs u j i. removed_keeps (value_at vs 0) (removable (value_at vs 0) (value_at vs 1)) (removed_of_program (value_at vs 0) (value_at vs 1)) u j i) w k s

  changed_keeps : (c : Change) (r : Result (Metaobject × ℕ) Condition) → Keeps P (changed_if c r)
  changed_keeps c (Err e) w k s = s
  changed_keeps c (Ok p) w k s =
      step_after P (λ x j. Gave (truth true) (with_change c p.0 p.1 w) j) (λ x j i. stays.change c p.0 p.1 w s) w k s

  change_keeps : (c : Change) (m d : Form) → Keeps P (change_dependents c m d)
  change_keeps c m d w k s =
      forms_after (Some m ∷ Some d ∷ []) [] (values_watched c)
      (λ vs u j i. changed_keeps c (watched u.hearing.names (value_at vs 0) (value_at vs 1)) u j i) w k s

  function_keeps : (name : FunctionName) (f : FunctionDefinition) → StaysWith P (Defun f) → Keeps P (define_function name (defined f))
  function_keeps (Symbol name) f h w k s =
      either P (is_some (generic_named w.generics (Symbol name))) _ _ s
      (either P (is_some (function_in w.functions name) || has_room w) (step_then (function_defined name (defined f)) w k) _
      (step_after P (function_defined name (defined f)) (λ u j i. (h name u i).0) w k s) s)
  function_keeps (Setf name) f h w k s =
      either P (is_some (generic_named w.generics (Setf name))) _ _ s
      (either P (is_some (function_in w.setters name) || has_room w) (step_then (setter_defined name (defined f)) w k) _
      (step_after P (setter_defined name (defined f)) (λ u j i. (h name u i).1) w k s) s)

  combination_keeps : (d : CombinationDefinition) → Keeps P (define_combination d)
  combination_keeps d w k s =
      either P (is_predefined (name_of d)) _ _ s
      (either P (combinations.has_room w.combinations (name_of d)) (step_then (combination_defined d) w k) _
      (step_after P (combination_defined d) (λ u j i. stays.combination d u i) w k s) s)

  with_variables : (u : State) (vs : Variables) → P u → P (record u { globals = vs })
  with_variables u vs i = stays.same u (record u { globals = vs }) (refl, refl, refl, refl, refl, refl) i

  value_keeps : (name : Name) (o : Option Form) → Keeps P (new_value name o)
  value_keeps name None w k s =
      step_after P (declared name) (λ u j i. either P (is_global u.globals name) _ _ i (with_variables u (with_global name None u.globals) i)) w k s
  value_keeps name (Some f) w k s =
      then_after w (evaluation (room_below w) f w k) (λ v. step_then (value_given name v)) (evaluation_kept (room_below w) f w k) s
      (λ v. step_after P (value_given name v) (λ u j i. with_variables u (with_global name (Some v) u.globals) i))

  variable_keeps : (d : VariableDefinition) → Keeps P (variable_defined d)
  variable_keeps d w k s =
      either P (admits w d.name) _ (stopped TableLimit [] w k)
      (either P (keeps_value w d.definer d.name) (step_then (defined_name d.name) w k) (new_value d.name d.form w k)
      (step_after P (defined_name d.name) (λ u j i. i) w k s) (value_keeps d.name d.form w k s)) s

  -- ---- top-level forms

  performed_keeps : (top : Top) → StaysWith P top → Keeps P (performed top)
  performed_keeps (DefClass d) h w k s = class_keeps d h w k s
  performed_keeps (DefGeneric d) h w k s = generic_keeps d h w k s
  performed_keeps (DefMethod name m) h w k s = method_keeps name m h w k s
  performed_keeps (DefCombination c) h w k s = combination_keeps c w k s
  performed_keeps (Defun f) h w k s = function_keeps f.name f h w k s
  performed_keeps (DefVar d) h w k s = variable_keeps d w k s
  performed_keeps (RemoveMethod function m) h w k s = removal_keeps function m w k s
  performed_keeps (AddDependent m d) h w k s = change_keeps Add m d w k s
  performed_keeps (RemoveDependent m d) h w k s = change_keeps Remove m d w k s
  performed_keeps InPackage h w k s = s
  performed_keeps (Expr f) h w k s = kept_after w (evaluation (room_of w) f w k) (evaluation_kept (room_of w) f w k) s

  checked_keeps : (o : Option Top) → ((top : Top) → o ≡ Some top → StaysWith P top) → Keeps P (checked o)
  checked_keeps None h w k s = s
  checked_keeps (Some top) h w k s = performed_keeps top (h top refl) w k s

-- ---- what it ends with

abbrev EndsSo : (State → Type 0) → Option End → Type 0
EndsSo P None = ⊤
EndsSo P (Some e) = P (state_in e)

if_permitted : (P : State → Type 0) (b : Bool) (o : Option End) → EndsSo P o → EndsSo P (if b then o else None)
if_permitted P true o h = h
if_permitted P false o h = tt

answered_so : (P : State → Type 0) (host : Host) (o : Out) (xs : List ℤ) → After P o → EndsSo P (answered_by host o xs)
answered_so P host (Gave v u k) [] h = h
answered_so P host (Gave v u k) (x ∷ xs) h = tt
answered_so P host (Stopped c u k) [] h = h
answered_so P host (Stopped c u k) (x ∷ xs) h = tt
answered_so P host (Noted n o) xs h = answered_so P host o xs h
answered_so P host (Looked name more) xs h =
    answered_so P host (more (option_map (λ f. f.takes) (host name))) xs (h (option_map (λ f. f.takes) (host name)))
answered_so P host (Asked name ys more) [] h = tt
answered_so P host (Asked name ys more) (x ∷ xs) h =
    if_permitted P (may_answer (host name) ys x) (answered_by host (more x) xs) (answered_so P host (more x) xs (h x))

-- in each state that a session comes to
pub always : (P : State → Type 0) → Stays P → ((d : Dat) (top : Top) → top_of d ≡ Some top → StaysWith P top)
    → (limits : Limits) (names : List Name) → P (initial limits names) → (w : State) → IsReached limits names w → P w
always P stays h limits names first _ begins = first
always P stays h limits names first _ (performs w d k host used e r ends) =
    subst (EndsSo P) ends
    (answered_so P host (step d w k) used (checked_keeps P stays (top_of d) (h d) w k (always P stays h limits names first w r)))
