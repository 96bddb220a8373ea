-- Forms of which nobody is told.
use Rattle.std.proofs.Common.{◌≡◌, ℕ, zero, suc, List, [], ◌∷◌, ◌++◌, Option, Some, None, Result, Ok, Err, Bool, true, false, refl, ◌∙◌, ap, subst}
use Rattle.std.specs.Prelude.{⊤, ℤ, option_map, ◌||◌, is_some, if◌then◌else◌}
use Rattle.lisp_data.specs.Name.{Name}
use Rattle.lisp_data.specs.Value.{Val}
use Rattle.lisp_data.specs.declared.value.Value.{Value}
use Rattle.clos_forms.specs.Form.{Form}
use Rattle.clos_forms.specs.declared.operator.FunctionName.{FunctionName}
use Rattle.clos_forms.specs.declared.operator.FunctionName.TheVariants.{Symbol, Setf}
use Rattle.clos_definition_forms.specs.lisp_prims.Primitive.{truth}
use Rattle.clos_top.specs.clos_syntax.declared.variable.VariableDefinition.{VariableDefinition}
use Rattle.clos_definition_forms.specs.clos_generic.Table.{named as generic_named}
use Rattle.clos_definition_forms.specs.clos_watch.declared.notice.Metaobject.{Metaobject}
use Rattle.clos_definition_forms.specs.clos_world.Functions.{function_in}
use Rattle.clos_definition_forms.specs.clos_world.Globals.{is_global}
use Rattle.clos_definition_forms.specs.clos_world.World.{State}
use Rattle.clos_definition_forms.specs.clos_world.clos_comb.Table as combinations
use Rattle.clos_definition_forms.specs.clos_world.clos_comb.Table.{is_predefined, name_of}
use Rattle.clos_definition_forms.specs.clos_world.clos_comb.clos_combination.declared.combination.CombinationDefinition.{CombinationDefinition}
use Rattle.clos_definition_forms.specs.clos_world.declared.condition.Condition.{Condition}
use Rattle.clos_definition_forms.specs.clos_world.declared.condition.Stop.{Stop}
use Rattle.clos_definition_forms.specs.clos_world.declared.condition.Stop.TheVariants.{Refused, Storage}
use Rattle.clos_definition_forms.specs.clos_world.declared.functions.Function.{Function}
use Rattle.clos_definition_forms.specs.clos_machine.Machine.{AnswersWith}
use Rattle.clos_definition_forms.specs.clos_machine.clos_meaning.Host.{Host, answered_by, may_answer}
use Rattle.clos_definition_forms.specs.clos_machine.clos_meaning.Meaning.{evaluation}
use Rattle.clos_definition_forms.specs.clos_machine.clos_meaning.Outcome.{Asked, End, Given, Looked, Noted, Out, Gave, Signalled, Stopped, Run, ends_in, then_do, step_then}
use Rattle.clos_definition_forms.specs.clos_making.Combination.{combination_defined, define_combination}
use Rattle.clos_definition_forms.specs.clos_making.Made.{value_at}
use Rattle.clos_definition_forms.specs.Dependents.{change_dependents, changed_if, values_watched, watched, with_change}
use Rattle.clos_definition_forms.specs.Forms.{form_evaluated, forms_evaluated}
use Rattle.clos_definition_forms.specs.clos_making.Function.{has_room, function_defined, setter_defined, define_function}
use Rattle.clos_definition_forms.specs.Variable.{admits, declared, keeps_value, named as defined_name, new_value, room_below, value_given, variable_defined}
use Rattle.clos_definition_forms.specs.declared.dependents.Change.{Change}
use Rattle.clos_definition_forms.proofs.clos_machine.clos_meaning.Kept.{SameAfter, evaluation_kept}

-- no notice has come after it
abbrev Silent : State → Out → Type 0
Silent w (Gave v u k) = u.hearing.notices ≡ w.hearing.notices
Silent w (Stopped c u k) = u.hearing.notices ≡ w.hearing.notices
Silent w (Noted n o) = Silent w o
Silent w (Looked name more) = (n : Option ℕ) → Silent w (more n)
Silent w (Asked name xs more) = (x : ℤ) → Silent w (more x)

kept_silent : (w : State) (o : Out) → SameAfter w o → Silent w o
kept_silent w (Gave v u k) h = ap (λ x. x.notices) h.0.5
kept_silent w (Stopped c u k) h = ap (λ x. x.notices) h.0.5
kept_silent w (Noted n o) h = kept_silent w o h
kept_silent w (Looked name more) h = λ n. kept_silent w (more n) (h n)
kept_silent w (Asked name xs more) h = λ x. kept_silent w (more x) (h x)

shifted_silent : (w u : State) (o : Out) → u.hearing.notices ≡ w.hearing.notices → Silent u o → Silent w o
shifted_silent w u (Gave v t k) h g = g ∙ h
shifted_silent w u (Stopped c t k) h g = g ∙ h
shifted_silent w u (Noted n o) h g = shifted_silent w u o h g
shifted_silent w u (Looked name more) h g = λ n. shifted_silent w u (more n) h (g n)
shifted_silent w u (Asked name xs more) h g = λ x. shifted_silent w u (more x) h (g x)

choice_silent : (b : Bool) (w : State) (x y : Out) → Silent w x → Silent w y → Silent w (if b then x else y)
choice_silent true w x y h g = h
choice_silent false w x y h g = g

step_silent : (run : Run) (w : State) (k : ℕ) → ((j : ℕ) → Silent w (run w j)) → Silent w (step_then run w k)
step_silent run w zero h = refl
step_silent run w (suc k) h = h k

then_silent : (w : State) (o : Out) (go : Val → Run) → Silent w o → ((v : Val) (u : State) (j : ℕ) → Silent u (go v u j)) → Silent w (then_do o go)
then_silent w (Gave v u k) go h g = shifted_silent w u (go v u k) h (g v u k)
then_silent w (Stopped c u k) go h g = h
then_silent w (Noted n o) go h g = then_silent w o go h g
then_silent w (Looked name more) go h g = λ n. then_silent w (more n) go (h n) g
then_silent w (Asked name xs more) go h g = λ x. then_silent w (more x) go (h x) g

form_silent : (o : Option Form) (go : Option Val → Run) (w : State) (k : ℕ) → ((v : Option Val) (u : State) (j : ℕ) → Silent u (go v u j))
    → Silent w (form_evaluated o go w k)
form_silent None go w k g = g None w k
form_silent (Some f) go w k g =
    then_silent w (evaluation (room_below w) f w k) (λ v. go (Some v))
    (kept_silent w (evaluation (room_below w) f w k) (evaluation_kept (room_below w) f w k)) (λ v u j. g (Some v) u j)

forms_silent : (fs : List (Option Form)) (vs : List (Option Val)) (go : List (Option Val) → Run) (w : State) (k : ℕ)
    → ((us : List (Option Val)) (u : State) (j : ℕ) → Silent u (go us u j))
    → Silent w (forms_evaluated fs vs go w k)
forms_silent [] vs go w k g = g vs w k
forms_silent (f ∷ fs) vs go w k g =
    form_silent f (λ v. forms_evaluated fs (vs ++ v ∷ []) go) w k (λ v u j. forms_silent fs (vs ++ v ∷ []) go u j g)

-- ---- as it ends with the answers that came

abbrev ends_silent : State → Option End → Type 0
ends_silent w None = ⊤
ends_silent w (Some (Given v u k)) = u.hearing.notices ≡ w.hearing.notices
ends_silent w (Some (Signalled c u k)) = u.hearing.notices ≡ w.hearing.notices

if_permitted : (w : State) (b : Bool) (o : Option End) → ends_silent w o → ends_silent w (if b then o else None)
if_permitted w true o h = h
if_permitted w false o h = tt

answered_silent : (host : Host) (w : State) (o : Out) (xs : List ℤ) → Silent w o → ends_silent w (answered_by host o xs)
answered_silent host w (Gave v u k) [] h = h
answered_silent host w (Gave v u k) (x ∷ xs) h = tt
answered_silent host w (Stopped c u k) [] h = h
answered_silent host w (Stopped c u k) (x ∷ xs) h = tt
answered_silent host w (Noted n o) xs h = answered_silent host w o xs h
answered_silent host w (Looked name more) xs h = answered_silent host w (more (option_map (λ f. f.takes) (host name))) xs
    (h (option_map (λ f. f.takes) (host name)))
answered_silent host w (Asked name ys more) [] h = tt
answered_silent host w (Asked name ys more) (x ∷ xs) h =
    if_permitted w (may_answer (host name) ys x) (answered_by host (more x) xs) (answered_silent host w (more x) xs (h x))

left_silent : (w u : State) (e : End) → ends_silent w (Some e) → ends_in e u 0 → u.hearing.notices ≡ w.hearing.notices
left_silent w u (Given v x j) h g = subst (λ y. y.hearing.notices ≡ w.hearing.notices) g.0 h
left_silent w u (Signalled c x j) h g = subst (λ y. y.hearing.notices ≡ w.hearing.notices) g.0 h

module _ (host : Host) (run : Run) (w u : State) (s k : ℕ) (past past' : List ℤ) where
  by_run : ((j : ℕ) → Silent w (run w j)) → (r : Result Value Stop) → AnswersWith host run w s past r u k past' → u.hearing.notices ≡ w.hearing.notices
  by_run q (Ok v) h = subst (ends_silent w) h.2 (answered_silent host w (run w s) h.0 (q s))
  by_run q (Err (Refused c)) h = subst (ends_silent w) h.2 (answered_silent host w (run w s) h.0 (q s))
  by_run q (Err Storage) h =
      left_silent w u h.4.0 (subst (ends_silent w) h.4.1 (answered_silent host w (run w h.2) h.0 (q h.2))) h.4.2

-- ---- the forms

module _ (host : Host) (w u : State) (s k : ℕ) (past past' : List ℤ) (r : Result Value Stop) where
  pub expression_untold : (room : ℕ) (f : Form) → AnswersWith host (evaluation room f) w s past r u k past' → u.hearing.notices ≡ w.hearing.notices
  expression_untold room f h =
      by_run host (evaluation room f) w u s k past past' (λ j. kept_silent w (evaluation room f w j) (evaluation_kept room f w j)) r h

  -- a function
  function_silent : (name : FunctionName) (f : Function) (j : ℕ) → Silent w (define_function name f w j)
  function_silent (Symbol name) f j =
      choice_silent (is_some (generic_named w.generics (Symbol name))) w _ _ refl
      (choice_silent (is_some (function_in w.functions name) || has_room w) w (step_then (function_defined name f) w j) _
      (step_silent (function_defined name f) w j (λ i. refl)) refl)
  function_silent (Setf name) f j =
      choice_silent (is_some (generic_named w.generics (Setf name))) w _ _ refl
      (choice_silent (is_some (function_in w.setters name) || has_room w) w (step_then (setter_defined name f) w j) _
      (step_silent (setter_defined name f) w j (λ i. refl)) refl)

  pub function_untold : (name : FunctionName) (f : Function) → AnswersWith host (define_function name f) w s past r u k past'
      → u.hearing.notices ≡ w.hearing.notices
  function_untold name f h = by_run host (define_function name f) w u s k past past' (function_silent name f) r h

  -- a method combination
  combination_silent : (d : CombinationDefinition) (j : ℕ) → Silent w (define_combination d w j)
  combination_silent d j =
      choice_silent (is_predefined (name_of d)) w _ _ refl
      (choice_silent (combinations.has_room w.combinations (name_of d)) w (step_then (combination_defined d) w j) _
      (step_silent (combination_defined d) w j (λ i. refl)) refl)

  pub combination_untold : (d : CombinationDefinition) → AnswersWith host (define_combination d) w s past r u k past' → u.hearing.notices ≡ w.hearing.notices
  combination_untold d h = by_run host (define_combination d) w u s k past past' (combination_silent d) r h

  -- a variable
  value_silent : (name : Name) (o : Option Form) (j : ℕ) → Silent w (new_value name o w j)
  value_silent name None j = step_silent (declared name) w j (λ i. choice_silent (is_global w.globals name) w _ _ refl refl)
  value_silent name (Some f) j =
      then_silent w (evaluation (room_below w) f w j) (λ v. step_then (value_given name v))
      (kept_silent w (evaluation (room_below w) f w j) (evaluation_kept (room_below w) f w j))
      (λ v x i. step_silent (value_given name v) x i (λ n. refl))

  variable_silent : (d : VariableDefinition) (j : ℕ) → Silent w (variable_defined d w j)
  variable_silent d j =
      choice_silent (admits w d.name) w _ _
      (choice_silent (keeps_value w d.definer d.name) w (step_then (defined_name d.name) w j) (new_value d.name d.form w j)
      (step_silent (defined_name d.name) w j (λ i. refl)) (value_silent d.name d.form j)) refl

  pub variable_untold : (d : VariableDefinition) → AnswersWith host (variable_defined d) w s past r u k past' → u.hearing.notices ≡ w.hearing.notices
  variable_untold d h = by_run host (variable_defined d) w u s k past past' (variable_silent d) r h

  -- dependents that come and go
  changed_silent : (c : Change) (p : Result (Metaobject × ℕ) Condition) (x : State) (j : ℕ) → Silent x (changed_if c p x j)
  changed_silent c (Err e) x j = refl
  changed_silent c (Ok p) x j = step_silent (λ y i. Gave (truth true) (with_change c p.0 p.1 x) i) x j (λ i. refl)

  pub change_untold : (c : Change) (m d : Form) → AnswersWith host (change_dependents c m d) w s past r u k past' → u.hearing.notices ≡ w.hearing.notices
  change_untold c m d h =
      by_run host (change_dependents c m d) w u s k past past'
      (λ j. forms_silent (Some m ∷ Some d ∷ []) [] (values_watched c) w j
      (λ vs x i. changed_silent c (watched x.hearing.names (value_at vs 0) (value_at vs 1)) x i)) r h
