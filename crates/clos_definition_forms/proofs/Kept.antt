-- The forms that a definition evaluates define nothing.
use Rattle.std.proofs.Common.{ℕ, ◌+◌, ◌++◌, List, [], ◌∷◌, Option, Some, None, Result, Ok, Err, Bool, true, false, refl, subst, ◌∙◌}
use Rattle.std.specs.Prelude.{⊤, ℤ, option_map, if◌then◌else◌}
use Rattle.lisp_data.specs.Value.{Val, list, nil}
use Rattle.lisp_data.specs.declared.value.Value.{Value}
use Rattle.clos_forms.specs.Form.{Form}
use Rattle.clos_eval.specs.clos_machine.clos_world.Definitions.{Same}
use Rattle.clos_eval.specs.clos_machine.clos_world.World.{State, seen}
use Rattle.clos_eval.specs.clos_machine.clos_world.declared.condition.Stop.{Stop}
use Rattle.clos_eval.specs.clos_machine.clos_world.declared.condition.Stop.TheVariants.{Refused, Storage}
use Rattle.clos_eval.specs.clos_machine.clos_world.declared.tables.World.{World}
use Rattle.clos_eval.specs.clos_machine.clos_meaning.Host.{Host, answered_by, may_answer}
use Rattle.clos_eval.specs.clos_machine.clos_meaning.Meaning.{evaluation}
use Rattle.clos_eval.specs.clos_machine.clos_meaning.Outcome.{Asked, End, Given, Looked, Noted, Out, Gave, Signalled, Stopped, Run, ends_in, then_do}
use Rattle.clos_eval.proofs.clos_machine.clos_meaning.Kept.{Follows, SameAfter, evaluation_kept, shifted, stays}
use Rattle.clos_eval.specs.Evaluation.{GoesOn}
use Rattle.clos_eval.specs.clos_machine.Machine.{AnswersWith}
use Rattle.clos_making.specs.clos_effects.Effects.{SameAtStorage}
use Rattle.clos_making.proofs.clos_effects.Noting.{same_stopped}
use Rattle.clos_definition_forms.specs.Forms.{EndsBefore, form_evaluated, forms_evaluated}
use Rattle.clos_definition_forms.specs.Variable.{room_below}

-- ---- forms, and then what defines nothing

pub then_same : (w : State) (o : Out) (go : Val → Run) → SameAfter w o → ((v : Val) (u : State) (j : ℕ) → SameAfter u (go v u j)) → SameAfter w (then_do o go)
then_same w (Gave v u j) go h g = shifted w u (go v u j) h (g v u j)
then_same w (Stopped c u j) go h g = h
then_same w (Noted n o) go h g = then_same w o go h g
then_same w (Looked name more) go h g = λ n. then_same w (more n) go (h n) g
then_same w (Asked name xs more) go h g = λ x. then_same w (more x) go (h x) g

form_same : (o : Option Form) (go : Option Val → Run) (w : State) (k : ℕ) → ((v : Option Val) (u : State) (j : ℕ) → SameAfter u (go v u j))
    → SameAfter w (form_evaluated o go w k)
form_same None go w k g = g None w k
form_same (Some f) go w k g =
    then_same w (evaluation (room_below w) f w k) (λ v. go (Some v)) (evaluation_kept (room_below w) f w k) (λ v u j. g (Some v) u j)

forms_same : (fs : List (Option Form)) (vs : List (Option Val)) (go : List (Option Val) → Run) (w : State) (k : ℕ)
    → ((us : List (Option Val)) (u : State) (j : ℕ) → SameAfter u (go us u j))
    → SameAfter w (forms_evaluated fs vs go w k)
forms_same [] vs go w k g = g vs w k
forms_same (f ∷ fs) vs go w k g =
    form_same f (λ v. forms_evaluated fs (vs ++ v ∷ []) go) w k (λ v u j. forms_same fs (vs ++ v ∷ []) go u j g)

-- ---- as it ends with the answers that came

abbrev ends_same : State → Option End → Type 0
ends_same w None = ⊤
ends_same w (Some (Given v u k)) = Follows w u
ends_same w (Some (Signalled c u k)) = Follows w u

if_permitted : (w : State) (b : Bool) (o : Option End) → ends_same w o → ends_same w (if b then o else None)
if_permitted w true o h = h
if_permitted w false o h = tt

answered_same : (host : Host) (w : State) (o : Out) (xs : List ℤ) → SameAfter w o → ends_same w (answered_by host o xs)
answered_same host w (Gave v u k) [] h = h
answered_same host w (Gave v u k) (x ∷ xs) h = tt
answered_same host w (Stopped c u k) [] h = h
answered_same host w (Stopped c u k) (x ∷ xs) h = tt
answered_same host w (Noted n o) xs h = answered_same host w o xs h
answered_same host w (Looked name more) xs h = answered_same host w (more (option_map (λ f. f.takes) (host name))) xs
    (h (option_map (λ f. f.takes) (host name)))
answered_same host w (Asked name ys more) [] h = tt
answered_same host w (Asked name ys more) (x ∷ xs) h =
    if_permitted w (may_answer (host name) ys x) (answered_by host (more x) xs) (answered_same host w (more x) xs (h x))

left_same : (w u : State) (e : End) → ends_same w (Some e) → ends_in e u 0 → Follows w u
left_same w u (Given v x j) h g = subst (Follows w) g.0 h
left_same w u (Signalled c x j) h g = subst (Follows w) g.0 h

-- ---- the forms by themselves

-- nothing follows
abbrev nothing_more : List (Option Val) → Run
nothing_more vs w k = Gave (list nil) w k

module _ (host : Host) (fs : List (Option Form)) (w u : World) (s k : ℕ) (past past' : List ℤ) where
  by_themselves : (j : ℕ) (xs : List ℤ) → ends_same (seen w) (answered_by host (forms_evaluated fs [] nothing_more (seen w) j) xs)
  by_themselves j xs =
      answered_same host (seen w) (forms_evaluated fs [] nothing_more (seen w) j) xs (forms_same fs [] nothing_more (seen w) j (λ vs v i. stays v))

  pub evaluated_same : (vs : List (Option Val)) → GoesOn host (forms_evaluated fs []) w s past vs u k past' → Follows (seen w) (seen u)
  evaluated_same vs h = subst (ends_same (seen w)) (h.same nothing_more 0 []) (by_themselves (h.taken + 0) (h.answers ++ []))

  pub stopped_same : (stop : Stop) → EndsBefore host (forms_evaluated fs []) w s past stop u k past' → Follows (seen w) (seen u)
  stopped_same (Refused c) h =
      let y = (h.ends nothing_more (λ vs. (refl, refl))).answer in subst (ends_same (seen w)) y.2 (by_themselves s y.0)
  stopped_same Storage h =
      let y = (h.ends nothing_more (λ vs. (refl, refl))).answer in
      left_same (seen w) (seen u) y.4.0 (subst (ends_same (seen w)) y.4.1 (by_themselves y.2 y.0)) y.4.2

-- ---- where memory was refused after them

same_then : (w v u : State) → Same w v → Same v u → Same w u
same_then w v u h g = (g.0 ∙ h.0, g.1 ∙ h.1, g.2 ∙ h.2, g.3 ∙ h.3, g.4 ∙ h.4, g.5 ∙ h.5)

same_past : (w v u : State) (r : Result Value Stop) → Same w v → SameAtStorage r v u → SameAtStorage r w u
same_past w v u (Ok x) h g = tt
same_past w v u (Err (Refused c)) h g = tt
same_past w v u (Err Storage) h g = same_then w v u h g

module _ (host : Host) (fs : List (Option Form)) (w v : World) (s k : ℕ) (past past' : List ℤ) where
  -- in what came of their values
  pub same_with_values : (u : World) (vs : List (Option Val)) (r : Result Value Stop) → GoesOn host (forms_evaluated fs []) w s past vs v k past'
      → SameAtStorage r (seen v) (seen u) → SameAtStorage r (seen w) (seen u)
  same_with_values u vs r g h = same_past (seen w) (seen v) (seen u) r (evaluated_same host fs w v s k past past' vs g).0 h

  -- in one of them
  pub same_before : (stop : Stop) → EndsBefore host (forms_evaluated fs []) w s past stop v k past' → SameAtStorage (Err stop) (seen w) (seen v)
  same_before stop g = same_stopped (seen w) (seen v) stop (stopped_same host fs w v s k past past' stop g).0

-- in a run that defines nothing, whatever it comes to
pub same_by : (host : Host) (run : Run) (w u : State) (s k : ℕ) (past past' : List ℤ) → ((j : ℕ) → SameAfter w (run w j)) → (r : Result Value Stop)
    → AnswersWith host run w s past r u k past' → SameAtStorage r w u
same_by host run w u s k past past' q (Ok v) h = tt
same_by host run w u s k past past' q (Err (Refused c)) h = tt
same_by host run w u s k past past' q (Err Storage) h =
    (left_same w u h.4.0 (subst (ends_same w) h.4.1 (answered_same host w (run w h.2) h.0 (q h.2))) h.4.2).0
