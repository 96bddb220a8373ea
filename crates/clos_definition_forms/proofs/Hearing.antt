-- What is heard of a form, from what is heard of its parts.
use Rattle.std.proofs.Common.{◌≡◌, ℕ, List, [], drop, length, ap, ◌∙◌}
use Rattle.std.specs.Prelude.{ℤ, Option}
use Rattle.lisp_data.specs.Value.{Val}
use Rattle.clos_forms.specs.Form.{Form}
use Rattle.clos_eval.specs.clos_machine.clos_world.Definitions.{Same}
use Rattle.clos_eval.specs.clos_machine.clos_world.World.{State, seen}
use Rattle.clos_eval.specs.clos_machine.clos_world.declared.condition.Stop.{Stop}
use Rattle.clos_eval.specs.clos_machine.clos_world.declared.tables.World.{World}
use Rattle.clos_eval.specs.clos_machine.clos_meaning.Host.{Host}
use Rattle.clos_making.specs.clos_effects.clos_watch.Watching.{heard_after}
use Rattle.clos_making.specs.clos_effects.clos_watch.declared.notice.Notice.{Notice}
use Rattle.clos_making.specs.clos_effects.Hearing.{Heard}
use Rattle.clos_making.proofs.clos_effects.Hearing.{unheard}
use Rattle.clos_eval.specs.Evaluation.{GoesOn}
use Rattle.clos_definition_forms.specs.Forms.{EndsBefore, forms_evaluated}
use Rattle.clos_definition_forms.proofs.Kept.{evaluated_same, stopped_same}

module _ (told told' : List (List Notice)) where
  -- what came before defined nothing
  heard_later : (w v u : State) → Same w v → Heard told v told' u → Heard told w told' u
  heard_later w v u s h =
      h ∙ ap (λ x. heard_after x (drop (length v.hearing.notices) u.hearing.notices) told) (ap (λ x. x.watching) s.5)
      ∙ ap (λ xs. heard_after w.hearing.watching (drop (length xs) u.hearing.notices) told) (ap (λ x. x.notices) s.5)

  -- forms that were evaluated before it
  pub heard_with_values : (host : Host) (fs : List (Option Form)) (w v u : World) (s k : ℕ) (past past' : List ℤ) (vs : List (Option Val))
      → GoesOn host (forms_evaluated fs []) w s past vs v k past' → Heard told (seen v) told' (seen u) → Heard told (seen w) told' (seen u)
  heard_with_values host fs w v u s k past past' vs g h = heard_later (seen w) (seen v) (seen u) (evaluated_same host fs w v s k past past' vs g).0 h

  -- .. of which one stopped
  pub unheard_before : (host : Host) (fs : List (Option Form)) (w u : World) (s k : ℕ) (past past' : List ℤ) (stop : Stop)
      → told' ≡ told → EndsBefore host (forms_evaluated fs []) w s past stop u k past' → Heard told (seen w) told' (seen u)
  unheard_before host fs w u s k past past' stop same g =
      let e : Same (seen w) (seen u) = (stopped_same host fs w u s k past past' stop g).0 in unheard told told' (seen w) (seen u) same (ap (λ x. x.notices) e.5)
