-- What was written before a form stays.
use Rattle.std.proofs.Common.{ℕ, List, Some, Result, Ok, Err, subst}
use Rattle.std.specs.Prelude.{ℤ}
use Rattle.lisp_data.specs.Datum.{Dat}
use Rattle.lisp_data.specs.declared.value.Value.{Value}
use Rattle.clos_definition_forms.specs.clos_machine.Machine.{AnswersWith}
use Rattle.clos_definition_forms.specs.clos_machine.clos_meaning.Host.{Host}
use Rattle.clos_definition_forms.specs.clos_machine.clos_meaning.Outcome.{End, Given, Signalled, ends_in}
use Rattle.clos_definition_forms.specs.clos_machine.clos_meaning.Output.{WritesMore}
use Rattle.clos_definition_forms.specs.clos_world.World.{State}
use Rattle.clos_definition_forms.specs.clos_world.declared.condition.Stop.{Stop}
use Rattle.clos_definition_forms.specs.clos_world.declared.condition.Stop.TheVariants.{Refused, Storage}
use Rattle.clos_perform.specs.Step.{step}
use Rattle.clos_perform.proofs.Definitions.{answered_refused, ends_refused, step_refused}

left_written : (w u : State) (e : End) → ends_refused w (Some e) → ends_in e u 0 → WritesMore w u
left_written w u (Given v x j) h g = subst (WritesMore w) g.0 h
left_written w u (Signalled c x j) h g = subst (WritesMore w) g.0 h.1

pub writes_more : (host : Host) (d : Dat) (w u : State) (s k : ℕ) (past past' : List ℤ) (r : Result Value Stop)
    → AnswersWith host (step d) w s past r u k past' → WritesMore w u
writes_more host d w u s k past past' (Ok v) h = subst (ends_refused w) h.2 (answered_refused host w (step d w s) h.0 (step_refused d w s))
writes_more host d w u s k past past' (Err (Refused c)) h =
    (subst (ends_refused w) h.2 (answered_refused host w (step d w s) h.0 (step_refused d w s))).1
writes_more host d w u s k past past' (Err Storage) h =
    left_written w u h.4.0 (subst (ends_refused w) h.4.1 (answered_refused host w (step d w h.2) h.0 (step_refused d w h.2))) h.4.2
