-- Forms by their kinds.
use Rattle.std.proofs.Common.{◌≡◌, ℕ, List, Some, Result, ap, sym, ◌∙◌}
use Rattle.std.specs.Prelude.{ℤ}
use Rattle.lisp_data.specs.declared.value.Value.{Value}
use Rattle.clos_top.specs.declared.top.Top.{Top}
use Rattle.clos_definition_forms.specs.clos_eval.Evaluation.{Performs}
use Rattle.clos_definition_forms.specs.clos_machine.clos_meaning.Host.{Host}
use Rattle.clos_definition_forms.specs.clos_machine.clos_meaning.Outcome.{Run}
use Rattle.clos_definition_forms.specs.clos_world.World.{seen}
use Rattle.clos_definition_forms.specs.clos_world.declared.condition.Stop.{Stop}
use Rattle.clos_definition_forms.specs.clos_world.declared.tables.World.{World}
use Rattle.clos_definition_forms.proofs.Evaluated.{performs_as}
use Rattle.clos_perform.specs.Step.{checked, performed}

-- a form of this kind does what this run does
pub kind_performs : (host : Host) (run : Run) (top kind : Top) (w u : World) (s k : ℕ) (past past' : List ℤ) (r : Result Value Stop) → top ≡ kind
    → ((i : ℕ) → run (seen w) i ≡ performed kind (seen w) i) → Performs host run w s past r u k past'
    → Performs host (checked (Some top)) w s past r u k past'
kind_performs host run top kind w u s k past past' r e same h =
    performs_as host run (checked (Some top)) w u s k past past' r (λ i. same i ∙ sym (ap (λ t. performed t (seen w) i) e)) h
