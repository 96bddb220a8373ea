-- A condition ends what would follow a value.
use Rattle.std.proofs.Common.{Err, ap, ◌∙◌}
use Rattle.lisp_data.specs.Value.{Val}
use Rattle.clos_machine.specs.clos_world.World.{State}
use Rattle.clos_machine.specs.clos_world.declared.condition.Stop.{Stop}
use Rattle.clos_machine.specs.clos_world.declared.condition.Stop.TheVariants.{Refused, Storage}
use Rattle.clos_machine.specs.Machine.{Becomes, Leads, at, inside, resume}
use Rattle.clos_machine.specs.clos_meaning.Meaning.{closed}
use Rattle.clos_machine.specs.clos_meaning.Outcome.{Run, then_do}
use Rattle.clos_machine.specs.declared.machine.Machine.{Machine}
use Rattle.clos_machine.proofs.Turns.{stopped_through}

pub nothing_follows : (m n : Machine) (first : Run) (go : Val → Run) (w : State) (stop : Stop) → Becomes first (at m w) (Err stop)
    → Leads (inside m (λ u k. then_do (first u k) go)) w (Err stop) n
nothing_follows m n first go w (Refused c) h = λ t.
    ap (λ o. closed (resume m.levels m.context (then_do o go))) (h t) ∙ stopped_through m.levels m.context c (at m w) t
nothing_follows m n first go w Storage h = tt
