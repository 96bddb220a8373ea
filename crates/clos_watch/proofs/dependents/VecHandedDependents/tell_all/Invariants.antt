use Rattle.std.proofs.Common.{length}
use Rattle.clos_watch.specs.Watching.{watching}
use Rattle.clos_watch.proofs.AtPlace.{TellsOn}
use Rattle.clos_watch.proofs.dependents.VecHandedDependents.tell_all.Given as goal

abbrev pub invariant-loop-notice : goal.invariant-loop-notice
invariant-loop-notice g l =
    TellsOn (λ d. d.0) (λ d. (goal.Dependent-dyn g (d.1.vtable, d.1.value)).told d.1.value)
    (λ d. (goal.Dependent-dyn g (d.1.vtable, d.1.value)).room d.1.value)
    (watching l.watchers) l.fn.notices l.fn.self.items l.self.items l.left

abbrev pub decreases-loop-notice : goal.decreases-loop-notice
decreases-loop-notice g l = length l.left
