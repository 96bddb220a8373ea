use Rattle.std.proofs.Common.{◌-◌, length}
use Rattle.clos_watch.specs.Watching.{watching}
use Rattle.clos_watch.proofs.Handed.{Prepares}
use Rattle.clos_watch.proofs.watchers.Watchers.prepare_all.Given as goal

abbrev pub invariant-loop-place : goal.invariant-loop-place
invariant-loop-place g l =
    Prepares (λ d. d.0) (λ d. (goal.Dependent-dyn g (d.1.vtable, d.1.value)).told d.1.value)
    (λ d. (goal.Dependent-dyn g (d.1.vtable, d.1.value)).room d.1.value) (watching l.fn.self) l.fn.notices l.fn.dependents
    l.dependents l.place

abbrev pub decreases-loop-place : goal.decreases-loop-place
decreases-loop-place g l = length l.fn.dependents - l.place
