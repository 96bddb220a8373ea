use Rattle.std.proofs.Common.{length}
use Rattle.clos_watch.specs.Watching.{changed, watching}
use Rattle.clos_watch.proofs.Telling.{Tells}
use Rattle.clos_watch.proofs.watchers.Watchers.tell_all.Given as goal

abbrev pub invariant-loop-place : goal.invariant-loop-place
invariant-loop-place g l =
    Tells (λ d. d.0) (λ d. (goal.Dependent-dyn g (d.1.vtable, d.1.value)).told d.1.value)
    (λ d. (goal.Dependent-dyn g (d.1.vtable, d.1.value)).room d.1.value) l.fn.notice (watching l.fn.self (changed l.fn.notice))
    l.fn.dependents l.dependents l.left

abbrev pub decreases-loop-place : goal.decreases-loop-place
decreases-loop-place g l = length l.left
