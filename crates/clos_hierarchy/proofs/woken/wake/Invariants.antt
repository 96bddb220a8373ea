use Rattle.std.proofs.Common.{length}
use Rattle.clos_hierarchy.specs.inner.KeptView.{listing_at}
use Rattle.clos_hierarchy.specs.inner.Waking.{Wakes}
use Rattle.clos_hierarchy.proofs.woken.wake.Given as goal

abbrev pub invariant-loop-number : goal.invariant-loop-number
invariant-loop-number l = Wakes l.fn.definitions (listing_at l.fn.kept) l.fn.classes l.left l.fn.woken l.woken

abbrev pub decreases-loop-number : goal.decreases-loop-number
decreases-loop-number l = length l.left
