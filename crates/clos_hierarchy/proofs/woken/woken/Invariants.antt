use Rattle.std.proofs.Common.{◌-◌, length}
use Rattle.clos_hierarchy.specs.inner.KeptView.{listing_at}
use Rattle.clos_hierarchy.proofs.Waking.{Waking}
use Rattle.clos_hierarchy.proofs.woken.woken.Given as goal

abbrev pub invariant-loop-place : goal.invariant-loop-place
invariant-loop-place l = Waking l.fn.definitions (listing_at l.fn.kept) l.fn.direct l.fn.class.0 l.woken l.place

abbrev pub decreases-loop-place : goal.decreases-loop-place
decreases-loop-place l = length l.fn.definitions.names - l.place
