use Rattle.std.proofs.Common.{◌≡◌, length}
use Rattle.clos_hierarchy.specs.inner.KeptView.{listing_at}
use Rattle.clos_hierarchy.proofs.Ready.{are_said}
use Rattle.clos_hierarchy.proofs.woken.are_said.Given as goal

abbrev pub invariant-loop-name : goal.invariant-loop-name
invariant-loop-name l = are_said l.fn.definitions (listing_at l.fn.kept) l.fn.woken l.left ≡ are_said l.fn.definitions (listing_at l.fn.kept) l.fn.woken l.fn.names

abbrev pub decreases-loop-name : goal.decreases-loop-name
decreases-loop-name l = length l.left
