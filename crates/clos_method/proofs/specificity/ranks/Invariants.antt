use Rattle.std.proofs.Common.{◌≡◌, ◌++◌, length}
use Rattle.clos_method.specs.inner.Ranks.{ranks_of}
use Rattle.clos_method.proofs.specificity.ranks.Given as goal

abbrev pub invariant-loop-place : goal.invariant-loop-place
invariant-loop-place l =
    l.found.items ++ ranks_of l.left l.arguments l.specializers ≡ ranks_of l.fn.order l.arguments l.specializers

abbrev pub decreases-loop-place : goal.decreases-loop-place
decreases-loop-place l = length l.left
