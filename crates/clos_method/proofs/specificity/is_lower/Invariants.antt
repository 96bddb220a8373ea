use Rattle.std.proofs.Common.{◌≡◌, length}
use Rattle.clos_method.specs.inner.Ranks.{is_lower}
use Rattle.clos_method.proofs.specificity.is_lower.Given as goal

-- the places so far decide nothing
abbrev pub invariant-loop-left : goal.invariant-loop-left
invariant-loop-left l = is_lower l.left l.right ≡ is_lower l.fn.first l.fn.second

abbrev pub decreases-loop-left : goal.decreases-loop-left
decreases-loop-left l = length l.left
