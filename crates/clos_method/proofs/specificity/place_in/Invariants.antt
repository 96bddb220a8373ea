use Rattle.std.proofs.Common.{◌≡◌, ◌+◌, length}
use Rattle.clos_precedence.specs.PrecedenceView.{numbers}
use Rattle.clos_method.specs.inner.Ranks.{place_in}
use Rattle.clos_method.proofs.specificity.place_in.Given as goal

abbrev pub invariant-loop-other : goal.invariant-loop-other
invariant-loop-other l =
    (l.at + place_in (numbers l.left) l.class.0 ≡ place_in (numbers l.fn.list) l.class.0) × (l.at + length l.left ≡ length l.fn.list)

abbrev pub decreases-loop-other : goal.decreases-loop-other
decreases-loop-other l = length l.left
