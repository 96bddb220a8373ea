use Rattle.std.proofs.Common.{◌≡◌, length}
use Rattle.clos_hierarchy.specs.inner.Finding.{any_broken}
use Rattle.clos_precedence.specs.PrecedenceView.{numbers}
use Rattle.clos_hierarchy.specs.inner.KeptView.{listing_at}
use Rattle.clos_hierarchy.proofs.find.any_broken.Given as goal

abbrev pub invariant-loop-class : goal.invariant-loop-class
invariant-loop-class l = any_broken (listing_at l.fn.kept) (numbers l.left) ≡ any_broken (listing_at l.fn.kept) (numbers l.fn.classes)

abbrev pub decreases-loop-class : goal.decreases-loop-class
decreases-loop-class l = length l.left
