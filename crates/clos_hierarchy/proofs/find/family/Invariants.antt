use Rattle.std.proofs.Common.{◌≡◌, ◌||◌, ◌∷◌, ℕ, length}
use Rattle.clos_precedence.specs.Precedence.{has}
use Rattle.clos_hierarchy.specs.inner.Finding.{together}
use Rattle.clos_precedence.specs.PrecedenceView.{numbers}
use Rattle.clos_hierarchy.specs.inner.KeptView.{listing_at}
use Rattle.clos_hierarchy.proofs.find.family.Given as goal

abbrev pub invariant-loop-superclass : goal.invariant-loop-superclass
invariant-loop-superclass l =
    (x : ℕ) → (has l.family x || has (together (listing_at l.fn.kept) (numbers l.left)) x) ≡ has (l.fn.class.0 ∷ together (listing_at l.fn.kept) (numbers l.fn.superclasses)) x

abbrev pub decreases-loop-superclass : goal.decreases-loop-superclass
decreases-loop-superclass l = length l.left
