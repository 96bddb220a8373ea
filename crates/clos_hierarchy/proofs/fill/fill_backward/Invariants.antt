use Rattle.std.proofs.Common.{◌≡◌, ℕ, length, true}
use Rattle.clos_precedence.specs.Precedence.{has}
use Rattle.clos_precedence.specs.PrecedenceView.{numbers}
use Rattle.clos_hierarchy.proofs.Filled.{Goes}
use Rattle.clos_hierarchy.proofs.fill.fill_backward.Given as goal

abbrev pub invariant-loop-place : goal.invariant-loop-place
invariant-loop-place l =
    Goes l.filled l.definitions l.fn.kept.items l.kept.items (numbers l.fn.places) (numbers l.left) × ((n : ℕ) → has (numbers l.left) n ≡ true → has (numbers l.fn.places) n ≡ true)

abbrev pub decreases-loop-place : goal.decreases-loop-place
decreases-loop-place l = length l.left
