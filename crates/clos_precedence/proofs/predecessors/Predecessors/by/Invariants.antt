use Rattle.std.proofs.Common.{◌≡◌, ◌&&◌, ℕ, List, length}
use Rattle.clos_precedence.specs.Precedence.{are_done, is_free}
use Rattle.clos_precedence.specs.PrecedenceView.{numbers}
use Rattle.clos_precedence.specs.OrderView.{row_at}
use Rattle.clos_precedence.proofs.predecessors.Predecessors.by.Given as goal

abbrev pub invariant-loop-member : goal.invariant-loop-member
invariant-loop-member g l =
    (done : List ℕ) (x : ℕ) → (is_free (g.S.Superclasses.above l.fn.superclasses) (numbers l.left) done x && are_done done (row_at l.before x)) ≡ is_free (g.S.Superclasses.above l.fn.superclasses) (numbers l.fn.family) done x

abbrev pub decreases-loop-member : goal.decreases-loop-member
decreases-loop-member g l = length l.left
