use Rattle.std.proofs.Common.{◌≡◌, ◌&&◌, ℕ, List, length}
use Rattle.clos_precedence.specs.Precedence.{are_before_done, are_done}
use Rattle.clos_precedence.specs.PrecedenceView.{numbers}
use Rattle.clos_precedence.specs.OrderView.{row_at}
use Rattle.clos_precedence.proofs.predecessors.Predecessors.add_list.Given as goal

abbrev pub invariant-loop-superclass : goal.invariant-loop-superclass
invariant-loop-superclass l =
    (done : List ℕ) (x : ℕ) → (are_before_done done x l.before.0 (numbers l.left) && are_done done (row_at l.self x))
    ≡ (are_before_done done x l.fn.below.0 (numbers l.fn.superclasses) && are_done done (row_at l.fn.self x))

abbrev pub decreases-loop-superclass : goal.decreases-loop-superclass
decreases-loop-superclass l = length l.left
