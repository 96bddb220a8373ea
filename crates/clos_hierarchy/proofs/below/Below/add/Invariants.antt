use Rattle.std.proofs.Common.{length}
use Rattle.clos_precedence.specs.PrecedenceView.{numbers}
use Rattle.clos_hierarchy.proofs.Under.{IsAdding}
use Rattle.clos_hierarchy.proofs.below.Below.add.Given as goal

abbrev pub invariant-loop-above : goal.invariant-loop-above
invariant-loop-above l = IsAdding l.fn.self l.self l.fn.class.0 (numbers l.fn.list) (numbers l.left)

abbrev pub decreases-loop-above : goal.decreases-loop-above
decreases-loop-above l = length l.left
