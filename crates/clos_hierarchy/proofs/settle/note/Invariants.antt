use Rattle.std.proofs.Common.{length}
use Rattle.clos_precedence.specs.PrecedenceView.{numbers}
use Rattle.clos_hierarchy.proofs.Under.{IsNoting}
use Rattle.clos_hierarchy.proofs.settle.note.Given as goal

abbrev pub invariant-loop-class : goal.invariant-loop-class
invariant-loop-class l = IsNoting l.fn.below l.below l.fn.kept (numbers l.fn.places) (numbers l.left)

abbrev pub decreases-loop-class : goal.decreases-loop-class
decreases-loop-class l = length l.left
