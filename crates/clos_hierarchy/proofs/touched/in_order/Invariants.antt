use Rattle.std.proofs.Common.{length}
use Rattle.clos_precedence.specs.PrecedenceView.{numbers}
use Rattle.clos_hierarchy.proofs.Ascending.{Orders}
use Rattle.clos_hierarchy.proofs.touched.in_order.Given as goal

abbrev pub invariant-loop-number : goal.invariant-loop-number
invariant-loop-number l = Orders l.fn.places.items (numbers l.classes.items) l.left

abbrev pub decreases-loop-number : goal.decreases-loop-number
decreases-loop-number l = length l.left
