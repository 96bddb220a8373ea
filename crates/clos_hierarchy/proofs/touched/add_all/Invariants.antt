use Rattle.std.proofs.Common.{length}
use Rattle.clos_precedence.specs.Precedence.{has}
use Rattle.clos_precedence.specs.PrecedenceView.{numbers}
use Rattle.clos_hierarchy.proofs.Ascending.{Merges}
use Rattle.clos_hierarchy.proofs.touched.add_all.Given as goal

abbrev pub invariant-loop-class : goal.invariant-loop-class
invariant-loop-class l = Merges l.fn.places.items l.places.items (has (numbers l.fn.classes)) (has (numbers l.left))

abbrev pub decreases-loop-class : goal.decreases-loop-class
decreases-loop-class l = length l.left
