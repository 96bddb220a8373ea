use Rattle.std.proofs.Common.{◌≡◌, length}
use Rattle.clos_precedence.specs.PrecedenceView.{numbers}
use Rattle.clos_precedence.specs.OrderView.{with_all_seen}
use Rattle.clos_hierarchy.proofs.find.add_all.Given as goal

abbrev pub invariant-loop-class : goal.invariant-loop-class
invariant-loop-class l = with_all_seen l.family (numbers l.left) ≡ with_all_seen l.fn.family (numbers l.fn.classes)

abbrev pub decreases-loop-class : goal.decreases-loop-class
decreases-loop-class l = length l.left
