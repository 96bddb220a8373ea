use Rattle.std.proofs.Common.{◌≡◌, length}
use Rattle.clos_circle.specs.Circle.{are_next}
use Rattle.clos_circle.proofs.precedence.are_next.Given as goal

abbrev pub invariant-loop-left : goal.invariant-loop-left
invariant-loop-left l = are_next l.last l.left l.before l.after ≡ are_next l.fn.first l.fn.names l.before l.after

abbrev pub decreases-loop-left : goal.decreases-loop-left
decreases-loop-left l = length l.left
