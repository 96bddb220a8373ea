use Rattle.std.proofs.Common.{◌≡◌, length}
use Rattle.clos_precedence.specs.Precedence.{are_done}
use Rattle.clos_precedence.specs.PrecedenceView.{numbers}
use Rattle.clos_precedence.proofs.seen.Seen.has_all.Given as goal

abbrev pub invariant-loop-class : goal.invariant-loop-class
invariant-loop-class l = are_done l.fn.self (numbers l.left) ≡ are_done l.fn.self (numbers l.fn.classes)

abbrev pub decreases-loop-class : goal.decreases-loop-class
decreases-loop-class l = length l.left
