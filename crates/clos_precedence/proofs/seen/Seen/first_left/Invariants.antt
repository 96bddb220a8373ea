use Rattle.std.proofs.Common.{◌≡◌, length}
use Rattle.clos_precedence.specs.Precedence.{first_left}
use Rattle.clos_precedence.specs.PrecedenceView.{numbers}
use Rattle.clos_precedence.proofs.seen.Seen.first_left.Given as goal

abbrev pub invariant-loop-superclass : goal.invariant-loop-superclass
invariant-loop-superclass l = first_left l.fn.self (numbers l.left) ≡ first_left l.fn.self (numbers l.fn.superclasses)

abbrev pub decreases-loop-superclass : goal.decreases-loop-superclass
decreases-loop-superclass l = length l.left
