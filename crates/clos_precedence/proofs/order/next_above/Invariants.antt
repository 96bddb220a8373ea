use Rattle.std.proofs.Common.{◌≡◌, ℕ, List, length}
use Rattle.clos_precedence.specs.Precedence.{next_above}
use Rattle.clos_precedence.specs.PrecedenceView.{latest_first}
use Rattle.clos_precedence.specs.OrderView.{TellsFree}
use Rattle.clos_precedence.proofs.order.next_above.Given as goal

abbrev pub invariant-loop-latest : goal.invariant-loop-latest
invariant-loop-latest g l =
    (all : List ℕ) → TellsFree (g.S.Superclasses.above l.fn.superclasses) all l.fn.before
    → next_above (g.S.Superclasses.above l.fn.superclasses) all l.fn.done (latest_first l.rest) ≡ next_above (g.S.Superclasses.above l.fn.superclasses) all l.fn.done l.fn.done

abbrev pub decreases-loop-latest : goal.decreases-loop-latest
decreases-loop-latest g l = length l.rest
