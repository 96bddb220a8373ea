use Rattle.std.proofs.Common.{◌≡◌, ◌++◌, length}
use Rattle.clos_precedence.specs.PrecedenceView.{numbers}
use Rattle.clos_hierarchy.specs.inner.Exchange.{nothing_of}
use Rattle.clos_hierarchy.proofs.exchange.nothing_of.Given as goal

abbrev pub invariant-loop-others : goal.invariant-loop-others
invariant-loop-others l = l.nothing.items ++ nothing_of (numbers l.left) ≡ nothing_of (numbers l.fn.places)

abbrev pub decreases-loop-others : goal.decreases-loop-others
decreases-loop-others l = length l.left
