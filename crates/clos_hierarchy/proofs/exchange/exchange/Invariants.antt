use Rattle.std.proofs.Common.{◌-◌, length}
use Rattle.clos_precedence.specs.PrecedenceView.{numbers}
use Rattle.clos_hierarchy.proofs.Exchanged.{Exchanges}
use Rattle.clos_hierarchy.proofs.exchange.exchange.Given as goal

abbrev pub invariant-loop-index : goal.invariant-loop-index
invariant-loop-index l = Exchanges (numbers l.fn.places) l.fn.others.items l.fn.kept.items l.others.items l.kept.items l.index

abbrev pub decreases-loop-index : goal.decreases-loop-index
decreases-loop-index l = length l.fn.places - l.index
