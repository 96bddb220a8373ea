use Rattle.std.proofs.Common.{◌≡◌, length}
use Rattle.clos_hierarchy.specs.Classes.{defined}
use Rattle.clos_precedence.specs.OrderView.{with_all_seen}
use Rattle.clos_hierarchy.proofs.cycle.add_defined.Given as goal

abbrev pub invariant-loop-name : goal.invariant-loop-name
invariant-loop-name l = with_all_seen l.seen (defined l.fn.definitions l.left) ≡ with_all_seen l.fn.seen (defined l.fn.definitions l.fn.names)

abbrev pub decreases-loop-name : goal.decreases-loop-name
decreases-loop-name l = length l.left
