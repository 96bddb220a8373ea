use Rattle.std.proofs.Common.{length}
use Rattle.clos_hierarchy.proofs.Naming.{IsNaming}
use Rattle.clos_hierarchy.proofs.direct.Direct.add.Given as goal

abbrev pub invariant-loop-name : goal.invariant-loop-name
invariant-loop-name l = IsNaming l.fn.self l.self l.fn.class.0 l.fn.above l.left

abbrev pub decreases-loop-name : goal.decreases-loop-name
decreases-loop-name l = length l.left
