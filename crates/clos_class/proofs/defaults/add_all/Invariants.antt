use Rattle.std.proofs.Common.{◌≡◌, ◌++◌, List, length}
use Rattle.clos_defclass.specs.declared.class.DefaultInitarg.{DefaultInitarg}
use Rattle.clos_class.specs.inner.Building.{completed}
use Rattle.clos_class.proofs.defaults.add_all.Given as goal

abbrev pub invariant-loop-default : goal.invariant-loop-default
invariant-loop-default l = (ds : List DefaultInitarg) → completed l.known l.found (l.left ++ ds) ≡ completed l.fn.known l.fn.found (l.fn.defaults ++ ds)

abbrev pub decreases-loop-default : goal.decreases-loop-default
decreases-loop-default l = length l.left
