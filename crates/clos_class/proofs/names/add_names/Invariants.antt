use Rattle.std.proofs.Common.{◌≡◌, length}
use Rattle.clos_class.specs.inner.Building.{with_names}
use Rattle.clos_class.proofs.names.add_names.Given as goal

abbrev pub invariant-loop-name : goal.invariant-loop-name
invariant-loop-name l = with_names l.names l.left ≡ with_names l.fn.names l.fn.more

abbrev pub decreases-loop-name : goal.decreases-loop-name
decreases-loop-name l = length l.left
