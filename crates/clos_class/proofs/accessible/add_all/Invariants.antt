use Rattle.std.proofs.Common.{◌≡◌, length}
use Rattle.clos_class.specs.inner.Building.{with_names}
use Rattle.clos_class.specs.Slots.{names}
use Rattle.clos_class.proofs.accessible.add_all.Given as goal

abbrev pub invariant-loop-slot : goal.invariant-loop-slot
invariant-loop-slot l = with_names l.found (names l.left) ≡ with_names l.fn.found (names l.fn.slots)

abbrev pub decreases-loop-slot : goal.decreases-loop-slot
decreases-loop-slot l = length l.left
