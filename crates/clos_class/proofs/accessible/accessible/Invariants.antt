use Rattle.std.proofs.Common.{◌≡◌, length}
use Rattle.clos_precedence.specs.PrecedenceView.{numbers}
use Rattle.clos_class.specs.inner.Building.{with_names}
use Rattle.clos_class.specs.Slots.{accessible}
use Rattle.clos_class.specs.SlotsView.{slots_in}
use Rattle.clos_class.proofs.Built.{all_names}
use Rattle.clos_class.proofs.accessible.accessible.Given as goal

abbrev pub invariant-loop-class : goal.invariant-loop-class
invariant-loop-class l = with_names l.found (all_names (slots_in l.fn.classes) l.left) ≡ accessible (slots_in l.fn.classes) (numbers l.fn.list)

abbrev pub decreases-loop-class : goal.decreases-loop-class
decreases-loop-class l = length l.left
