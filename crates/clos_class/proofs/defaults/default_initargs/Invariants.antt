use Rattle.std.proofs.Common.{◌≡◌, length}
use Rattle.std.specs.List.{flat_map}
use Rattle.clos_precedence.specs.PrecedenceView.{numbers}
use Rattle.clos_class.specs.Slots.{default_initargs}
use Rattle.clos_class.specs.SlotsView.{defaults_in}
use Rattle.clos_class.specs.inner.Building.{completed}
use Rattle.clos_class.proofs.defaults.default_initargs.Given as goal

abbrev pub invariant-loop-class : goal.invariant-loop-class
invariant-loop-class l = completed l.known l.found (flat_map (defaults_in l.fn.classes) (numbers l.left)) ≡ default_initargs (defaults_in l.fn.classes) (numbers l.fn.list)

abbrev pub decreases-loop-class : goal.decreases-loop-class
decreases-loop-class l = length l.left
