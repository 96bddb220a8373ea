use Rattle.std.proofs.Common.{◌≡◌, ◌++◌, length, map}
use Rattle.clos_precedence.specs.PrecedenceView.{numbers}
use Rattle.clos_class.specs.Slots.{initform}
use Rattle.clos_class.specs.SlotsView.{slots_in}
use Rattle.clos_class.proofs.reserve.with_initforms.Given as goal

abbrev pub invariant-loop-name : goal.invariant-loop-name
invariant-loop-name l =
    l.cells ++ map (λ n. record { slot = n; initform = initform (slots_in l.fn.classes) (numbers l.fn.list) n }) l.left
    ≡ map (λ n. record { slot = n; initform = initform (slots_in l.fn.classes) (numbers l.fn.list) n }) l.fn.slots

abbrev pub decreases-loop-name : goal.decreases-loop-name
decreases-loop-name l = length l.left
