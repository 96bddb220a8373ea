use Rattle.std.proofs.Common.{◌≡◌, length}
use Rattle.std.specs.Option.{option_or}
use Rattle.std.specs.HashMap.{get}
use Rattle.lisp_data.specs.Name.{Name, same_name}
use Rattle.clos_precedence.specs.PrecedenceView.{numbers}
use Rattle.clos_class.specs.Slots.{initform}
use Rattle.clos_class.specs.SlotsView.{slots_in}
use Rattle.clos_class.proofs.initforms.initforms.Given as goal

abbrev pub invariant-loop-class : goal.invariant-loop-class
invariant-loop-class l =
    (n : Name) → option_or (get same_name l.noted n) (initform (slots_in l.fn.classes) (numbers l.left) n) ≡ initform (slots_in l.fn.classes) (numbers l.fn.list) n

abbrev pub decreases-loop-class : goal.decreases-loop-class
decreases-loop-class l = length l.left
