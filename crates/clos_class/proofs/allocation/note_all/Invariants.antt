use Rattle.std.proofs.Common.{◌≡◌, length}
use Rattle.std.specs.Option.{option_or}
use Rattle.std.specs.HashMap.{get}
use Rattle.lisp_data.specs.Name.{Name, same_name}
use Rattle.clos_class.specs.Slots.{called, first_allocation}
use Rattle.clos_class.proofs.allocation.note_all.Given as goal

abbrev pub invariant-loop-slot : goal.invariant-loop-slot
invariant-loop-slot l =
    (n : Name) → option_or (get same_name l.noted n) (first_allocation (called n l.left)) ≡ option_or (get same_name l.fn.noted n) (first_allocation (called n l.fn.slots))

abbrev pub decreases-loop-slot : goal.decreases-loop-slot
decreases-loop-slot l = length l.left
