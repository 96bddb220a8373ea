use Rattle.std.proofs.Common.{◌≡◌, length}
use Rattle.std.specs.List.{filter, list_any}
use Rattle.lisp_data.specs.Name.{same_name}
use Rattle.clos_class.specs.inner.Building.{with_names}
use Rattle.clos_class.specs.Slots.{names}
use Rattle.clos_class.proofs.cells.add_among.Given as goal

abbrev pub invariant-loop-slot : goal.invariant-loop-slot
invariant-loop-slot l =
    with_names l.found (filter (λ n. list_any (same_name n) l.fn.lacking) (names l.left)) ≡ with_names l.fn.found (filter (λ n. list_any (same_name n) l.fn.lacking) (names l.fn.slots))

abbrev pub decreases-loop-slot : goal.decreases-loop-slot
decreases-loop-slot l = length l.left
