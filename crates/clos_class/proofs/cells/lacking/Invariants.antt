use Rattle.std.proofs.Common.{◌≡◌, ◌||◌, length}
use Rattle.std.specs.HashMap.{get}
use Rattle.std.specs.List.{list_any}
use Rattle.lisp_data.specs.Name.{Name, same_name}
use Rattle.clos_class.specs.Slots.{cell_in}
use Rattle.clos_class.specs.Table.{needs_cell}
use Rattle.clos_class.proofs.cells.lacking.Given as goal

abbrev pub invariant-loop-slot : goal.invariant-loop-slot
invariant-loop-slot l =
    (n : Name) → (list_any (same_name n) l.lacking || needs_cell (λ m. cell_in (get same_name l.fn.own m)) l.left n) ≡ needs_cell (λ m. cell_in (get same_name l.fn.own m)) l.fn.slots n

abbrev pub decreases-loop-slot : goal.decreases-loop-slot
decreases-loop-slot l = length l.left
