use Rattle.std.proofs.Common.{◌≡◌, ◌++◌, length, map}
use Rattle.std.specs.HashMap.{get}
use Rattle.lisp_data.specs.Name.{same_name}
use Rattle.clos_class.specs.Slots.{cell_in}
use Rattle.clos_class.specs.SlotsView.{direct_slot}
use Rattle.clos_class.specs.Table.{cell_for}
use Rattle.clos_class.proofs.cells.Cells.slots.Given as goal

abbrev pub invariant-loop-slot : goal.invariant-loop-slot
invariant-loop-slot l =
    l.direct ++ map (λ s. direct_slot s (cell_for (λ m. cell_in (get same_name l.fn.self.own m)) l.fn.self.new l.fn.cells s.name)) l.left
    ≡ map (λ s. direct_slot s (cell_for (λ m. cell_in (get same_name l.fn.self.own m)) l.fn.self.new l.fn.cells s.name)) l.fn.slots

abbrev pub decreases-loop-slot : goal.decreases-loop-slot
decreases-loop-slot l = length l.left
