use Rattle.std.proofs.Common.{◌||◌, ap, sym, ◌∙◌}
use Rattle.std.specs.HashMap.{get}
use Rattle.std.specs.List.{list_any}
use Rattle.lisp_data.specs.Name.{same_name}
use Rattle.clos_class.specs.inner.Building.{with_name}
use Rattle.clos_class.specs.Slots.{cell_in}
use Rattle.clos_class.specs.Table.{needs_cell}
use Rattle.clos_class.proofs.Needed.{one_lacking}
use Rattle.clos_class.proofs.cells.lacking.Goals as goal

pub loop-slot-preserved-in_ok-add : goal.loop-slot-preserved-in_ok-add
loop-slot-preserved-in_ok-add c = λ n.
    one_lacking (λ m. cell_in (get same_name c.args.own.now m)) n c.loop-slot.lacking c.add.new.self c.in-Some.slot.now c.in-Some.others.now
    (c.in_ok-add.ensures ∙ ap (with_name c.loop-slot.lacking) c.in_ok-copy.ensures)
    (sym c.lacks_cell.ensures ∙ c.if-lacks_cell.true)
    ∙ ap (λ ss. list_any (same_name n) c.loop-slot.lacking || needs_cell (λ m. cell_in (get same_name c.args.own.now m)) ss n) (sym c.in-Some.ensures.cases.0)
    ∙ c.loop-slot.invariant n
