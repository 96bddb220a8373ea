use Rattle.std.proofs.Common.{List, ℕ, ap, length, ◌∙◌}
use Rattle.lisp_data.specs.Name.{Name}
use Rattle.lisp_data.specs.declared.ids.CellId.{CellId}
use Rattle.clos_precedence.specs.PrecedenceView.{numbers}
use Rattle.clos_class.specs.Table.{cell_for, cells_from, new_cells, own_cell, said}
use Rattle.clos_class.proofs.reserve.find_said.Goals as goal

pub returns : goal.returns
returns c =
    let n : ℕ = c.args.class.0 in
    let new : List Name = new_cells c.args.rows.now n (numbers c.args.list.now) c.args.definition.now in
    c.in_ok-said.ensures
    ∙ ap (λ k. said (cell_for k c.in_ok-found.found.new c.deref.result.now) c.args.definition.now) (λ i m. c.in_ok-found.ensures.own m i)
    ∙ ap (λ ns. said (cell_for (own_cell c.args.rows.now n) ns c.deref.result.now) c.args.definition.now) c.in_ok-found.ensures.new
    ∙ ap (λ (cs : List CellId). said (cell_for (own_cell c.args.rows.now n) new cs) c.args.definition.now)
    (c.deref.ensures.value ∙ c.in_ok-cells.ensures ∙ ap (cells_from c.args.first.0) (c.len.ensures ∙ ap length c.in_ok-found.ensures.new))
