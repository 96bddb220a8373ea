use Rattle.std.specs.HashMap.{get}
use Rattle.lisp_data.specs.Name.{same_name}
use Rattle.clos_precedence.specs.PrecedenceView.{numbers}
use Rattle.clos_class.specs.Slots.{cell_in}
use Rattle.clos_class.proofs.Needed.{to_make}
use Rattle.clos_class.proofs.reserve.cells_to_make.Goals as goal

pub returns : goal.returns
returns c =
    to_make c.args.rows.now c.with-classes.result c.args.class.0 (numbers c.args.list.now) c.args.definition.now (λ m. cell_in (get same_name c.in_ok-cells.cells.own m)) c.in_ok-cells.cells.new
    c.as_slice.result.now c.in_ok-said.said c.in_ok-found.found c.requires c.in_ok-cells.ensures.own c.in_ok-cells.ensures.new c.as_slice.ensures c.in_ok-said.ensures c.with-classes.ensures c.in_ok-found.ensures
