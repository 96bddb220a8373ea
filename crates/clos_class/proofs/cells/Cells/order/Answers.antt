use Rattle.std.specs.HashMap.{get}
use Rattle.std.specs.List.{list_any}
use Rattle.std.proofs.Common.{[]}
use Rattle.lisp_data.specs.Name.{same_name}
use Rattle.clos_precedence.specs.PrecedenceView.{numbers}
use Rattle.clos_class.specs.Slots.{cell_in}
use Rattle.clos_class.specs.Table.{cell_for, said}
use Rattle.clos_class.proofs.Needed.{in_order}
use Rattle.clos_class.proofs.cells.Cells.order.Goals as goal

pub returns : goal.returns
returns c =
    in_order c.with.result c.args.rows.now c.args.class.0 (numbers c.args.list.now) c.in_ok-said.said (said (cell_for (λ m. cell_in (get same_name c.args.self.now.own m)) c.args.self.now.new []) c.args.definition.now)
    (λ m. list_any (same_name m) c.args.self.now.new) c.in_ok-found.found c.in_ok-said.ensures c.requires c.with.ensures c.in_ok-found.ensures
