use Rattle.std.proofs.Common.{rules, ◌≡◌, length, map, sym}
use Rattle.std.specs.Prelude.{IfOk}
use Rattle.std.proofs.lemmas.List.{length-map}
use Rattle.lisp_data.specs.ValueView.{value_of}
use Rattle.clos_world.specs.Dispatch.{ordered}
use Rattle.clos_world.specs.World.{seen}
use Rattle.clos_world.proofs.InOrder.{in_order_if_ok}
use Rattle.clos_world.proofs.tables.World.ordered.Goals as goal

pub returns-clause-in_order : goal.returns-clause-in_order
returns-clause-in_order c =
    let w = seen c.args.self.now in
    let vs = map value_of c.args.values.now in
    let found : IfOk c.ordered.result (λ r. r ≡ ordered w c.args.id.0 vs) = search rules in
    in_order_if_ok w c.args.id.0 vs (length c.args.values.now) c.ordered.result c.calls_are_in_order.ensures
    (sym (length-map c.args.values.now value_of)) found
