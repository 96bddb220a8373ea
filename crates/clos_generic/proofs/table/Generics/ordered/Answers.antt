use Rattle.std.proofs.Common.{rules, ◌≡◌}
use Rattle.std.specs.Prelude.{IfOk}
use Rattle.clos_generic.specs.Calls.{ordered}
use Rattle.clos_generic.proofs.InOrder.{in_order_if_ok}
use Rattle.clos_generic.proofs.table.Generics.ordered.Goals as goal

pub returns-in-Some-clause-in_order : goal.returns-in-Some-clause-in_order
returns-in-Some-clause-in_order c =
    let t = c.args.self.now.table in
    let found : IfOk c.ordered_methods.result (λ r. r ≡ ordered t c.args.id.0 c.args.arguments.now) = search rules in
    in_order_if_ok t c.args.id.0 c.args.arguments.now c.ordered_methods.result c.are_sound.ensures found
