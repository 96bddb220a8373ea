use Rattle.clos_laws.proofs.InOrder.{calls_are_in_order}
use Rattle.clos_laws.proofs.laws.calls_are_in_order.Goals as goal

pub returns : goal.returns
returns c = calls_are_in_order
