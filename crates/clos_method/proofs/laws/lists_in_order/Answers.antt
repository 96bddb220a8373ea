use Rattle.clos_method.proofs.InOrder.{lists_in_order}
use Rattle.clos_method.proofs.laws.lists_in_order.Goals as goal

pub returns : goal.returns
returns c = lists_in_order
