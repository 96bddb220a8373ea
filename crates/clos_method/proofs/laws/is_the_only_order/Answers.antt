use Rattle.clos_method.proofs.InOrder.{is_the_only_order}
use Rattle.clos_method.proofs.laws.is_the_only_order.Goals as goal

pub returns : goal.returns
returns c = is_the_only_order
