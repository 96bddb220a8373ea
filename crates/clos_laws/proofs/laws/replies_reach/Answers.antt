use Rattle.clos_laws.proofs.InOrder.{replies_reach}
use Rattle.clos_laws.proofs.laws.replies_reach.Goals as goal

pub returns : goal.returns
returns c = replies_reach
