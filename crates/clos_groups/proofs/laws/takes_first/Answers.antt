use Rattle.clos_groups.proofs.First.{takes_first}
use Rattle.clos_groups.proofs.laws.takes_first.Goals as goal

pub returns : goal.returns
returns c = takes_first
