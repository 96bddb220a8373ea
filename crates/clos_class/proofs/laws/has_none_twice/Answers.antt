use Rattle.clos_class.proofs.Placed.{has_none_twice}
use Rattle.clos_class.proofs.laws.has_none_twice.Goals as goal

pub returns : goal.returns
returns c = has_none_twice
