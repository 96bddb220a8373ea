use Rattle.clos_laws.proofs.Combinations as proofs
use Rattle.clos_laws.proofs.laws.combinations_are_defined.Goals as goal

pub returns : goal.returns
returns c = proofs.combinations_are_defined
