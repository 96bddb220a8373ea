use Rattle.clos_comb.proofs.Left as proofs
use Rattle.clos_comb.proofs.laws.leaves_others.Goals as goal

pub returns : goal.returns
returns c = proofs.leaves_others
