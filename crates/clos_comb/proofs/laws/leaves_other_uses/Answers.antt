use Rattle.clos_comb.proofs.Left as proofs
use Rattle.clos_comb.proofs.laws.leaves_other_uses.Goals as goal

pub returns : goal.returns
returns c = proofs.leaves_other_uses
