use Rattle.clos_laws.proofs.Agreement as proofs
use Rattle.clos_laws.proofs.laws.replies_agree.Goals as goal

pub returns : goal.returns
returns c = proofs.replies_agree
