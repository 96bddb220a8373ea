use Rattle.clos_laws.proofs.System as proofs
use Rattle.clos_laws.proofs.laws.system_functions_stand.Goals as goal

pub returns : goal.returns
returns c = proofs.system_functions_stand
