use Rattle.clos_laws.proofs.Names as proofs
use Rattle.clos_laws.proofs.laws.functions_are_named.Goals as goal

pub returns : goal.returns
returns c = proofs.functions_are_named
