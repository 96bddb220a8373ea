use Rattle.clos_laws.proofs.Classes as proofs
use Rattle.clos_laws.proofs.laws.classes_are_listed.Goals as goal

pub returns : goal.returns
returns c = proofs.classes_are_listed
