use Rattle.clos_laws.proofs.WellFormed as proofs
use Rattle.clos_laws.proofs.laws.evaluated_forms_are_well_formed.Goals as goal

pub returns : goal.returns
returns c = proofs.evaluated_forms_are_well_formed
