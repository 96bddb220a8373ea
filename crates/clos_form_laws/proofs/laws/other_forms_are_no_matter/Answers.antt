use Rattle.clos_form_laws.proofs.Evaluated as proofs
use Rattle.clos_form_laws.proofs.laws.other_forms_are_no_matter.Goals as goal

pub returns : goal.returns
returns c = proofs.other_forms_are_no_matter
