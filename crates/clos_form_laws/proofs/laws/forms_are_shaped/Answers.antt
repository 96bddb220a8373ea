use Rattle.clos_form_laws.proofs.Shapes as proofs
use Rattle.clos_form_laws.proofs.laws.forms_are_shaped.Goals as goal

pub returns : goal.returns
returns c = proofs.forms_are_shaped
