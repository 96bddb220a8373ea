use Rattle.clos_comb.proofs.StandardForm.{makes_its_form}
use Rattle.clos_comb.proofs.laws.makes_its_form.Goals as goal

pub returns : goal.returns
returns c = makes_its_form
