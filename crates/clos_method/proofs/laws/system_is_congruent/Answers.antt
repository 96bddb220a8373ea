use Rattle.clos_method.proofs.OnSystem.{system_is_congruent}
use Rattle.clos_method.proofs.laws.system_is_congruent.Goals as goal

pub returns : goal.returns
returns c = system_is_congruent
