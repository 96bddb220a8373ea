use Rattle.lisp_prims.proofs.OnRounding.{rounds_to_zero}
use Rattle.lisp_prims.proofs.laws.rounds_to_zero.Goals as goal

pub returns : goal.returns
returns c = rounds_to_zero
