use Rattle.lisp_prims.proofs.OnRounding.{rounds_down}
use Rattle.lisp_prims.proofs.laws.rounds_down.Goals as goal

pub returns : goal.returns
returns c = rounds_down
