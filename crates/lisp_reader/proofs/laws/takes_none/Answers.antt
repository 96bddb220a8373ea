use Rattle.lisp_reader.proofs.OnMemory.{takes-none}
use Rattle.lisp_reader.proofs.laws.takes_none.Goals as goal

pub returns : goal.returns
returns c = takes-none
