use Rattle.lisp_reader.proofs.OneAnswer.{Gives-unique}
use Rattle.lisp_reader.proofs.laws.gives_one.Goals as goal

pub returns : goal.returns
returns c = Gives-unique
