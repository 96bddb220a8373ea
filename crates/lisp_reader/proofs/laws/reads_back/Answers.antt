use Rattle.lisp_reader.proofs.PrintedList.{gives_back}
use Rattle.lisp_reader.proofs.laws.reads_back.Goals as goal

pub returns : goal.returns
returns c = gives_back
