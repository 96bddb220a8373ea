use Rattle.lisp_reader.proofs.OnAnswers.{outermost-other}
use Rattle.lisp_reader.proofs.read.outermost.Goals as goal

pub returns-in_default : goal.returns-in_default
returns-in_default c = outermost-other c.args.fault c.args.start c.in_default.not-EndInside
