use Rattle.lisp_data.specs.ValueView.{value_of}
use Rattle.lisp_data.proofs.OnKeys.{value_answer}
use Rattle.lisp_data.proofs.keys.ValuePartialEq.eq.Goals as goal

pub returns : goal.returns
returns c = value_answer c.equal.result (value_of c.args.self.now) (value_of c.args.other.now) c.equal.ensures
