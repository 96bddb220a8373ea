use Rattle.lisp_data.specs.DatumView.{datum_of}
use Rattle.lisp_data.proofs.OnKeys.{datum_answer}
use Rattle.lisp_data.proofs.keys.DatumPartialEq.eq.Goals as goal

pub returns : goal.returns
returns c = datum_answer c.equal_data.result (datum_of c.args.self.now) (datum_of c.args.other.now) c.equal_data.ensures
