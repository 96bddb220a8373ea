use Rattle.std.proofs.Common.{◌∙◌, sym}
use Rattle.lisp_reader.proofs.OnReading.{is_dot-at}
use Rattle.lisp_reader.proofs.read.is_dot.Goals as goal

pub returns-then-begins_with-clause-value : goal.returns-then-begins_with-clause-value
returns-then-begins_with-clause-value c =
    is_dot-at c.args.bytes.now c.args.at c.goes_on.result (sym c.begins_with.ensures.value ∙ c.if-begins_with.true) c.goes_on.ensures
