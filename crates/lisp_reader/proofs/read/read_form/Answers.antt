use Rattle.std.proofs.Common.{◌<◌, length, drop, arith}
use Rattle.std.specs.Bool.{⊤}
use Rattle.std.proofs.lemmas.Result.{err_from_is_err_and}
use Rattle.lisp_reader.specs.Answers.{NextFails, next, in_gaps}
use Rattle.lisp_tokens.specs.Gaps.{GapFails}
use Rattle.lisp_reader.proofs.OnAnswers.{NextFails-datum}
use Rattle.lisp_reader.proofs.OnFaults.{OnRefusal-lift}
use Rattle.lisp_reader.proofs.OnNesting.{Spells-nesting}
use Rattle.lisp_reader.proofs.read.read_form.Goals as goal

pub returns-in_err-start-clause-answer : goal.returns-in_err-start-clause-answer
returns-in_err-start-clause-answer c =
    let bytes = c.args.bytes.now in
    let text = drop c.args.from bytes in
    let p = err_from_is_err_and c.from_residual.result c.from_residual.ensures.1 in
    rw (p.1, p.2) (OnRefusal-lift bytes (GapFails text) (NextFails text) ⊥ ⊤ c.in_err-start.field-0.0 (λ kind rest fails. in_gaps text kind rest fails) (λ _. tt) c.in_err-start.ensures)

pub returns-in-Ok-clause-answer : goal.returns-in-Ok-clause-answer
returns-in-Ok-clause-answer c =
    let found = c.in-Ok.ensures in
    (found.1, next _ _ _ _ c.in_ok-start.ensures.2 found.2)

pub returns-in-Err-clause-answer : goal.returns-in-Err-clause-answer
returns-in-Err-clause-answer c =
    let within : c.in_ok-start.start < length c.args.bytes.now = omega (arith, c.in_ok-start.ensures.1) in
    rw c.outermost.ensures (NextFails-datum c.args.bytes.now c.args.from c.in_ok-start.start c.in-Err.fault within c.in_ok-start.ensures.2 c.in-Err.ensures)

pub returns-in-Ok-clause-shallow : goal.returns-in-Ok-clause-shallow
returns-in-Ok-clause-shallow c = Spells-nesting _ _ _ _ c.in-Ok.ensures.2
