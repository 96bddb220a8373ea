use Rattle.std.proofs.Common.{drop, arith, subst, sym, refl}
use Rattle.std.specs.Bool.{⊤}
use Rattle.std.proofs.lemmas.Result.{err_from_is_err_and}
use Rattle.lisp_tokens.specs.Gaps.{Gaps, GapFails}
use Rattle.lisp_tokens.specs.Reading.{EndFails, before_end}
use Rattle.lisp_reader.proofs.OnFaults.{OnRefusal-lift}
use Rattle.lisp_reader.proofs.OnReading.{closing-starts}
use Rattle.lisp_reader.proofs.read.list_end.Goals as goal

pub returns-in_err-next : goal.returns-in_err-next
returns-in_err-next c =
    let bytes = c.args.bytes.now in
    let from = c.args.from in
    let p = err_from_is_err_and c.from_residual.result c.from_residual.ensures.1 in
    rw (p.1, p.2) (OnRefusal-lift bytes (GapFails (drop from bytes)) (EndFails (drop from bytes)) ⊥ ⊤ c.in_err-next.field-0.0 (λ kind rest fails. before_end (drop from bytes) kind rest fails) (λ _. tt) c.in_err-next.ensures)

pub returns-then-closes : goal.returns-then-closes
returns-then-closes c =
    let bytes = c.args.bytes.now in
    let found = c.in_ok-next.ensures in
    let inside = c.if-closes.ensures.within refl in
    (omega (arith, found.0), omega (arith, inside), subst (Gaps (drop c.args.from bytes)) (closing-starts bytes c.in_ok-next.next inside (sym c.if-closes.ensures.value)) found.2)
