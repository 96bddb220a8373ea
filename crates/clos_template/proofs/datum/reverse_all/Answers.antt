use Rattle.std.proofs.Common.{◌∙◌, ap, sym}
use Rattle.lisp_data.specs.Datum.{cons, nil}
use Rattle.lisp_data.specs.DatumView.{datum_of}
use Rattle.lisp_data.specs.Limits.{most_nesting}
use Rattle.clos_template.specs.Function.{reversed}
use Rattle.clos_template.proofs.Nesting.{too_deep_reversed}
use Rattle.clos_template.proofs.datum.reverse_all.Goals as goal

pub returns-in-Err-Limit : goal.returns-in-Err-Limit
returns-in-Err-Limit c =
    too_deep_reversed most_nesting c.in-Some.others.now (cons (datum_of c.in_ok-copy.field-0) c.loop-first.built) (reversed c.args.list.now nil)
    (ap (λ d. reversed c.in-Some.others.now (cons d c.loop-first.built)) c.in_ok-copy.ensures
    ∙ ap (λ l. reversed l c.loop-first.built) (sym c.in-Some.ensures) ∙ c.loop-first.invariant)
    (rw c.in-Err-Limit.field-0-is at c.in-Err-Limit.ensures)
