use Rattle.std.proofs.Common.{◌++◌, Some, ap, sym, ◌∙◌}
use Rattle.lisp_data.specs.Datum.{cons}
use Rattle.lisp_data.specs.DatumView.{datum_of}
use Rattle.clos_forms.specs.Fault.{◌>>=◌}
use Rattle.clos_lambda.specs.Lists.{before}
use Rattle.clos_lambda.proofs.Lists.{some_more}
use Rattle.clos_syntax.specs.Slot.{accessors_in}
use Rattle.clos_syntax.proofs.slot.parse_accessors.Goals as goal

pub loop-key-preserved : goal.loop-key-preserved
loop-key-preserved c =
    ap (λ xs. before xs (accessors_in c.in-Some-split_first.others.now)) c.in_ok-append-in-Ok.ensures
    ∙ sym (some_more c.loop-key.accessors c.in-Ok.more (accessors_in c.in-Some-split_first.others.now))
    ∙ ap (λ o. before c.loop-key.accessors (o >>= λ xs. accessors_in c.in-Some-split_first.others.now >>= λ ys. Some (xs ++ ys))) (sym c.in-Ok.ensures)
    ∙ ap (λ l. before c.loop-key.accessors (accessors_in (cons (datum_of c.in-Some.key.now) l))) (sym c.in-Some-split_first.ensures)
    ∙ ap (λ l. before c.loop-key.accessors (accessors_in l)) (sym c.in-Some.ensures)
    ∙ c.loop-key.invariant
