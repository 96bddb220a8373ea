use Rattle.std.proofs.Common.{◌∙◌, ap, map, sym}
use Rattle.lisp_data.specs.Datum.{cons}
use Rattle.lisp_data.specs.DatumView.{datum_of}
use Rattle.lisp_data.specs.Limits.{most_nesting}
use Rattle.clos_lambda.proofs.Lists.{one_ahead}
use Rattle.clos_lambda.specs.Lists.{ahead}
use Rattle.clos_template.proofs.Nesting.{too_deep_ahead}
use Rattle.clos_template.proofs.datum.prepend_all.Goals as goal

pub returns-in-Err-Limit : goal.returns-in-Err-Limit
returns-in-Err-Limit c =
    too_deep_ahead most_nesting (map datum_of c.pop.new.self.items) (cons (datum_of c.in-Some.datum) c.loop-datum.built) _
    (sym (one_ahead c.pop.new.self.items c.in-Some.datum c.loop-datum.built)
    ∙ ap (λ xs. ahead (map datum_of xs) c.loop-datum.built) (sym c.in-Some.ensures.items) ∙ c.loop-datum.invariant)
    (rw c.in-Err-Limit.field-0-is at c.in-Err-Limit.ensures)
