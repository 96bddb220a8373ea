use Rattle.std.proofs.Common.{arith, ap, sym, ◌∙◌, map}
use Rattle.std.specs.Prelude.{option_map}
use Rattle.lisp_data.specs.Datum.{size_of_data}
use Rattle.lisp_data.specs.ValueView.{value_of}
use Rattle.clos_forms.specs.Quotation.{with_front, prepended, quotations}
use Rattle.clos_forms.proofs.Quoting.{prepended_push}
use Rattle.clos_forms.proofs.quotation.+quote.Goals as goal

pub quoted_values-loop-first-preserved : goal.quoted_values-loop-first-preserved
quoted_values-loop-first-preserved t c = (
  omega (arith, ap size_of_data c.in-Some.ensures, c.loop-first.invariant.0),
  ap (λ xs. prepended (map value_of xs) (quotations c.in-Some.others.now)) c.in_ok-push-in-Some-2.ensures.items
      ∙ prepended_push c.loop-first.values.items c.in-Some-2.value (quotations c.in-Some.others.now)
      ∙ ap (λ o. prepended (map value_of c.loop-first.values.items) (with_front o (quotations c.in-Some.others.now)))
      (ap (option_map value_of) (sym c.in-Some-2.is) ∙ c.in_ok-quoted_value.ensures)
      ∙ ap (λ d. prepended (map value_of c.loop-first.values.items) (quotations d)) (sym c.in-Some.ensures)
      ∙ c.loop-first.invariant.1,
)
