use Rattle.std.proofs.Common.{◌≡◌, ◌≤◌, map}
use Rattle.lisp_data.specs.Datum.{size_of_data}
use Rattle.lisp_data.specs.ValueView.{value_of}
use Rattle.clos_forms.specs.Quotation.{prepended, quotations}
use Rattle.clos_forms.proofs.quotation.+quote.Given as goal

abbrev pub invariant-quoted_values-loop-first : goal.invariant-quoted_values-loop-first
invariant-quoted_values-loop-first l =
    (size_of_data l.rest ≤ size_of_data l.elements) × (prepended (map value_of l.values.items) (quotations l.rest) ≡ quotations l.elements)
