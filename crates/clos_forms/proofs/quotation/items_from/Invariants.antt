use Rattle.std.proofs.Common.{◌≡◌, map, vec_len}
use Rattle.std.specs.Prelude.{Some}
use Rattle.lisp_data.specs.Value.{nil}
use Rattle.lisp_data.specs.ValueView.{value_of}
use Rattle.clos_forms.specs.Quotation.{prepended}
use Rattle.clos_forms.proofs.quotation.items_from.Given as goal

abbrev pub invariant-loop-value : goal.invariant-loop-value
invariant-loop-value l = prepended (map value_of l.values.items) (Some l.items) ≡ prepended (map value_of l.fn.values.items) (Some nil)

abbrev pub decreases-loop-value : goal.decreases-loop-value
decreases-loop-value l = vec_len l.values
