use Rattle.std.proofs.Common.{◌≡◌}
use Rattle.lisp_data.specs.Datum.{size_of_data}
use Rattle.clos_forms.specs.Binding.{each}
use Rattle.clos_lambda.specs.Lists.{before}
use Rattle.clos_lambda.specs.Property.{values_of}
use Rattle.clos_lambda.proofs.kind.parse_values.Given as goal

abbrev pub invariant-loop-name : goal.invariant-loop-name
invariant-loop-name g l = before l.items (each g.K.Kind.item_in (values_of l.key l.rest)) ≡ each g.K.Kind.item_in (values_of l.key l.properties)

abbrev pub decreases-loop-name : goal.decreases-loop-name
decreases-loop-name g l = size_of_data l.rest
