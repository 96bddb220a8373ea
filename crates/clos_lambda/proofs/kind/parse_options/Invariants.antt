use Rattle.std.proofs.Common.{◌≡◌}
use Rattle.lisp_data.specs.Datum.{size_of_data}
use Rattle.clos_forms.specs.Binding.{each}
use Rattle.clos_lambda.specs.Lists.{before}
use Rattle.clos_lambda.specs.Property.{options_of}
use Rattle.clos_lambda.proofs.kind.parse_options.Given as goal

abbrev pub invariant-loop-option : goal.invariant-loop-option
invariant-loop-option g l = before l.items (each g.K.Kind.item_in (options_of l.key l.rest)) ≡ each g.K.Kind.item_in (options_of l.key l.options)

abbrev pub decreases-loop-option : goal.decreases-loop-option
decreases-loop-option g l = size_of_data l.rest
