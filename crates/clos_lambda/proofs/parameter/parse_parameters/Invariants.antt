use Rattle.std.proofs.Common.{◌≡◌}
use Rattle.lisp_data.specs.Datum.{size_of_data}
use Rattle.clos_forms.specs.Binding.{each}
use Rattle.clos_lambda.specs.Lists.{before}
use Rattle.clos_lambda.specs.Sections.{front}
use Rattle.clos_lambda.proofs.parameter.parse_parameters.Given as goal

abbrev pub invariant-loop-first : goal.invariant-loop-first
invariant-loop-first g l = before l.items (each g.P.Parameter.item_in (front l.rest)) ≡ each g.P.Parameter.item_in (front l.elements)

abbrev pub decreases-loop-first : goal.decreases-loop-first
decreases-loop-first g l = size_of_data l.rest
