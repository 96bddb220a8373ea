use Rattle.std.proofs.Common.{◌≡◌}
use Rattle.lisp_data.specs.Datum.{size_of_data}
use Rattle.clos_forms.specs.Binding.{each}
use Rattle.clos_lambda.specs.Lists.{before}
use Rattle.clos_lambda.proofs.kind.parse_each.Given as goal

abbrev pub invariant-loop-first : goal.invariant-loop-first
invariant-loop-first g l = before l.items (each g.K.Kind.item_in l.rest) ≡ each g.K.Kind.item_in l.elements

abbrev pub decreases-loop-first : goal.decreases-loop-first
decreases-loop-first g l = size_of_data l.rest
