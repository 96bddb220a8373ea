use Rattle.std.proofs.Common.{◌≡◌, ◌++◌, length}
use Rattle.clos_definition.specs.Generic.{eql_forms}
use Rattle.clos_definition.proofs.generic.generic_forms.Given as goal

abbrev pub invariant-loop-method : goal.invariant-loop-method
invariant-loop-method l = l.forms.items ++ eql_forms l.left ≡ eql_forms l.initial.left

abbrev pub decreases-loop-method : goal.decreases-loop-method
decreases-loop-method l = length l.left
