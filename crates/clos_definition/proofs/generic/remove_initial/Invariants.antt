use Rattle.std.proofs.Common.{◌≡◌, length}
use Rattle.clos_method.specs.MethodIds.{method_numbers}
use Rattle.clos_definition.specs.Effect.{removing}
use Rattle.clos_definition.specs.Generic.{initial_among}
use Rattle.clos_definition.proofs.generic.remove_initial.Given as goal

abbrev pub invariant-loop-method : goal.invariant-loop-method
invariant-loop-method l = removing l.changes (initial_among l.id.0 l.generics.table.methods (method_numbers l.left)) ≡ removing l.initial.changes (initial_among l.id.0 l.generics.table.methods (method_numbers l.initial.left))

abbrev pub decreases-loop-method : goal.decreases-loop-method
decreases-loop-method l = length l.left
