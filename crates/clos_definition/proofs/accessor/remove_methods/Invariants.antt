use Rattle.std.proofs.Common.{◌≡◌, length}
use Rattle.clos_method.specs.MethodIds.{method_numbers}
use Rattle.clos_definition.specs.Accessor.{removals_of}
use Rattle.clos_definition.specs.Effect.{removing}
use Rattle.clos_definition.proofs.accessor.remove_methods.Given as goal

abbrev pub invariant-loop-method : goal.invariant-loop-method
invariant-loop-method l =
    removing l.changes (removals_of l.generics.table.methods (method_numbers l.left))
    ≡ removing l.initial.changes (removals_of l.generics.table.methods (method_numbers l.initial.left))

abbrev pub decreases-loop-method : goal.decreases-loop-method
decreases-loop-method l = length l.left
