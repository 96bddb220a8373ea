use Rattle.std.proofs.Common.{◌≡◌, ◌++◌, length}
use Rattle.clos_definition.specs.Accessor.{accessors_of}
use Rattle.clos_definition.proofs.accessor.accessors_of.Given as goal

abbrev pub invariant-loop-slot : goal.invariant-loop-slot
invariant-loop-slot l = l.accessors.items ++ accessors_of l.left ≡ accessors_of l.initial.left

abbrev pub decreases-loop-slot : goal.decreases-loop-slot
decreases-loop-slot l = length l.left
