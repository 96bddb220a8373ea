use Rattle.std.proofs.Common.{◌≡◌, ◌++◌, length, map}
use Rattle.clos_definition.specs.Accessor.{of_slot}
use Rattle.clos_definition.proofs.accessor.push_accessors.Given as goal

abbrev pub invariant-loop-accessor : goal.invariant-loop-accessor
invariant-loop-accessor l = l.all.items ++ map (of_slot l.slot) l.left ≡ l.initial.all.items ++ map (of_slot l.slot) l.initial.left

abbrev pub decreases-loop-accessor : goal.decreases-loop-accessor
decreases-loop-accessor l = length l.left
