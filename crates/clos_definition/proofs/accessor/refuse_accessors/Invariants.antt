use Rattle.std.proofs.Common.{◌≡◌, length}
use Rattle.clos_world.specs.World.{seen}
use Rattle.clos_definition.specs.Accessor.{accessors_refusal}
use Rattle.clos_definition.proofs.accessor.refuse_accessors.Given as goal

abbrev pub invariant-loop-accessor : goal.invariant-loop-accessor
invariant-loop-accessor l = accessors_refusal l.class.0 l.definitions l.left (seen l.world) ≡ accessors_refusal l.class.0 l.definitions l.initial.left (seen l.world)

abbrev pub decreases-loop-accessor : goal.decreases-loop-accessor
decreases-loop-accessor l = length l.left
