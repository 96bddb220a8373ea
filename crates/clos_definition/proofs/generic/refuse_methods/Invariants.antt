use Rattle.std.proofs.Common.{◌≡◌, length}
use Rattle.clos_world.specs.World.{seen}
use Rattle.clos_definition.specs.Generic.{methods_refusal}
use Rattle.clos_definition.proofs.generic.refuse_methods.Given as goal

abbrev pub invariant-loop-method : goal.invariant-loop-method
invariant-loop-method l = methods_refusal l.left (seen l.world) ≡ methods_refusal l.initial.left (seen l.world)

abbrev pub decreases-loop-method : goal.decreases-loop-method
decreases-loop-method l = length l.left
