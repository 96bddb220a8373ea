use Rattle.std.proofs.Common.{◌≡◌, length}
use Rattle.clos_world.specs.World.{seen}
use Rattle.clos_definition.specs.Method.{specializers_refusal}
use Rattle.clos_definition.proofs.method.refuse_specializers.Given as goal

abbrev pub invariant-loop-specializer : goal.invariant-loop-specializer
invariant-loop-specializer l = specializers_refusal l.left (seen l.world) ≡ specializers_refusal l.initial.left (seen l.world)

abbrev pub decreases-loop-specializer : goal.decreases-loop-specializer
decreases-loop-specializer l = length l.left
