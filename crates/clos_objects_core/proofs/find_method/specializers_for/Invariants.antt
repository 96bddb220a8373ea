use Rattle.std.proofs.Common.{◌≡◌, length}
use Rattle.clos_machine.specs.clos_meaning.FindMethod.{specializers_for}
use Rattle.clos_machine.specs.clos_world.World.{seen}
use Rattle.clos_objects_core.specs.Designators.{designators_of}
use Rattle.clos_objects_core.proofs.Finding.{after_those}
use Rattle.clos_objects_core.proofs.find_method.specializers_for.Given as goal

abbrev pub invariant-loop-first : goal.invariant-loop-first
invariant-loop-first l =
    after_those l.specializers (specializers_for (seen l.fn.world).classes (designators_of l.left)) ≡ specializers_for (seen l.fn.world).classes (designators_of l.fn.designators)

abbrev pub decreases-loop-first : goal.decreases-loop-first
decreases-loop-first l = length l.left
