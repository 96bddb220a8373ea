use Rattle.clos_machine.specs.Machine.{slots_left, subject_of}
use Rattle.std.proofs.Common.{◌≡◌, ◌-◌, drop, length}
use Rattle.clos_machine.specs.clos_world.World.{seen}
use Rattle.clos_filling.specs.Fillers.{pending}
use Rattle.clos_filling.proofs.filling.next_filler.Given as goal

abbrev pub invariant-loop-place : goal.invariant-loop-place
invariant-loop-place l = pending (seen l.fn.world) (subject_of l.fn.filling) (drop l.place l.slots) ≡ pending (seen l.fn.world) (subject_of l.fn.filling) (slots_left l.fn.filling)

abbrev pub decreases-loop-place : goal.decreases-loop-place
decreases-loop-place l = length l.slots - l.place
