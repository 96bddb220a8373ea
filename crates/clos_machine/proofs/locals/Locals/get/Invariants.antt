use Rattle.std.proofs.Common.{◌≡◌, ◌≤◌, take, reverse, length, map}
use Rattle.clos_meaning.specs.clos_world.World.{local_named}
use Rattle.clos_machine.specs.LocalsView.{local_of}
use Rattle.clos_machine.proofs.locals.Locals.get.Given as goal

abbrev pub invariant-loop-place : goal.invariant-loop-place
invariant-loop-place l =
    (l.place ≤ length l.locals) × (local_named (reverse (map local_of (take l.place l.locals))) l.fn.name ≡ local_named l.fn.self l.fn.name)

abbrev pub decreases-loop-place : goal.decreases-loop-place
decreases-loop-place l = l.place
