use Rattle.std.proofs.Common.{◌≡◌, ◌≤◌, take, reverse, length, map}
use Rattle.clos_meaning.specs.clos_world.Globals.{any_global}
use Rattle.clos_meaning.specs.clos_world.World.{seen}
use Rattle.clos_machine.specs.LocalsView.{local_of}
use Rattle.clos_meaning.specs.Variables.{name_in}
use Rattle.clos_machine.proofs.locals.Locals.any_global.Given as goal

abbrev pub invariant-loop-place : goal.invariant-loop-place
invariant-loop-place l =
    (l.place ≤ length l.locals)
    × (any_global (seen l.world).globals (map name_in (reverse (map local_of (take l.place l.locals)))) ≡ any_global (seen l.world).globals (map name_in l.self))

abbrev pub decreases-loop-place : goal.decreases-loop-place
decreases-loop-place l = l.place
