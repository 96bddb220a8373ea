use Rattle.std.proofs.Common.{◌≡◌, ◌≤◌, drop, reverse, length, map, None}
use Rattle.clos_meaning.specs.clos_world.World.{local_named}
use Rattle.clos_machine.specs.LocalsView.{local_of}
use Rattle.clos_machine.proofs.locals.Locals.set.Given as goal

abbrev pub invariant-loop-place : goal.invariant-loop-place
invariant-loop-place l =
    (l.self-inside ≡ l.initial.self-inside) × (l.place ≤ length l.self-inside.locals.items)
    × (local_named (reverse (map local_of (drop l.place l.self-inside.locals.items))) l.fn.name ≡ None)

abbrev pub decreases-loop-place : goal.decreases-loop-place
decreases-loop-place l = l.place
