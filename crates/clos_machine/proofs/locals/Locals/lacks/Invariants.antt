use Rattle.std.proofs.Common.{◌≤◌, drop, length, map, reverse}
use Rattle.clos_machine.specs.LocalsView.{AreOthers, local_of}
use Rattle.clos_machine.proofs.locals.Locals.lacks.Given as goal

-- none of the innermost is among the others
abbrev pub invariant-loop-place : goal.invariant-loop-place
invariant-loop-place l =
    (l.place ≤ length l.more-inside.locals.items) × AreOthers (reverse (map local_of (drop l.place l.more-inside.locals.items))) l.self

abbrev pub decreases-loop-place : goal.decreases-loop-place
decreases-loop-place l = l.place
