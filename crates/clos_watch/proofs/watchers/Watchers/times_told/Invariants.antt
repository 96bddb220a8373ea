use Rattle.std.proofs.Common.{◌≡◌, ◌+◌, ◌≤◌, length}
use Rattle.clos_watch.specs.Watching.{times_told, watching}
use Rattle.clos_watch.proofs.watchers.Watchers.times_told.Given as goal

abbrev pub invariant-loop-notice : goal.invariant-loop-notice
invariant-loop-notice l =
    (l.times + times_told (watching l.fn.self) l.left l.fn.place ≡ times_told (watching l.fn.self) l.fn.notices l.fn.place)
    × (l.times + length l.left ≤ length l.fn.notices)

abbrev pub decreases-loop-notice : goal.decreases-loop-notice
decreases-loop-notice l = length l.left
