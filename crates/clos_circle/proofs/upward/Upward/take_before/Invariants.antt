use Rattle.std.proofs.Common.{◌≡◌, length}
use Rattle.clos_circle.specs.inner.Before.{next_before}
use Rattle.clos_circle.specs.inner.Upward.{found_in, with_all}
use Rattle.clos_circle.proofs.upward.Upward.take_before.Given as goal

abbrev pub invariant-loop-left : goal.invariant-loop-left
invariant-loop-left l =
    with_all (next_before l.last l.left l.name) l.place (found_in l.self)
    ≡ with_all (next_before l.initial.last l.initial.left l.name) l.place (found_in l.initial.self)

abbrev pub decreases-loop-left : goal.decreases-loop-left
decreases-loop-left l = length l.left
