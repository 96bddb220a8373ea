use Rattle.std.proofs.Common.{◌≡◌, ◌≤◌, ◌-◌, ◌++◌, take, drop, length}
use Rattle.clos_method.specs.inner.Ranking.{placed_in}
use Rattle.clos_method.proofs.order.place.Given as goal

-- the methods before the place stay before, and the method goes among the others
abbrev pub invariant-loop-at : goal.invariant-loop-at
invariant-loop-at l =
    (l.at ≤ length l.listed.items)
    × (take l.at l.listed.items ++ placed_in l.one (drop l.at l.listed.items) ≡ placed_in l.one l.listed.items)

abbrev pub decreases-loop-at : goal.decreases-loop-at
decreases-loop-at l = length l.listed.items - l.at
