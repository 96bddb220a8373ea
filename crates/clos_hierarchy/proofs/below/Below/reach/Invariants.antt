use Rattle.std.proofs.Common.{◌-◌, ◌+◌, length, map}
use Rattle.clos_hierarchy.specs.inner.Below.{Grows}
use Rattle.clos_hierarchy.proofs.below.Below.reach.Given as goal

abbrev pub invariant-loop-alloc : goal.invariant-loop-alloc
invariant-loop-alloc l = Grows l.fn.self (map (λ s. s.keys) l.self-inside.rows.items)

abbrev pub decreases-loop-alloc : goal.decreases-loop-alloc
decreases-loop-alloc l = l.fn.row + 1 - length l.self-inside.rows.items
