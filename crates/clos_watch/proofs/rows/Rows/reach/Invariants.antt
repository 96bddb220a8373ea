use Rattle.std.proofs.Common.{◌≡◌, ℕ, ◌-◌, ◌+◌, length, map}
use Rattle.clos_watch.specs.Watching.{row_at}
use Rattle.clos_watch.proofs.rows.Rows.reach.Given as goal

abbrev pub invariant-loop-alloc : goal.invariant-loop-alloc
invariant-loop-alloc l = (n : ℕ) → row_at (map (λ s. s.keys) l.self-inside.rows.items) n ≡ row_at l.fn.self n

abbrev pub decreases-loop-alloc : goal.decreases-loop-alloc
decreases-loop-alloc l = l.fn.number + 1 - length l.self-inside.rows.items
