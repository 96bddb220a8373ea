use Rattle.std.proofs.Common.{◌≡◌, ℕ, suc, ◌-◌, length}
use Rattle.clos_precedence.specs.OrderView.{rows_of, row_at}
use Rattle.clos_precedence.proofs.predecessors.grow.Given as goal

abbrev pub invariant-loop-alloc : goal.invariant-loop-alloc
invariant-loop-alloc l = (x : ℕ) → row_at (rows_of l.rows.items) x ≡ row_at (rows_of l.fn.rows.items) x

abbrev pub decreases-loop-alloc : goal.decreases-loop-alloc
decreases-loop-alloc l = suc l.place - length l.rows.items
