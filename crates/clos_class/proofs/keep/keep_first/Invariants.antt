use Rattle.std.proofs.Common.{◌≡◌, ℕ, ◌<◌, ◌≤◌, ◌-◌, length}
use Rattle.clos_class.specs.inner.Keeping.{Tells, kept_at, lists_of}
use Rattle.clos_class.specs.SlotsView.{defaults, direct_slots}
use Rattle.clos_class.proofs.keep.keep_first.Given as goal

abbrev pub invariant-loop-place : goal.invariant-loop-place
invariant-loop-place l = record {
  each : (n : ℕ) → n < l.place → Tells (direct_slots l.fn.rows) (defaults l.fn.rows) (lists_of l.fn.table.classes n) (kept_at l.first.items n);
  len : length l.first.items ≡ l.place;
  within : l.place ≤ length l.fn.rows;
}

abbrev pub decreases-loop-place : goal.decreases-loop-place
decreases-loop-place l = length l.fn.rows - l.place
