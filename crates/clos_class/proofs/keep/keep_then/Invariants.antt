use Rattle.std.proofs.Common.{◌≡◌, ℕ, ◌<◌, ◌≤◌, ◌-◌, length}
use Rattle.clos_class.specs.inner.Keeping.{Tells, kept_at, list_then}
use Rattle.clos_class.specs.SlotsView.{defaults, direct_slots}
use Rattle.clos_class.specs.Table.{with_row}
use Rattle.clos_class.proofs.keep.keep_then.Given as goal

abbrev pub invariant-loop-place : goal.invariant-loop-place
invariant-loop-place l = record {
  each : (n : ℕ) → n < l.place
      → Tells (direct_slots (with_row l.fn.rows l.fn.preview.class l.fn.said)) (defaults (with_row l.fn.rows l.fn.preview.class l.fn.said)) (list_then l.fn.preview n) (kept_at l.then.items n);
  len : length l.then.items ≡ l.place;
  within : l.place ≤ length l.fn.preview.touched;
}

abbrev pub decreases-loop-place : goal.decreases-loop-place
decreases-loop-place l = length l.fn.preview.touched - l.place
