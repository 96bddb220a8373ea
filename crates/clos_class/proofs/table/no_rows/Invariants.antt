use Rattle.std.proofs.Common.{◌≡◌, ◌-◌, ◌≤◌, length}
use Rattle.std.specs.Prelude.{replicate}
use Rattle.clos_class.specs.SlotsView.{says_nothing}
use Rattle.clos_class.proofs.table.no_rows.Given as goal

abbrev pub invariant-loop-alloc : goal.invariant-loop-alloc
invariant-loop-alloc l = record {
  rows : l.rows.items ≡ replicate (length l.rows.items) says_nothing;
  within : length l.rows.items ≤ length l.fn.table.classes.names;
}

abbrev pub decreases-loop-alloc : goal.decreases-loop-alloc
decreases-loop-alloc l = length l.fn.table.classes.names - length l.rows.items
