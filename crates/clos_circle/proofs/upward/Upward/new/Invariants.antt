use Rattle.std.proofs.Common.{◌-◌}
use Rattle.clos_circle.specs.inner.Before.{related_by}
use Rattle.clos_circle.specs.inner.Upward.{HasAbove, IsWay, found_in}
use Rattle.clos_circle.proofs.upward.Upward.new.Given as goal

abbrev pub invariant-loop-place : goal.invariant-loop-place
invariant-loop-place l = record {
  way : IsWay (related_by l.relation) l.name (found_in l.found);
  above : HasAbove (related_by l.relation) l.place l.found.names.items;
}

abbrev pub decreases-loop-place : goal.decreases-loop-place
decreases-loop-place l = 18_446_744_073_709_551_615 - l.place
