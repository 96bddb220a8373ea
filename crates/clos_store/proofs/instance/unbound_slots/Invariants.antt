use Rattle.std.proofs.Common.{◌≡◌, ◌-◌, ◌≤◌, length}
use Rattle.std.specs.Prelude.{replicate, None}
use Rattle.clos_store.proofs.instance.unbound_slots.Given as goal

-- those made so far are unbound
abbrev pub invariant-loop-slots : goal.invariant-loop-slots
invariant-loop-slots l = record {
  unbound : l.slots.items ≡ replicate (length l.slots.items) None;
  within : length l.slots.items ≤ l.fn.count;
}

abbrev pub decreases-loop-slots : goal.decreases-loop-slots
decreases-loop-slots l = l.fn.count - length l.slots.items
