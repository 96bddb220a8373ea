use Rattle.std.proofs.Common.{◌≡◌, ◌≤◌, ◌+◌, ◌++◌, length, map}
use Rattle.clos_definition.specs.Effect.{of_removal}
use Rattle.clos_definition.proofs.effect.tell_removals.Given as goal

abbrev pub invariant-loop-removal : goal.invariant-loop-removal
invariant-loop-removal l = record {
  told : l.notices.items ++ map of_removal l.left ≡ l.initial.notices.items ++ map of_removal l.fn.removals;
  room : l.notices.room + length l.fn.removals ≡ l.initial.notices.room + length l.left;
  enough : length l.fn.removals ≤ l.initial.notices.room;
}

abbrev pub decreases-loop-removal : goal.decreases-loop-removal
decreases-loop-removal l = length l.left
