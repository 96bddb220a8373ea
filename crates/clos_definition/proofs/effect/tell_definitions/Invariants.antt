use Rattle.std.proofs.Common.{◌≡◌, ◌≤◌, ◌+◌, ◌++◌, length}
use Rattle.clos_definition.specs.Effect.{of_definitions}
use Rattle.clos_definition.proofs.effect.tell_definitions.Given as goal

abbrev pub invariant-loop-definition : goal.invariant-loop-definition
invariant-loop-definition l = record {
  told : l.notices.items ++ of_definitions l.left l.fn.generics.table ≡ l.initial.notices.items ++ of_definitions l.fn.definitions l.fn.generics.table;
  room : l.notices.room + length (of_definitions l.fn.definitions l.fn.generics.table)
      ≡ l.initial.notices.room + length (of_definitions l.left l.fn.generics.table);
  enough : length (of_definitions l.fn.definitions l.fn.generics.table) ≤ l.initial.notices.room;
}

abbrev pub decreases-loop-definition : goal.decreases-loop-definition
decreases-loop-definition l = length l.left
