use Rattle.std.proofs.Common.{◌≡◌, length}
use Rattle.clos_definition.specs.Accessor.{with_functions}
use Rattle.clos_definition.proofs.accessor.add_functions.Given as goal

abbrev pub invariant-loop-accessor : goal.invariant-loop-accessor
invariant-loop-accessor l = record {
  functions : with_functions l.generics.table l.changes.definitions l.left ≡ with_functions l.generics.table l.initial.changes.definitions l.initial.left;
  removals : l.changes.removals ≡ l.initial.changes.removals;
  additions : l.changes.additions ≡ l.initial.changes.additions;
}

abbrev pub decreases-loop-accessor : goal.decreases-loop-accessor
decreases-loop-accessor l = length l.left
