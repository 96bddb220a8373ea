use Rattle.std.proofs.Common.{◌≡◌, ◌≤◌, ◌-◌, ◌++◌, drop, length}
use Rattle.clos_definition.specs.Effect.{possible, possible_notices}
use Rattle.clos_definition.proofs.effect.add_possible.Given as goal

abbrev pub invariant-loop-method : goal.invariant-loop-method
invariant-loop-method l = record {
  told : l.notices.items ++ possible (drop l.place l.effect.methods.items) ≡ l.fn.notices.items ++ possible_notices l.effect l.generics.table;
  place : l.place ≤ length l.effect.methods.items;
}

abbrev pub decreases-loop-method : goal.decreases-loop-method
decreases-loop-method l = length l.effect.methods.items - l.place
