use Rattle.std.proofs.Common.{◌≡◌, ◌≤◌, ◌++◌, length, map}
use Rattle.clos_cache.specs.Cache.{found, left_after}
use Rattle.clos_cache.specs.Key.{Key}
use Rattle.clos_world.specs.Kept.{FunctionsKeep}
use Rattle.clos_definition.specs.Effect.{AdditionsFit, of_added, of_additions, possible, with_methods}
use Rattle.clos_definition.proofs.effect.add_all.Given as goal

abbrev pub invariant-loop-method : goal.invariant-loop-method
invariant-loop-method l = record {
  seen : with_methods l.methods.items l.generics.table ≡ with_methods l.initial.methods.items l.initial.generics.table;
  ready : l.generics.additions ≡ map (λ m. m.generic.0) l.methods.items;
  fit : AdditionsFit l.methods.items l.generics.table;
  told : l.notices.items ++ of_additions l.methods.items l.generics.table
      ≡ l.initial.notices.items ++ of_additions l.initial.methods.items l.initial.generics.table;
  room : length (possible l.methods.items) ≤ l.notices.room;
  kept : FunctionsKeep l.initial.generics.table l.initial.cache l.generics.table l.cache;
  left : (key : Key) → left_after (of_added l.methods.items) key (found l.cache key) ≡ left_after (of_added l.initial.methods.items) key (found l.initial.cache key);
}

abbrev pub decreases-loop-method : goal.decreases-loop-method
decreases-loop-method l = length l.methods.items
