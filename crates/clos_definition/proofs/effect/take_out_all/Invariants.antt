use Rattle.std.proofs.Common.{◌≡◌, length}
use Rattle.clos_cache.specs.Cache.{found, left_after}
use Rattle.clos_cache.specs.Key.{Key}
use Rattle.clos_world.specs.Kept.{FunctionsKeep}
use Rattle.clos_definition.specs.Effect.{of_removed, without_all}
use Rattle.clos_definition.proofs.effect.take_out_all.Given as goal

abbrev pub invariant-loop-removal : goal.invariant-loop-removal
invariant-loop-removal l = record {
  table : record l.generics { table = without_all l.left l.generics.table }
      ≡ record l.initial.generics { table = without_all l.initial.left l.initial.generics.table };
  kept : FunctionsKeep l.initial.generics.table l.initial.cache l.generics.table l.cache;
  left : (key : Key) → left_after (of_removed l.left) key (found l.cache key) ≡ left_after (of_removed l.initial.left) key (found l.initial.cache key);
}

abbrev pub decreases-loop-removal : goal.decreases-loop-removal
decreases-loop-removal l = length l.left
