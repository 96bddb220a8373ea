use Rattle.std.proofs.Common.{◌≡◌, length, map}
use Rattle.clos_cache.specs.Cache.{found, left_after}
use Rattle.clos_cache.specs.Key.{Key}
use Rattle.clos_world.specs.Kept.{FunctionsKeep}
use Rattle.clos_definition.specs.Effect.{DefinitionsFit, of_defined, with_definitions}
use Rattle.clos_definition.proofs.effect.define_all.Given as goal

abbrev pub invariant-loop-definition : goal.invariant-loop-definition
invariant-loop-definition l = record {
  seen : with_definitions l.changes.definitions l.generics.table ≡ with_definitions l.initial.changes.definitions l.initial.generics.table;
  ready : l.generics.definitions ≡ map (λ d. d.name) l.changes.definitions;
  fit : DefinitionsFit l.changes.definitions l.generics.table;
  additions : l.generics.additions ≡ l.initial.generics.additions;
  kept : FunctionsKeep l.initial.generics.table l.initial.cache l.generics.table l.cache;
  left : (key : Key) → left_after (of_defined l.changes.definitions l.generics.table) key (found l.cache key) ≡ left_after (of_defined l.initial.changes.definitions l.initial.generics.table) key (found l.initial.cache key);
}

abbrev pub decreases-loop-definition : goal.decreases-loop-definition
decreases-loop-definition l = length l.changes.definitions
