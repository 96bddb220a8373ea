use Rattle.std.proofs.Common.{◌≡◌, ◌++◌, length, map}
use Rattle.clos_definition.specs.Accessor.{accessor_methods}
use Rattle.clos_definition.specs.Effect.{adding, addition_of}
use Rattle.clos_definition.proofs.accessor.with_accessors.Given as goal

abbrev pub invariant-loop-accessor : goal.invariant-loop-accessor
invariant-loop-accessor l = record {
  changes :
      adding l.effect.changes (map addition_of (accessor_methods l.class.0 l.generics.table l.effect.changes.definitions l.left))
      ≡ adding l.initial.effect.changes (map addition_of (accessor_methods l.class.0 l.generics.table l.initial.effect.changes.definitions l.initial.left));
  methods :
      l.effect.methods.items ++ accessor_methods l.class.0 l.generics.table l.effect.changes.definitions l.left
      ≡ accessor_methods l.class.0 l.generics.table l.initial.effect.changes.definitions l.initial.left;
  definitions : l.effect.changes.definitions ≡ l.initial.effect.changes.definitions;
}

abbrev pub decreases-loop-accessor : goal.decreases-loop-accessor
decreases-loop-accessor l = length l.left
