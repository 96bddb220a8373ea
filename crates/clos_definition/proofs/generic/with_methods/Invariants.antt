use Rattle.std.proofs.Common.{◌≡◌, ◌++◌, length, map}
use Rattle.clos_definition.specs.Effect.{adding, addition_of}
use Rattle.clos_definition.specs.Generic.{methods_with}
use Rattle.clos_definition.proofs.generic.with_methods.Given as goal

abbrev pub invariant-loop-method : goal.invariant-loop-method
invariant-loop-method l = record {
  changes :
      adding l.effect.changes (map addition_of (methods_with l.classes l.id.0 l.left.items l.values))
      ≡ adding l.initial.effect.changes (map addition_of (methods_with l.classes l.id.0 l.initial.left.items l.initial.values));
  methods : l.effect.methods.items ++ methods_with l.classes l.id.0 l.left.items l.values ≡ methods_with l.classes l.id.0 l.initial.left.items l.initial.values;
}

abbrev pub decreases-loop-method : goal.decreases-loop-method
decreases-loop-method l = length l.left.items
