use Rattle.std.proofs.Common.{◌≡◌, ◌<◌, List, [], ◌∷◌, ◌++◌, true, Some, length}
use Rattle.std.specs.Prelude.{slice_get}
use Rattle.lisp_data.specs.Name.{Name}
use Rattle.clos_circle.specs.Circle.{leads_down}
use Rattle.clos_circle.specs.inner.Before.{related_by}
use Rattle.clos_circle.proofs.superclasses.way.Given as goal

abbrev pub invariant-loop-place : goal.invariant-loop-place
invariant-loop-place l = record {
  begins : (tail : List Name) × (l.names.items ≡ l.first ∷ tail);
  within : l.place < length l.found.names.items;
  down : (y : Name) → slice_get l.found.names.items l.place ≡ Some y
      → leads_down (related_by l.relation) (l.names.items ++ y ∷ []) ≡ true;
}

abbrev pub decreases-loop-place : goal.decreases-loop-place
decreases-loop-place l = l.place
