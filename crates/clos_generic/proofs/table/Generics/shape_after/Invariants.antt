use Rattle.std.proofs.Common.{◌≡◌, ◌≤◌, ◌+◌, length}
use Rattle.std.specs.Prelude.{option_map, slice_get}
use Rattle.clos_generic.specs.Changes.{shape_after, shape_in}
use Rattle.clos_generic.proofs.table.Generics.shape_after.Given as goal

abbrev pub invariant-loop-definition : goal.invariant-loop-definition
invariant-loop-definition l = record {
  same : shape_after l.self.table l.added l.left l.id.0 (option_map (λ s. s.now) l.shape) ≡ shape_after l.self.table 0 l.initial.left l.id.0 (shape_in (slice_get l.self.table.functions l.id.0));
  fewer : l.added + length l.left ≤ length l.initial.left;
}

abbrev pub decreases-loop-definition : goal.decreases-loop-definition
decreases-loop-definition l = length l.left
