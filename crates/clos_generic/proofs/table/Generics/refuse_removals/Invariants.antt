use Rattle.std.proofs.Common.{◌≡◌, length}
use Rattle.clos_generic.specs.Changes.{removals_refusal}
use Rattle.clos_generic.proofs.table.Generics.refuse_removals.Given as goal

abbrev pub invariant-loop-removal : goal.invariant-loop-removal
invariant-loop-removal l =
    removals_refusal l.self.table l.left
    ≡ removals_refusal l.self.table l.initial.left

abbrev pub decreases-loop-removal : goal.decreases-loop-removal
decreases-loop-removal l = length l.left
