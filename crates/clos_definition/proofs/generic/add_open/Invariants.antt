use Rattle.std.proofs.Common.{◌≡◌, length, map}
use Rattle.clos_definition.specs.Effect.{adding}
use Rattle.clos_definition.specs.Method.{open_addition}
use Rattle.clos_definition.proofs.generic.add_open.Given as goal

abbrev pub invariant-loop-method : goal.invariant-loop-method
invariant-loop-method l = adding l.changes (map (open_addition l.id.0) l.left) ≡ adding l.initial.changes (map (open_addition l.id.0) l.initial.left)

abbrev pub decreases-loop-method : goal.decreases-loop-method
decreases-loop-method l = length l.left
