use Rattle.std.proofs.Common.{◌≡◌}
use Rattle.clos_generic.specs.Initial.{left_to_right}
use Rattle.clos_generic.proofs.options.Positions.left_to_right.Given as goal

abbrev pub invariant-loop-place : goal.invariant-loop-place
invariant-loop-place l = l.places.items ≡ left_to_right l.place
