use Rattle.std.proofs.Common.{◌≡◌, length, map}
use Rattle.lisp_data.specs.ValueView.{value_of}
use Rattle.clos_meaning.specs.Parameters.{are_pairs}
use Rattle.clos_machine.proofs.parameters.are_pairs.Given as goal

abbrev pub invariant-loop-name : goal.invariant-loop-name
invariant-loop-name l = are_pairs (map value_of l.left) ≡ are_pairs (map value_of l.fn.values)

abbrev pub decreases-loop-name : goal.decreases-loop-name
decreases-loop-name l = length l.left
