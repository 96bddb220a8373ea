use Rattle.std.proofs.Common.{◌≡◌, length, map}
use Rattle.lisp_data.specs.ValueView.{value_of}
use Rattle.clos_meaning.specs.Parameters.{are_accepted}
use Rattle.clos_machine.proofs.parameters.are_accepted.Given as goal

abbrev pub invariant-loop-name : goal.invariant-loop-name
invariant-loop-name l = are_accepted l.fn.keys (map value_of l.left) ≡ are_accepted l.fn.keys (map value_of l.fn.values)

abbrev pub decreases-loop-name : goal.decreases-loop-name
decreases-loop-name l = length l.left
