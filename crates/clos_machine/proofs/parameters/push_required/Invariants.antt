use Rattle.std.proofs.Common.{◌≡◌, ◌++◌, length, map}
use Rattle.lisp_data.specs.ValueView.{value_of}
use Rattle.clos_meaning.specs.Parameters.{required_sources}
use Rattle.clos_machine.proofs.parameters.push_required.Given as goal

abbrev pub invariant-loop-name : goal.invariant-loop-name
invariant-loop-name l = l.plan ++ required_sources l.names_left (map value_of l.values_left) ≡ l.fn.plan ++ required_sources l.fn.names (map value_of l.fn.values)

abbrev pub decreases-loop-name : goal.decreases-loop-name
decreases-loop-name l = length l.names_left
