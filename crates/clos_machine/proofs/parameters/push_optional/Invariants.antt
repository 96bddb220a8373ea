use Rattle.std.proofs.Common.{◌≡◌, ◌++◌, length, map}
use Rattle.lisp_data.specs.ValueView.{value_of}
use Rattle.clos_meaning.specs.Parameters.{optional_sources}
use Rattle.clos_machine.proofs.parameters.push_optional.Given as goal

abbrev pub invariant-loop-variable : goal.invariant-loop-variable
invariant-loop-variable l = l.plan ++ optional_sources l.left (map value_of l.values_left) ≡ l.fn.plan ++ optional_sources l.fn.variables (map value_of l.fn.values)

abbrev pub decreases-loop-variable : goal.decreases-loop-variable
decreases-loop-variable l = length l.left
