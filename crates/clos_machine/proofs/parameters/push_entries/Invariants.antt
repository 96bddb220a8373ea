use Rattle.std.proofs.Common.{◌≡◌, ◌++◌, length, map}
use Rattle.lisp_data.specs.ValueView.{value_of}
use Rattle.clos_meaning.specs.Parameters.{entry_sources}
use Rattle.clos_machine.proofs.parameters.push_entries.Given as goal

abbrev pub invariant-loop-key : goal.invariant-loop-key
invariant-loop-key l = l.plan ++ entry_sources l.left (map value_of l.fn.values) ≡ l.fn.plan ++ entry_sources l.fn.keys (map value_of l.fn.values)

abbrev pub decreases-loop-key : goal.decreases-loop-key
decreases-loop-key l = length l.left
