use Rattle.std.proofs.Common.{◌≡◌, length, map}
use Rattle.lisp_data.specs.ValueView.{value_of}
use Rattle.clos_meaning.specs.Parameters.{argument_named}
use Rattle.clos_machine.proofs.parameters.argument_named.Given as goal

abbrev pub invariant-loop-key : goal.invariant-loop-key
invariant-loop-key l = argument_named l.fn.name (map value_of l.left) ≡ argument_named l.fn.name (map value_of l.fn.values)

abbrev pub decreases-loop-key : goal.decreases-loop-key
decreases-loop-key l = length l.left
