use Rattle.std.proofs.Common.{◌≡◌, length, map}
use Rattle.lisp_data.specs.ValueView.{value_of}
use Rattle.clos_machine.specs.clos_meaning.Initialization.{first_invalid}
use Rattle.clos_filling.proofs.initargs.first_invalid.Given as goal

abbrev pub invariant-loop-name : goal.invariant-loop-name
invariant-loop-name l = first_invalid l.fn.methods l.fn.reached l.fn.slots (map value_of l.left) ≡ first_invalid l.fn.methods l.fn.reached l.fn.slots (map value_of l.fn.initargs)

abbrev pub decreases-loop-name : goal.decreases-loop-name
decreases-loop-name l = length l.left
