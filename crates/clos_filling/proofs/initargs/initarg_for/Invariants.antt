use Rattle.std.proofs.Common.{◌≡◌, length, map}
use Rattle.lisp_data.specs.ValueView.{value_of}
use Rattle.clos_machine.specs.clos_meaning.Filling.{initarg_for}
use Rattle.clos_filling.proofs.initargs.initarg_for.Given as goal

abbrev pub invariant-loop-name : goal.invariant-loop-name
invariant-loop-name l = initarg_for l.slot (map value_of l.left) ≡ initarg_for l.slot (map value_of l.fn.initargs)

abbrev pub decreases-loop-name : goal.decreases-loop-name
decreases-loop-name l = length l.left
