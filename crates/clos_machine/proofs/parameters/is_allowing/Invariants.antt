use Rattle.std.proofs.Common.{◌≡◌, length, map}
use Rattle.lisp_data.specs.ValueView.{value_of}
use Rattle.clos_meaning.specs.Parameters.{is_allowing}
use Rattle.clos_machine.proofs.parameters.is_allowing.Given as goal

abbrev pub invariant-loop-key : goal.invariant-loop-key
invariant-loop-key l = is_allowing (map value_of l.left) ≡ is_allowing (map value_of l.fn.values)

abbrev pub decreases-loop-key : goal.decreases-loop-key
decreases-loop-key l = length l.left
