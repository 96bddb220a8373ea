use Rattle.std.proofs.Common.{◌≡◌, length, map}
use Rattle.lisp_data.specs.ValueView.{value_of}
use Rattle.clos_machine.specs.clos_meaning.Natives.{integers_in}
use Rattle.clos_eval.proofs.Asking.{prefixed}
use Rattle.clos_eval.proofs.natives.integers_in.Given as goal

abbrev pub invariant-loop-value : goal.invariant-loop-value
invariant-loop-value l = prefixed l.integers.items (integers_in (map value_of l.left)) ≡ integers_in (map value_of l.fn.values)

abbrev pub decreases-loop-value : goal.decreases-loop-value
decreases-loop-value l = length l.left
