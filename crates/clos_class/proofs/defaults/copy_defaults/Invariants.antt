use Rattle.std.proofs.Common.{◌≡◌, ◌++◌, length}
use Rattle.clos_class.proofs.defaults.copy_defaults.Given as goal

abbrev pub invariant-loop-default : goal.invariant-loop-default
invariant-loop-default l = l.copies ++ l.left ≡ l.fn.defaults

abbrev pub decreases-loop-default : goal.decreases-loop-default
decreases-loop-default l = length l.left
