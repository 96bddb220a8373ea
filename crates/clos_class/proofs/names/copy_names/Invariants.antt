use Rattle.std.proofs.Common.{◌≡◌, ◌++◌, length}
use Rattle.clos_class.proofs.names.copy_names.Given as goal

abbrev pub invariant-loop-name : goal.invariant-loop-name
invariant-loop-name l = l.copies ++ l.left ≡ l.fn.names

abbrev pub decreases-loop-name : goal.decreases-loop-name
decreases-loop-name l = length l.left
