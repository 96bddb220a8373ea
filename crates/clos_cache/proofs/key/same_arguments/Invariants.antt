use Rattle.std.proofs.Common.{◌≡◌, length}
use Rattle.clos_cache.specs.Key.{same_arguments}
use Rattle.clos_cache.specs.KeyView.{arguments_in}
use Rattle.clos_cache.proofs.key.same_arguments.Given as goal

-- they are the same where what is left of them is
abbrev pub invariant-loop-x : goal.invariant-loop-x
invariant-loop-x l = same_arguments (arguments_in l.left) (arguments_in l.right) ≡ same_arguments (arguments_in l.fn.ones)
    (arguments_in l.fn.others)

abbrev pub decreases-loop-x : goal.decreases-loop-x
decreases-loop-x l = length l.left
