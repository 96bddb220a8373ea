use Rattle.std.proofs.Common.{◌≡◌, length}
use Rattle.clos_class.specs.Slots.{same_names}
use Rattle.clos_class.proofs.layout.same_names.Given as goal

-- they are the same where what is left of them is
abbrev pub invariant-loop-x : goal.invariant-loop-x
invariant-loop-x l = same_names l.left l.right ≡ same_names l.fn.names l.fn.others

abbrev pub decreases-loop-x : goal.decreases-loop-x
decreases-loop-x l = length l.left
