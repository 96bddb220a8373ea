use Rattle.std.proofs.Common.{◌≡◌, length}
use Rattle.clos_method.specs.Specializer.{same_specializers, specializers_in}
use Rattle.clos_method.proofs.specializer.same_items.Given as goal

-- they are the same where what is left of them is
abbrev pub invariant-loop-x : goal.invariant-loop-x
invariant-loop-x l = same_specializers (specializers_in l.left) (specializers_in l.right) ≡ same_specializers (specializers_in l.fn.a) (specializers_in l.fn.b)

abbrev pub decreases-loop-x : goal.decreases-loop-x
decreases-loop-x l = length l.left
