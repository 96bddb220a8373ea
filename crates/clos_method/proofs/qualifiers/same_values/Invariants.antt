use Rattle.std.proofs.Common.{◌≡◌, length}
use Rattle.clos_method.specs.Qualifiers.{same_qualifiers, values_in}
use Rattle.clos_method.proofs.qualifiers.same_values.Given as goal

-- they are the same where what is left of them is
abbrev pub invariant-loop-x : goal.invariant-loop-x
invariant-loop-x l = same_qualifiers (values_in l.left) (values_in l.right) ≡ same_qualifiers (values_in l.fn.a) (values_in l.fn.b)

abbrev pub decreases-loop-x : goal.decreases-loop-x
decreases-loop-x l = length l.left
