use Rattle.std.proofs.Common.{◌≡◌, length}
use Rattle.lisp_data.specs.Numbers.{same_numbers}
use Rattle.clos_method.specs.MethodIds.{method_numbers}
use Rattle.clos_next_methods.proofs.next_methods.same_methods.Given as goal

-- they are the same where what is left of them is
abbrev pub invariant-loop-x : goal.invariant-loop-x
invariant-loop-x l = same_numbers (method_numbers l.left) (method_numbers l.right) ≡ same_numbers (method_numbers l.fn.a) (method_numbers l.fn.b)

abbrev pub decreases-loop-x : goal.decreases-loop-x
decreases-loop-x l = length l.left
