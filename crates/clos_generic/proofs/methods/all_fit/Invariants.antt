use Rattle.std.proofs.Common.{◌≡◌, length}
use Rattle.clos_generic.specs.Fault.{all_fit}
use Rattle.clos_method.specs.MethodIds.{method_numbers}
use Rattle.clos_generic.proofs.methods.all_fit.Given as goal

abbrev pub invariant-loop-id : goal.invariant-loop-id
invariant-loop-id l = all_fit l.methods l.shape (method_numbers l.left) ≡ all_fit l.methods l.shape (method_numbers l.initial.left)

abbrev pub decreases-loop-id : goal.decreases-loop-id
decreases-loop-id l = length l.left
