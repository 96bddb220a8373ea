use Rattle.std.proofs.Common.{◌≡◌, ◌≤◌, drop, length}
use Rattle.clos_groups.specs.clos_method.MethodIds.{method_numbers}
use Rattle.clos_comb.specs.Tree.{called_before}
use Rattle.clos_comb.proofs.standard.call_before.Given as goal

abbrev pub invariant-loop-left : goal.invariant-loop-left
invariant-loop-left l = (l.left ≤ length l.methods) × (l.calls ≡ called_before (method_numbers (drop l.left l.methods)) l.fn.forms)

abbrev pub decreases-loop-left : goal.decreases-loop-left
decreases-loop-left l = l.left
