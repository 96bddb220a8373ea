use Rattle.std.proofs.Common.{◌≡◌, ◌≤◌, drop, length}
use Rattle.clos_groups.specs.clos_method.MethodIds.{method_numbers}
use Rattle.clos_comb.specs.Calls.{calls_before}
use Rattle.clos_comb.proofs.call.calls_before.Given as goal

abbrev pub invariant-loop-left : goal.invariant-loop-left
invariant-loop-left l = (l.left ≤ length l.ids) × (l.list ≡ calls_before (method_numbers (drop l.left l.ids)) l.fn.tail)

abbrev pub decreases-loop-left : goal.decreases-loop-left
decreases-loop-left l = l.left
