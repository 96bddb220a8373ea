use Rattle.std.proofs.Common.{◌≡◌, ◌≤◌, drop, length}
use Rattle.clos_method.specs.MethodIds.{method_numbers}
use Rattle.clos_method.specs.inner.Ranking.{RanksOf}
use Rattle.clos_method.proofs.order.ordered_methods.Given as goal

abbrev pub invariant-loop-left : goal.invariant-loop-left
invariant-loop-left l =
    (l.left ≤ length l.candidates)
    × RanksOf l.methods l.order l.arguments (method_numbers (drop l.left l.candidates)) l.listed.items

abbrev pub decreases-loop-left : goal.decreases-loop-left
decreases-loop-left l = l.left
