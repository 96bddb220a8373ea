use Rattle.std.proofs.Common.{◌≡◌, ◌++◌, length}
use Rattle.clos_method.specs.MethodIds.{method_numbers}
use Rattle.clos_method.specs.inner.Ranking.{ranked_numbers}
use Rattle.clos_method.proofs.order.numbers.Given as goal

abbrev pub invariant-loop-left : goal.invariant-loop-left
invariant-loop-left l = method_numbers l.ids.items ++ ranked_numbers l.left ≡ ranked_numbers l.fn.listed

abbrev pub decreases-loop-left : goal.decreases-loop-left
decreases-loop-left l = length l.left
