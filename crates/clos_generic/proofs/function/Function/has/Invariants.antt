use Rattle.std.proofs.Common.{◌≤◌, ◌-◌, length}
use Rattle.clos_generic.proofs.function.Function.has.Given as goal

-- within the methods
abbrev pub invariant-loop-low : goal.invariant-loop-low
invariant-loop-low l = l.high ≤ length l.self.methods.items

abbrev pub decreases-loop-low : goal.decreases-loop-low
decreases-loop-low l = l.high - l.low
