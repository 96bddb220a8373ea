use Rattle.std.proofs.Common.{◌≡◌, ℕ, suc, ◌-◌, length}
use Rattle.clos_precedence.specs.OrderView.{is_marked}
use Rattle.clos_precedence.proofs.seen.mark.Given as goal

abbrev pub invariant-loop-marks : goal.invariant-loop-marks
invariant-loop-marks l = (x : ℕ) → is_marked l.marks.items x ≡ is_marked l.fn.marks.items x

abbrev pub decreases-loop-marks : goal.decreases-loop-marks
decreases-loop-marks l = suc l.place - length l.marks.items
