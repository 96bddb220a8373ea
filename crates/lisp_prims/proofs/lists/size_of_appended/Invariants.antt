use Rattle.std.proofs.Common.{◌<◌, map, drop, length}
use Rattle.std.specs.Prelude.{IfOk}
use Rattle.lisp_data.specs.ValueView.{value_of}
use Rattle.lisp_prims.specs.Fault.{Answers, given}
use Rattle.lisp_prims.specs.Lists.{AreWithinLimits, appended, size_in}
use Rattle.lisp_prims.proofs.lists.size_of_appended.Given as goal

abbrev pub invariant-loop-at : goal.invariant-loop-at
invariant-loop-at l =
    (l.at < length l.args) × (Answers l.size (given (appended (map value_of (drop l.at l.args))) size_in) × IfOk l.size (λ s. AreWithinLimits s))

abbrev pub decreases-loop-at : goal.decreases-loop-at
decreases-loop-at l = l.at
