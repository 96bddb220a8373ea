use Rattle.std.proofs.Common.{◌<◌, map, drop, length}
use Rattle.lisp_data.specs.ValueView.{value_of}
use Rattle.lisp_prims.specs.Fault.{AnswersOrMemory}
use Rattle.lisp_prims.specs.Lists.{appended}
use Rattle.lisp_prims.proofs.lists.joined.Given as goal

abbrev pub invariant-loop-at : goal.invariant-loop-at
invariant-loop-at l =
    (l.at < length l.args) × AnswersOrMemory (λ m. m) l.joined (appended (map value_of (drop l.at l.args)))

abbrev pub decreases-loop-at : goal.decreases-loop-at
decreases-loop-at l = l.at
