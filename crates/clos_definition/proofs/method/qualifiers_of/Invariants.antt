use Rattle.std.proofs.Common.{◌≡◌, ◌++◌}
use Rattle.lisp_data.specs.Datum.{length_of}
use Rattle.clos_definition.specs.Method.{qualifiers_of}
use Rattle.clos_definition.proofs.method.qualifiers_of.Given as goal

abbrev pub invariant-loop-datum : goal.invariant-loop-datum
invariant-loop-datum l = l.qualifiers ++ qualifiers_of l.left ≡ qualifiers_of l.initial.left

abbrev pub decreases-loop-datum : goal.decreases-loop-datum
decreases-loop-datum l = length_of l.left
