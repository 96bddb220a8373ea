use Rattle.std.proofs.Common.{◌≡◌, map, vec_len}
use Rattle.lisp_data.specs.DatumView.{datum_of}
use Rattle.clos_lambda.specs.Lists.{ahead}
use Rattle.clos_template.proofs.datum.prepend_all.Given as goal

abbrev pub invariant-loop-datum : goal.invariant-loop-datum
invariant-loop-datum l = ahead (map datum_of l.front.items) l.built ≡ ahead (map datum_of l.fn.front.items) l.fn.list

abbrev pub decreases-loop-datum : goal.decreases-loop-datum
decreases-loop-datum l = vec_len l.front
