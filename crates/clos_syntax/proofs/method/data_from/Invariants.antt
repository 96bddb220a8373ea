use Rattle.std.proofs.Common.{◌≡◌, map, vec_len}
use Rattle.lisp_data.specs.Datum.{nil}
use Rattle.lisp_data.specs.DatumView.{datum_of}
use Rattle.clos_lambda.specs.Lists.{ahead}
use Rattle.clos_syntax.proofs.method.data_from.Given as goal

abbrev pub invariant-loop-last : goal.invariant-loop-last
invariant-loop-last l = ahead (map datum_of l.atoms.items) l.list ≡ ahead (map datum_of l.fn.atoms.items) nil

abbrev pub decreases-loop-last : goal.decreases-loop-last
decreases-loop-last l = vec_len l.atoms
