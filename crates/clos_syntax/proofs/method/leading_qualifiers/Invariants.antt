use Rattle.std.proofs.Common.{◌≡◌, map}
use Rattle.lisp_data.specs.Datum.{size_of_data}
use Rattle.lisp_data.specs.DatumView.{datum_of}
use Rattle.clos_lambda.specs.Lists.{ahead}
use Rattle.clos_syntax.specs.Method.{qualifiers_in}
use Rattle.clos_syntax.proofs.method.leading_qualifiers.Given as goal

abbrev pub invariant-loop-first : goal.invariant-loop-first
invariant-loop-first l = ahead (map datum_of l.qualifiers.items) (qualifiers_in l.rest) ≡ qualifiers_in l.elements

abbrev pub decreases-loop-first : goal.decreases-loop-first
decreases-loop-first l = size_of_data l.rest
