use Rattle.std.proofs.Common.{◌≡◌, ◌++◌, map}
use Rattle.lisp_data.specs.Datum.{elements, size_of_data}
use Rattle.lisp_data.specs.DatumView.{datum_of}
use Rattle.clos_template.proofs.datum.push_elements.Given as goal

abbrev pub invariant-loop-first : goal.invariant-loop-first
invariant-loop-first l = map datum_of l.items.items ++ elements l.rest ≡ map datum_of l.fn.items.items ++ elements l.list

abbrev pub decreases-loop-first : goal.decreases-loop-first
decreases-loop-first l = size_of_data l.rest
