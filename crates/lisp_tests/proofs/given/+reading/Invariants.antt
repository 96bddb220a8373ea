use Rattle.lisp_data.specs.Datum.{size_of_datum, size_of_data}
use Rattle.lisp_data.specs.DatumView.{datum_of}
use Rattle.lisp_tests.proofs.given.+reading.Given as goal

abbrev pub decreases-as_value : goal.decreases-as_value
decreases-as_value l = size_of_datum (datum_of l.datum.now)

abbrev pub decreases-as_items : goal.decreases-as_items
decreases-as_items l = size_of_data l.data.now
