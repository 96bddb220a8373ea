use Rattle.std.proofs.Common.{◌≤◌}
use Rattle.lisp_data.specs.Datum.{size_of_data}
use Rattle.lisp_data.specs.DatumView.{data_of}
use Rattle.lisp_data.proofs.+datum.Given as goal

-- what is left of the list is no larger than the list
abbrev pub invariant-datum::Data::drop-loop-link : goal.invariant-datum::Data::drop-loop-link
invariant-datum::Data::drop-loop-link l = size_of_data (data_of l.link) ≤ size_of_data l.fn.self
