use Rattle.std.proofs.Common.{◌≡◌, ◌≤◌, ◌↔◌}
use Rattle.lisp_data.specs.Datum.{size_of_datum, size_of_data}
use Rattle.lisp_data.specs.DatumView.{datum_of}
use Rattle.lisp_data.proofs.equality.+equal_data.Given as goal

abbrev pub decreases-equal_data : goal.decreases-equal_data
decreases-equal_data l = size_of_datum (datum_of l.a.now)

abbrev pub decreases-equal_elements : goal.decreases-equal_elements
decreases-equal_elements l = size_of_data l.a.now

-- the lists are equal where what is left of them is, which is no larger
abbrev pub invariant-equal_elements-loop-d : goal.invariant-equal_elements-loop-d
invariant-equal_elements-loop-d l = ((l.fn.a ≡ l.fn.b) ↔ (l.left ≡ l.right)) × (size_of_data l.left ≤ size_of_data l.fn.a)
