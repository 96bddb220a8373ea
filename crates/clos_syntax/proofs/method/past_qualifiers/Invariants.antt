use Rattle.std.proofs.Common.{◌≡◌}
use Rattle.lisp_data.specs.Datum.{size_of_data}
use Rattle.clos_syntax.specs.Method.{past_qualifiers}
use Rattle.clos_syntax.proofs.method.past_qualifiers.Given as goal

abbrev pub invariant-loop-first : goal.invariant-loop-first
invariant-loop-first l = past_qualifiers l.rest ≡ past_qualifiers l.elements

abbrev pub decreases-loop-first : goal.decreases-loop-first
decreases-loop-first l = size_of_data l.rest
