use Rattle.std.proofs.Common.{◌≡◌}
use Rattle.lisp_data.specs.Datum.{size_of_data}
use Rattle.clos_comb.specs.Arguments.{are_constants}
use Rattle.clos_comb.proofs.arguments.are_constants.Given as goal

-- all so far are
abbrev pub invariant-loop-first : goal.invariant-loop-first
invariant-loop-first l = are_constants l.rest ≡ are_constants l.arguments

abbrev pub decreases-loop-first : goal.decreases-loop-first
decreases-loop-first l = size_of_data l.rest
