use Rattle.std.proofs.Common.{◌≡◌}
use Rattle.lisp_data.specs.Datum.{size_of_data}
use Rattle.clos_lambda.specs.Sections.{back}
use Rattle.clos_lambda.proofs.section.back.Given as goal

abbrev pub invariant-loop-first : goal.invariant-loop-first
invariant-loop-first l = back l.rest ≡ back l.elements

abbrev pub decreases-loop-first : goal.decreases-loop-first
decreases-loop-first l = size_of_data l.rest
