use Rattle.std.proofs.Common.{◌≡◌}
use Rattle.lisp_data.specs.Datum.{size_of_data}
use Rattle.clos_lambda.specs.Lists.{before}
use Rattle.clos_syntax.specs.Slot.{accessors_in}
use Rattle.clos_syntax.proofs.slot.parse_accessors.Given as goal

abbrev pub invariant-loop-key : goal.invariant-loop-key
invariant-loop-key l = before l.accessors (accessors_in l.rest) ≡ accessors_in l.options

abbrev pub decreases-loop-key : goal.decreases-loop-key
decreases-loop-key l = size_of_data l.rest
