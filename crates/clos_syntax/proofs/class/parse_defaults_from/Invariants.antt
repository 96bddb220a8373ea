use Rattle.std.proofs.Common.{◌≡◌}
use Rattle.lisp_data.specs.Datum.{size_of_data}
use Rattle.clos_lambda.specs.Lists.{before}
use Rattle.clos_syntax.specs.Class.{defaults_from}
use Rattle.clos_syntax.proofs.class.parse_defaults_from.Given as goal

abbrev pub invariant-loop-name : goal.invariant-loop-name
invariant-loop-name l = before l.defaults (defaults_from l.rest) ≡ defaults_from l.arguments

abbrev pub decreases-loop-name : goal.decreases-loop-name
decreases-loop-name l = size_of_data l.rest
