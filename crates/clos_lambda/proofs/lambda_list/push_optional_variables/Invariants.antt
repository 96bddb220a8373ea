use Rattle.std.proofs.Common.{◌≡◌, ◌++◌, drop}
use Rattle.clos_lambda.specs.LambdaList.{optional_variables}
use Rattle.clos_lambda.proofs.lambda_list.push_optional_variables.Given as goal

abbrev pub invariant-loop-entry : goal.invariant-loop-entry
invariant-loop-entry l = l.names.items ++ optional_variables (drop l.entry-index l.entries) ≡ l.fn.names.items ++ optional_variables l.entries
