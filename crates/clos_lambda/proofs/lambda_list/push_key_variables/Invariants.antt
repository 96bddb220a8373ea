use Rattle.std.proofs.Common.{◌≡◌, ◌++◌, drop}
use Rattle.clos_lambda.specs.LambdaList.{key_variables}
use Rattle.clos_lambda.proofs.lambda_list.push_key_variables.Given as goal

abbrev pub invariant-loop-entry : goal.invariant-loop-entry
invariant-loop-entry l = l.names.items ++ key_variables (drop l.entry-index l.entries) ≡ l.fn.names.items ++ key_variables l.entries
