-- What parts of methods are told to do.
use Rattle.std.specs.Prelude.{[], if◌then◌else◌}
use Rattle.clos_forms.specs.Form.{Forms}
use Rattle.clos_lambda.specs.declared.lambda_list.LambdaList.{LambdaList}
use Rattle.clos_machine.specs.clos_world.declared.condition.ConditionKind.TheVariants.{ProgramError}
use Rattle.clos_machine.specs.clos_meaning.Bodies.{body_run}
use Rattle.clos_machine.specs.clos_meaning.Calls.{keys_are_even}
use Rattle.clos_machine.specs.clos_meaning.Contexts.{Context}
use Rattle.clos_machine.specs.clos_meaning.Outcome.{Run, Eval, stopped}
use Rattle.clos_machine.specs.clos_meaning.Parameters.{sources}

-- the forms of a method, with the parameters of this lambda list
abbrev pub forms_run : Eval → Context → LambdaList → Forms → Run
forms_run ev env l fs w s = if keys_are_even l env.arguments then body_run ev env (sources l env.arguments) fs w s else stopped ProgramError [] w s
