use Rattle.std.proofs.Common.{subst, Err}
use Rattle.lisp_data.specs.ValueView.{value_of}
use Rattle.lisp_prims.specs.Fault.{AnswersUnlessMemory}
use Rattle.lisp_prims.specs.Primitive.{answer}
use Rattle.clos_machine.specs.clos_world.World.{seen}
use Rattle.clos_machine.proofs.Runs.{not_computed}
use Rattle.clos_calls.proofs.functions.compute.Goals as goal

pub returns-in-Err-clause-leads : goal.returns-in-Err-clause-leads
returns-in-Err-clause-leads c =
    not_computed c.args.machine.now c.args.machine.now (answer c.args.primitive c.args.values.now) c.in-Err.fault c.of_function.result (seen c.args.world.now)
    (subst (λ vs. AnswersUnlessMemory value_of (Err c.in-Err.fault) (answer c.args.primitive vs)) c.as_slice.ensures c.in-Err.ensures.answer)
    c.of_function.ensures.signals c.of_function.ensures.memory
