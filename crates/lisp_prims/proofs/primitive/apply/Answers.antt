use Rattle.std.proofs.Common.{subst, sym, map}
use Rattle.lisp_data.specs.ValueView.{value_of}
use Rattle.lisp_prims.specs.Fault.{AnswersUnlessMemory}
use Rattle.lisp_prims.specs.Predicates.{truth_of}
use Rattle.lisp_prims.specs.Primitive.{answer}
use Rattle.lisp_functions.specs.declared.primitive.Primitive.{Primitive}
use Rattle.lisp_functions.specs.declared.primitive.Primitive.TheVariants.{Test}
use Rattle.lisp_prims.proofs.OnFaults.{unless_memory}
use Rattle.lisp_prims.proofs.primitive.apply.Goals as goal

pub returns-in-Test-clause-answer : goal.returns-in-Test-clause-answer
returns-in-Test-clause-answer c =
    subst (λ (f : Primitive). AnswersUnlessMemory value_of c.as_truth-in-Test.result (answer f (map value_of c.args.args.now))) (sym c.in-Test.is)
    (unless_memory c.as_truth-in-Test.result (answer (Test c.in-Test.function) (map value_of c.args.args.now))
    (c.as_truth-in-Test.ensures (truth_of c.in-Test.function (map value_of c.args.args.now)) c.call-in-Test.ensures))
