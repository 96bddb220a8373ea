use Rattle.std.proofs.Common.{subst, Err, ◌∷◌, ◌++◌, [], ap, ◌∙◌}
use Rattle.lisp_data.specs.ValueView.{value_of}
use Rattle.lisp_prims.specs.Fault.{AnswersUnlessMemory}
use Rattle.lisp_prims.specs.Primitive.{answer}
use Rattle.clos_machine.proofs.Runs.{not_made}
use Rattle.clos_places.proofs.assignment.combine.Goals as goal

pub returns : goal.returns
returns c = λ w.
    not_made (answer c.args.primitive (value_of c.args.old.now ∷ value_of c.args.amount.now ∷ [])) c.in-Err.fault c.of_function.result w
    (subst (λ vs. AnswersUnlessMemory value_of (Err c.in-Err.fault) (answer c.args.primitive vs))
    (c.as_slice.ensures ∙ c.in_ok-push-2.ensures ∙ ap (λ v. c.push.new.self ++ v ∷ []) c.in_ok-copy-2.ensures ∙ ap (λ vs. vs ++ value_of c.args.amount.now ∷ [])
    (c.in_ok-push.ensures ∙ ap (λ vs. vs ++ value_of c.in_ok-copy.field-0 ∷ []) c.new-values.ensures ∙ ap (λ v. v ∷ []) c.in_ok-copy.ensures)) c.in-Err.ensures.answer)
    c.of_function.ensures.signals c.of_function.ensures.memory
