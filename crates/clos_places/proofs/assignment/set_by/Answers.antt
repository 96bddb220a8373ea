use Rattle.std.proofs.Common.{ap, refl, ◌∙◌, ◌++◌, ◌∷◌, []}
use Rattle.clos_machine.specs.Machine.{at, acted}
use Rattle.clos_machine.specs.clos_meaning.Meaning.{collect, meaning, setf}
use Rattle.clos_machine.specs.clos_meaning.Outcome.{then_do}
use Rattle.clos_machine.specs.declared.machine.Action.TheVariants.{NewValue}
use Rattle.clos_places.proofs.assignment.set_by.Goals as goal

pub returns-clause-leads : goal.returns-clause-leads
returns-clause-leads c = λ run w h.
    c.begin_under.ensures.leads run w refl refl (λ t.
    ap (λ x. then_do (then_do (meaning c.args.machine.now.room c.args.machine.now.context x (at c.args.machine.now w) t)
    (λ v. collect (meaning c.args.machine.now.room) c.args.machine.now.context c.in_ok-rest.rest (c.new.result ++ v ∷ []) (acted (meaning c.args.machine.now.room) c.args.machine.now.context (NewValue c.args.target c.args.form)))) (λ u. setf (meaning c.args.machine.now.room) c.args.machine.now.context c.in_ok-others.others u)) c.in_ok-next.ensures
    ∙ ap (λ x. then_do (then_do (meaning c.args.machine.now.room c.args.machine.now.context c.args.first.now (at c.args.machine.now w) t)
    (λ v. collect (meaning c.args.machine.now.room) c.args.machine.now.context x (c.new.result ++ v ∷ []) (acted (meaning c.args.machine.now.room) c.args.machine.now.context (NewValue c.args.target c.args.form)))) (λ u. setf (meaning c.args.machine.now.room) c.args.machine.now.context c.in_ok-others.others u)) c.in_ok-rest.ensures
    ∙ ap (λ x. then_do (then_do (meaning c.args.machine.now.room c.args.machine.now.context c.args.first.now (at c.args.machine.now w) t)
    (λ v. collect (meaning c.args.machine.now.room) c.args.machine.now.context c.args.rest.now (x ++ v ∷ []) (acted (meaning c.args.machine.now.room) c.args.machine.now.context (NewValue c.args.target c.args.form)))) (λ u. setf (meaning c.args.machine.now.room) c.args.machine.now.context c.in_ok-others.others u)) c.new.ensures
    ∙ ap (λ x. then_do (then_do (meaning c.args.machine.now.room c.args.machine.now.context c.args.first.now (at c.args.machine.now w) t)
    (λ v. collect (meaning c.args.machine.now.room) c.args.machine.now.context c.args.rest.now ([] ++ v ∷ []) (acted (meaning c.args.machine.now.room) c.args.machine.now.context (NewValue c.args.target c.args.form)))) (λ u. setf (meaning c.args.machine.now.room) c.args.machine.now.context x u)) c.in_ok-others.ensures
    ∙ h t)
