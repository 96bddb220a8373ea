use Rattle.std.proofs.Common.{ap, refl, ◌∙◌, ◌++◌, ◌∷◌, []}
use Rattle.clos_forms.specs.Form.{nil}
use Rattle.clos_machine.specs.Machine.{at, acted}
use Rattle.clos_machine.specs.clos_meaning.Meaning.{collect, meaning, setf}
use Rattle.clos_machine.specs.clos_meaning.Outcome.{then_do}
use Rattle.clos_machine.specs.declared.machine.Action.TheVariants.{Store}
use Rattle.clos_places.proofs.assignment.set_variable.Goals as goal

pub returns-clause-leads : goal.returns-clause-leads
returns-clause-leads c = λ run w h.
    c.begin_under.ensures.leads run w refl refl (λ t.
    ap (λ x. then_do (then_do (meaning c.args.machine.now.room c.args.machine.now.context x (at c.args.machine.now w) t)
    (λ v. collect (meaning c.args.machine.now.room) c.args.machine.now.context c.new.result (c.new-2.result ++ v ∷ []) (acted (meaning c.args.machine.now.room) c.args.machine.now.context (Store c.in_ok-name.name)))) (λ u. setf (meaning c.args.machine.now.room) c.args.machine.now.context c.in_ok-others.others u)) c.in_ok-value.ensures
    ∙ ap (λ x. then_do (then_do (meaning c.args.machine.now.room c.args.machine.now.context c.args.form.now (at c.args.machine.now w) t)
    (λ v. collect (meaning c.args.machine.now.room) c.args.machine.now.context x (c.new-2.result ++ v ∷ []) (acted (meaning c.args.machine.now.room) c.args.machine.now.context (Store c.in_ok-name.name)))) (λ u. setf (meaning c.args.machine.now.room) c.args.machine.now.context c.in_ok-others.others u)) c.new.ensures
    ∙ ap (λ x. then_do (then_do (meaning c.args.machine.now.room c.args.machine.now.context c.args.form.now (at c.args.machine.now w) t)
    (λ v. collect (meaning c.args.machine.now.room) c.args.machine.now.context nil (x ++ v ∷ []) (acted (meaning c.args.machine.now.room) c.args.machine.now.context (Store c.in_ok-name.name)))) (λ u. setf (meaning c.args.machine.now.room) c.args.machine.now.context c.in_ok-others.others u)) c.new-2.ensures
    ∙ ap (λ x. then_do (then_do (meaning c.args.machine.now.room c.args.machine.now.context c.args.form.now (at c.args.machine.now w) t)
    (λ v. collect (meaning c.args.machine.now.room) c.args.machine.now.context nil ([] ++ v ∷ []) (acted (meaning c.args.machine.now.room) c.args.machine.now.context (Store c.in_ok-name.name)))) (λ u. setf (meaning c.args.machine.now.room) c.args.machine.now.context x u)) c.in_ok-others.ensures
    ∙ ap (λ x. then_do (then_do (meaning c.args.machine.now.room c.args.machine.now.context c.args.form.now (at c.args.machine.now w) t)
    (λ v. collect (meaning c.args.machine.now.room) c.args.machine.now.context nil ([] ++ v ∷ []) (acted (meaning c.args.machine.now.room) c.args.machine.now.context (Store x)))) (λ u. setf (meaning c.args.machine.now.room) c.args.machine.now.context c.args.others.now u)) c.in_ok-name.ensures
    ∙ h t)
