use Rattle.std.proofs.Common.{ap, drop, refl, sym, ◌∙◌, ◌++◌, ◌∷◌, []}
use Rattle.clos_forms.specs.Form.{nil, operator_in}
use Rattle.clos_machine.specs.Machine.{at, acted, targets}
use Rattle.clos_machine.specs.clos_meaning.Meaning.{collect, meaning, setq}
use Rattle.clos_machine.specs.clos_meaning.Outcome.{then_do}
use Rattle.clos_machine.specs.declared.machine.Action.TheVariants.{Store}
use Rattle.clos_places.proofs.assignment.set_target.Goals as goal

pub returns-in_ok-others-in-Some-clause-leads : goal.returns-in_ok-others-in-Some-clause-leads
returns-in_ok-others-in-Some-clause-leads c = λ run w v h.
    c.begin_under.ensures.leads run w refl refl (λ t.
    ap (λ x. then_do (then_do (meaning c.args.machine.now.room c.args.machine.now.context x (at c.args.machine.now w) t)
    (λ y. collect (meaning c.args.machine.now.room) c.args.machine.now.context c.new.result (c.new-in-Some.result ++ y ∷ []) (acted (meaning c.args.machine.now.room) c.args.machine.now.context (Store c.in_ok-name-in-Some.name)))) (λ u. setq (meaning c.args.machine.now.room) c.args.machine.now.context (drop c.args.next (targets (operator_in c.in_ok-form-in-Some.form))) c.in_ok-others-in-Some.others u)) c.in_ok-value-in-Some.ensures
    ∙ ap (λ x. then_do (then_do (meaning c.args.machine.now.room c.args.machine.now.context c.in-Some.first.now (at c.args.machine.now w) t)
    (λ y. collect (meaning c.args.machine.now.room) c.args.machine.now.context x (c.new-in-Some.result ++ y ∷ []) (acted (meaning c.args.machine.now.room) c.args.machine.now.context (Store c.in_ok-name-in-Some.name)))) (λ u. setq (meaning c.args.machine.now.room) c.args.machine.now.context (drop c.args.next (targets (operator_in c.in_ok-form-in-Some.form))) c.in_ok-others-in-Some.others u)) c.new.ensures
    ∙ ap (λ x. then_do (then_do (meaning c.args.machine.now.room c.args.machine.now.context c.in-Some.first.now (at c.args.machine.now w) t)
    (λ y. collect (meaning c.args.machine.now.room) c.args.machine.now.context nil (x ++ y ∷ []) (acted (meaning c.args.machine.now.room) c.args.machine.now.context (Store c.in_ok-name-in-Some.name)))) (λ u. setq (meaning c.args.machine.now.room) c.args.machine.now.context (drop c.args.next (targets (operator_in c.in_ok-form-in-Some.form))) c.in_ok-others-in-Some.others u)) c.new-in-Some.ensures
    ∙ ap (λ x. then_do (then_do (meaning c.args.machine.now.room c.args.machine.now.context c.in-Some.first.now (at c.args.machine.now w) t)
    (λ y. collect (meaning c.args.machine.now.room) c.args.machine.now.context nil ([] ++ y ∷ []) (acted (meaning c.args.machine.now.room) c.args.machine.now.context (Store x)))) (λ u. setq (meaning c.args.machine.now.room) c.args.machine.now.context (drop c.args.next (targets (operator_in c.in_ok-form-in-Some.form))) c.in_ok-others-in-Some.others u)) c.in_ok-name-in-Some.ensures
    ∙ ap (λ x. then_do (then_do (meaning c.args.machine.now.room c.args.machine.now.context c.in-Some.first.now (at c.args.machine.now w) t)
    (λ y. collect (meaning c.args.machine.now.room) c.args.machine.now.context nil ([] ++ y ∷ []) (acted (meaning c.args.machine.now.room) c.args.machine.now.context (Store c.args.name.now)))) (λ u. setq (meaning c.args.machine.now.room) c.args.machine.now.context (drop c.args.next (targets (operator_in x))) c.in_ok-others-in-Some.others u)) c.in_ok-form-in-Some.ensures
    ∙ ap (λ x. then_do (then_do (meaning c.args.machine.now.room c.args.machine.now.context c.in-Some.first.now (at c.args.machine.now w) t)
    (λ y. collect (meaning c.args.machine.now.room) c.args.machine.now.context nil ([] ++ y ∷ []) (acted (meaning c.args.machine.now.room) c.args.machine.now.context (Store c.args.name.now)))) (λ u. setq (meaning c.args.machine.now.room) c.args.machine.now.context (drop c.args.next (targets (operator_in c.args.form.now))) x u)) c.in_ok-others-in-Some.ensures
    ∙ sym (ap (λ fs. setq (meaning c.args.machine.now.room) c.args.machine.now.context (c.args.name.now ∷ drop c.args.next (targets (operator_in c.args.form.now))) fs v (at c.args.machine.now w) t) c.in-Some.ensures)
    ∙ h t)
