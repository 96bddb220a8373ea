use Rattle.std.proofs.Common.{◌≡◌, None, Some, Err, rules, subst, sym}
use Rattle.lisp_data.specs.ValueView.{value_of}
use Rattle.clos_eval.specs.Evaluation.{GoesOn, Performs, followed}
use Rattle.clos_eval.specs.clos_machine.clos_meaning.Meaning.{evaluation}
use Rattle.clos_eval.specs.clos_machine.clos_world.World.{seen}
use Rattle.clos_definition_forms.specs.Forms.{EndsBefore, form_evaluated}
use Rattle.clos_definition_forms.specs.Variable.{room_below}
use Rattle.clos_definition_forms.proofs.Evaluated.{form_gives, form_stops, no_form}
use Rattle.clos_definition_forms.proofs.forms.evaluate_form.Goals as goal

pub returns-in_default-clause-value : goal.returns-in_default-clause-value
returns-in_default-clause-value g c =
    let host = g.N.Natives.host c.args.natives.now in
    let w = c.args.world.now in
    let s = c.args.steps.now in
    let past = c.args.answers.now.items in
    subst (λ o. GoesOn host (form_evaluated o) w s past c.new.result w s past) (sym c.in_default.is)
    (subst (λ r. GoesOn host (form_evaluated None) w s past r w s past) (sym c.new.ensures) (no_form host w s past))

pub returns-in_err-value-clause-stop : goal.returns-in_err-value-clause-stop
returns-in_err-value-clause-stop g c =
    let host = g.N.Natives.host c.args.natives.now in
    let w = c.args.world.now in
    let s = c.args.steps.now in
    let past = c.args.answers.now.items in
    let n = c.saturating_sub-room.result in
    let u = c.evaluate.new.world in
    let k = c.evaluate.new.steps in
    let past' = c.evaluate.new.answers.items in
    let stop = c.in_err-value.field-0.0 in
    let r : n ≡ room_below (seen w) = search rules in
    let a : Performs host (evaluation n c.in-Some.form) w s past (Err stop) u k past' =
    subst (λ f. Performs host (evaluation n f) w s past (Err stop) u k past') c.in-Ok.ensures c.in_err-value.ensures.performs in
    let h : EndsBefore host (form_evaluated c.args.form.now) w s past stop u k past' =
    subst (λ o. EndsBefore host (form_evaluated o) w s past stop u k past') (sym c.in-Some.is)
    (form_stops host c.in-Some.form n w u s k past past' r stop a) in
    search (rules, h)

pub returns-clause-value : goal.returns-clause-value
returns-clause-value g c =
    let host = g.N.Natives.host c.args.natives.now in
    let w = c.args.world.now in
    let s = c.args.steps.now in
    let past = c.args.answers.now.items in
    let n = c.saturating_sub-room.result in
    let u = c.evaluate.new.world in
    let k = c.evaluate.new.steps in
    let past' = c.evaluate.new.answers.items in
    subst (λ o. GoesOn host (form_evaluated o) w s past c.new-2.result u k past') (sym c.in-Some.is)
    (subst (λ r. GoesOn host (form_evaluated (Some c.in-Some.form)) w s past r u k past') (sym c.new-2.ensures)
    (form_gives host c.in-Some.form n w u s k past past' (search rules) c.in_ok-value.value
    (subst (λ f. GoesOn host (followed (evaluation n f)) w s past (value_of c.in_ok-value.value) u k past') c.in-Ok.ensures c.in_ok-value.ensures.taken)))
