use Rattle.std.proofs.Common.{◌∙◌}
use Rattle.std.proofs.lemmas.Result.{IfOk-weaker}
use Rattle.clos_commentary.specs.clos_system.clos_session.Session.{standing_of}
use Rattle.clos_prompt.specs.WaitingView.{waiting_of}
use Rattle.clos_prompt.proofs.Going.{answered, none_ran, stops_at, whatever_fails}
use Rattle.clos_prompt.proofs.prompt.answer_forms.Goals as goal

pub returns-in_default-clause-stops : goal.returns-in_default-clause-stops
returns-in_default-clause-stops g c =
    none_ran (g.N.Natives.host c.args.session.now.natives)
    (standing_of (g.D.Dependents.told c.args.session.now.dependents) c.args.session.now) (waiting_of c.args.prompt.now) c.args.line.now

pub returns-in-Ok-perform_forms-clause-answers : goal.returns-in-Ok-perform_forms-clause-answers
returns-in-Ok-perform_forms-clause-answers g c =
    let done = c.in-Ok-perform_forms.ensures.performs in
    IfOk-weaker c.go_on.result _ _ (λ r told. answered (g.N.Natives.host c.args.session.now.natives)
    (standing_of (g.D.Dependents.told c.args.session.now.dependents) c.args.session.now)
    (standing_of (g.D.Dependents.told c.perform_forms.new.session.dependents) c.perform_forms.new.session)
    (waiting_of c.args.prompt.now) (waiting_of r) c.args.line.now c.as_slice-text.result.now (g.W.Write.contents c.args.output.now)
    (g.W.Write.contents c.perform_forms.new.output) (g.W.Write.contents c.go_on.new.output) done.0 c.in-Ok-perform_forms.performed.0
    c.in-Ok-perform_forms.performed.1 c.requires (c.as_slice-text.ensures.value ∙ c.in-Ok.ensures) done.1 done.2 told) c.go_on.ensures

pub returns-in-Ok-perform_forms-clause-stops : goal.returns-in-Ok-perform_forms-clause-stops
returns-in-Ok-perform_forms-clause-stops g c =
    let done = c.in-Ok-perform_forms.ensures.performs in
    whatever_fails c.go_on.result _ (stops_at (g.N.Natives.host c.args.session.now.natives)
    (standing_of (g.D.Dependents.told c.args.session.now.dependents) c.args.session.now)
    (standing_of (g.D.Dependents.told c.perform_forms.new.session.dependents) c.perform_forms.new.session)
    (waiting_of c.args.prompt.now) c.args.line.now c.as_slice-text.result.now (c.as_slice-text.ensures.value ∙ c.in-Ok.ensures)
    (done.0, done.1.out, c.in-Ok-perform_forms.performed.0, done.1.ran))

pub returns-clause-stops : goal.returns-clause-stops
returns-clause-stops g c =
    stops_at (g.N.Natives.host c.args.session.now.natives)
    (standing_of (g.D.Dependents.told c.args.session.now.dependents) c.args.session.now)
    (standing_of (g.D.Dependents.told c.perform_forms.new.session.dependents) c.perform_forms.new.session)
    (waiting_of c.args.prompt.now) c.args.line.now c.as_slice-text.result.now (c.as_slice-text.ensures.value ∙ c.in-Ok.ensures)
    c.in-Err.ensures.stops
