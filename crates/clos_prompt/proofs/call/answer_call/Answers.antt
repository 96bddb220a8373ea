use Rattle.lisp_data.specs.DatumView.{datum_of}
use Rattle.clos_commentary.specs.clos_system.clos_session.Session.{standing_of}
use Rattle.clos_prompt.specs.WaitingView.{waiting_of}
use Rattle.clos_prompt.proofs.Going.{asked, asked_for, failed_in}
use Rattle.clos_prompt.proofs.call.answer_call.Goals as goal

pub returns-in-Err-clause-stops : goal.returns-in-Err-clause-stops
returns-in-Err-clause-stops g c =
    failed_in (g.N.Natives.host c.args.session.now.natives) (datum_of c.args.form)
    (standing_of (g.D.Dependents.told c.args.session.now.dependents) c.args.session.now)
    (standing_of (g.D.Dependents.told c.run_form.new.session.dependents) c.run_form.new.session) (waiting_of c.args.prompt.now)
    c.args.line.now (g.W.Write.contents c.args.output.now) (g.W.Write.contents c.run_form.new.writer) c.in-Err.fault c.requires.command
    c.requires.asks c.in-Err.ensures.fails

pub returns-in-Ok-show-clause-answers : goal.returns-in-Ok-show-clause-answers
returns-in-Ok-show-clause-answers g c =
    asked (g.N.Natives.host c.args.session.now.natives) (datum_of c.args.form)
    (standing_of (g.D.Dependents.told c.args.session.now.dependents) c.args.session.now)
    (standing_of (g.D.Dependents.told c.run_form.new.session.dependents) c.run_form.new.session) (waiting_of c.args.prompt.now)
    (waiting_of c.cleared.result) c.args.line.now (g.W.Write.contents c.args.output.now) (g.W.Write.contents c.run_form.new.writer)
    (g.W.Write.contents c.show.new.output) c.in-Ok.performed.summary c.in-Ok.performed.fresh c.requires.command c.requires.asks
    c.in-Ok.ensures.performs c.in-Ok-show.ensures c.cleared.ensures

pub returns-clause-stops : goal.returns-clause-stops
returns-clause-stops g c =
    asked_for (g.N.Natives.host c.args.session.now.natives) (datum_of c.args.form)
    (standing_of (g.D.Dependents.told c.args.session.now.dependents) c.args.session.now)
    (standing_of (g.D.Dependents.told c.run_form.new.session.dependents) c.run_form.new.session) (waiting_of c.args.prompt.now)
    c.args.line.now (g.W.Write.contents c.args.output.now) (g.W.Write.contents c.run_form.new.writer)
    c.in-Ok.performed.summary c.in-Ok.performed.fresh c.requires.command c.requires.asks c.in-Ok.ensures.performs
