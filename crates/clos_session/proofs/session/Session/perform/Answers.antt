use Rattle.lisp_data.specs.DatumView.{datum_of}
use Rattle.clos_session.specs.Session.{answers_of, state_of}
use Rattle.clos_perform.proofs.Writing.{writes_more}
use Rattle.clos_session.proofs.Replies.{stops_same}
use Rattle.clos_session.proofs.session.Session.perform.Goals as goal

pub returns-clause-answers : goal.returns-clause-answers
returns-clause-answers g c = c.perform.ensures.performs.answer

pub returns-clause-uses : goal.returns-clause-uses
returns-clause-uses g c = c.perform.ensures.performs.uses

pub returns-clause-written : goal.returns-clause-written
returns-clause-written g c =
    let old = c.args.self.now in
    writes_more (g.N.Natives.host old.natives) (datum_of c.args.datum.now) (state_of old) _ c.args.steps.now _ (answers_of old) _ c.perform.result
    c.perform.ensures.performs.answer

pub returns-clause-refused : goal.returns-clause-refused
returns-clause-refused g c =
    let old = c.args.self.now in
    stops_same (g.N.Natives.host old.natives) (datum_of c.args.datum.now) (state_of old) _ c.args.steps.now _ (answers_of old) _ c.perform.result
    c.perform.ensures.performs.answer c.perform.ensures.undone
