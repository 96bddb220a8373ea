use Rattle.std.proofs.Common.{◌<◌, ◌∙◌, [], arith, refl, rules, Ok, Some}
use Rattle.lisp_data.specs.DatumView.{datum_of}
use Rattle.lisp_reader.specs.Answers.{Answers}
use Rattle.clos_session.specs.Session.{standing_of}
use Rattle.clos_system.specs.Transcript.{begins}
use Rattle.clos_system.proofs.Runs.{appends_none, fails_after, fails_between, stands_on}
use Rattle.clos_system.proofs.transcript.run_text.Goals as goal

pub loop-found-init : goal.loop-found-init
loop-found-init g c = record {
  stays = refl;
  come = record { out = []; ran = begins; appends = appends_none (g.W.Write.contents c.args.writer.now) };
  within = omega arith;
  line = refl;
  forms = omega arith;
  conditions = omega arith;
  storages = omega arith;
}

pub loop-found-preserved : goal.loop-found-preserved
loop-found-preserved g c =
    let h : Answers c.args.text.now c.loop-found.at (Ok (Some c.in-Ok-Some.found)) = rw c.in-Ok-Some.field-0-is at c.in-Ok-Some.ensures.answer in
    let lt : c.loop-found.at < c.in-Ok-Some.found.1 = rw c.in-Ok-Some.field-0-is at c.in-Ok-Some.ensures.advances in
    stands_on (g.N.Natives.host c.args.session.now.natives) (g.N.Natives.host c.loop-found.session.natives)
    (g.N.Natives.host c.run_form.new.session.natives) c.args.echo c.args.text.now
    (standing_of (g.D.Dependents.told c.args.session.now.dependents) c.args.session.now) (standing_of (g.D.Dependents.told c.loop-found.session.dependents) c.loop-found.session) (standing_of (g.D.Dependents.told c.run_form.new.session.dependents) c.run_form.new.session)
    (g.W.Write.contents c.args.writer.now) (g.W.Write.contents c.loop-found.writer) (g.W.Write.contents c.run_form.new.writer)
    c.loop-found.at c.in-Ok-Some.found.1 c.loop-found.summary c.in-Ok.performed.summary c.loop-found.fresh c.in-Ok.performed.fresh (datum_of c.in-Ok-Some.found.0)
    c.loop-found.invariant c.in-Ok.ensures.host h.1 lt h.0 c.in-Ok.ensures.performs c.in-Ok.ensures.few.0 c.in-Ok.ensures.few.1
    c.in-Ok.ensures.few.2

pub returns-in-Err-run_form-clause-faults : goal.returns-in-Err-run_form-clause-faults
returns-in-Err-run_form-clause-faults g c =
    let h : Answers c.args.text.now c.loop-found.at (Ok (Some c.in-Ok-Some.found)) = rw c.in-Ok-Some.field-0-is at c.in-Ok-Some.ensures.answer in
    fails_after (g.N.Natives.host c.args.session.now.natives) (g.N.Natives.host c.loop-found.session.natives) c.args.echo c.args.text.now
    (standing_of (g.D.Dependents.told c.args.session.now.dependents) c.args.session.now) (standing_of (g.D.Dependents.told c.loop-found.session.dependents) c.loop-found.session) (standing_of (g.D.Dependents.told c.run_form.new.session.dependents) c.run_form.new.session)
    (g.W.Write.contents c.args.writer.now) (g.W.Write.contents c.loop-found.writer) (g.W.Write.contents c.run_form.new.writer)
    c.loop-found.at c.in-Ok-Some.found.1 c.loop-found.summary c.loop-found.fresh (datum_of c.in-Ok-Some.found.0) c.in-Err-run_form.fault
    c.loop-found.invariant h.1 c.in-Err-run_form.ensures.fails

pub returns-in-Err-run_form-clause-host : goal.returns-in-Err-run_form-clause-host
returns-in-Err-run_form-clause-host g c = c.in-Err-run_form.ensures.host ∙ c.loop-found.invariant.stays

pub returns-in-Err : goal.returns-in-Err
returns-in-Err g c = record {
  finishes = tt;
  faults = (c.loop-found.at, c.loop-found.summary, c.loop-found.invariant.come, search rules, search rules);
  host = c.loop-found.invariant.stays;
}

pub returns-in-Err-Memory-clause-faults : goal.returns-in-Err-Memory-clause-faults
returns-in-Err-Memory-clause-faults g c =
    fails_between (g.N.Natives.host c.args.session.now.natives) (g.N.Natives.host c.loop-found.session.natives) c.args.echo c.args.text.now
    (standing_of (g.D.Dependents.told c.args.session.now.dependents) c.args.session.now)
    (standing_of (g.D.Dependents.told c.loop-found.session.dependents) c.loop-found.session) (g.W.Write.contents c.args.writer.now)
    (g.W.Write.contents c.loop-found.writer) c.loop-found.at c.loop-found.summary c.loop-found.fresh c.loop-found.invariant
