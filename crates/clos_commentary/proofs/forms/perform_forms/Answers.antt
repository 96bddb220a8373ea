use Rattle.std.proofs.Common.{◌<◌, [], arith, refl, Ok, Some}
use Rattle.lisp_data.specs.DatumView.{datum_of}
use Rattle.lisp_reader.specs.Answers.{Answers}
use Rattle.clos_ending.specs.clos_system.clos_session.Session.{standing_of}
use Rattle.clos_ending.specs.clos_system.Transcript.{begins}
use Rattle.clos_ending.specs.clos_system.declared.transcript.RunFault.TheVariants.{Write}
use Rattle.clos_ending.proofs.clos_system.Runs.{appends_none, stands_on, fails_after}
use Rattle.clos_commentary.proofs.forms.perform_forms.Goals as goal

pub loop-found-init : goal.loop-found-init
loop-found-init g c = record {
  stays = refl;
  come = record { out = []; ran = begins; appends = appends_none (g.W.Write.contents c.args.output.now) };
  within = omega arith;
  line = refl;
  forms = omega arith;
  conditions = omega arith;
  storages = omega arith;
}

pub loop-found-preserved : goal.loop-found-preserved
loop-found-preserved g c =
    let h : Answers c.args.text.now c.loop-found.at (Ok (Some c.in-Ok-Some.found)) = rw c.in-Ok-Some.field-0-is at c.in-Ok-Some.ensures.answer in
    let lt : c.loop-found.at < c.in-Ok-Some.found.1 = rw c.in-Ok-Some.field-0-is at c.in-Ok-Some.ensures.advances in
    stands_on (g.N.Natives.host c.args.session.now.natives) (g.N.Natives.host c.loop-found.session.natives)
    (g.N.Natives.host c.perform_form.new.session.natives) c.args.echo c.args.text.now
    (standing_of (g.D.Dependents.told c.args.session.now.dependents) c.args.session.now)
    (standing_of (g.D.Dependents.told c.loop-found.session.dependents) c.loop-found.session)
    (standing_of (g.D.Dependents.told c.perform_form.new.session.dependents) c.perform_form.new.session)
    (g.W.Write.contents c.args.output.now) (g.W.Write.contents c.loop-found.output) (g.W.Write.contents c.perform_form.new.output)
    c.loop-found.at c.in-Ok-Some.found.1 c.loop-found.summary c.in-Ok.told.0 c.loop-found.fresh c.in-Ok.told.1
    (datum_of c.in-Ok-Some.found.0)
    c.loop-found.invariant c.in-Ok.ensures.host h.1 lt h.0 c.in-Ok.ensures.performs c.in-Ok.ensures.few.0 c.in-Ok.ensures.few.1
    c.in-Ok.ensures.few.2

pub returns-in-Err-perform_form-clause-stops : goal.returns-in-Err-perform_form-clause-stops
returns-in-Err-perform_form-clause-stops g c =
    let h : Answers c.args.text.now c.loop-found.at (Ok (Some c.in-Ok-Some.found)) = rw c.in-Ok-Some.field-0-is at c.in-Ok-Some.ensures.answer in
    let host = g.N.Natives.host c.args.session.now.natives in
    let now = g.N.Natives.host c.loop-found.session.natives in
    let start = standing_of (g.D.Dependents.told c.args.session.now.dependents) c.args.session.now in
    let from = standing_of (g.D.Dependents.told c.loop-found.session.dependents) c.loop-found.session in
    let end = standing_of (g.D.Dependents.told c.perform_form.new.session.dependents) c.perform_form.new.session in
    let f = fails_after host now c.args.echo c.args.text.now start from end (g.W.Write.contents c.args.output.now)
    (g.W.Write.contents c.loop-found.output) (g.W.Write.contents c.perform_form.new.output) c.loop-found.at c.in-Ok-Some.found.1
    c.loop-found.summary c.loop-found.fresh (datum_of c.in-Ok-Some.found.0) Write c.loop-found.invariant h.1
    c.in-Err-perform_form.ensures.fails in
    (f.0, f.2, f.1, f.3)
