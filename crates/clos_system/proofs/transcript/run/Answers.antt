use Rattle.clos_session.specs.Session.{standing_of}
use Rattle.clos_system.proofs.Runs.{source_fails, text_faults}
use Rattle.clos_system.proofs.transcript.run.Goals as goal

pub returns-in-Err-clause-faults : goal.returns-in-Err-clause-faults
returns-in-Err-clause-faults g c =
    source_fails (g.N.Natives.host c.args.session.now.natives) c.args.echo (g.R.Read.remaining c.args.reader.now)
    (standing_of (g.D.Dependents.told c.args.session.now.dependents) c.args.session.now)
    (g.W.Write.contents c.args.writer.now) c.in-Err.fault c.in-Err.ensures.fails

pub returns-in-Ok-clause-faults : goal.returns-in-Ok-clause-faults
returns-in-Ok-clause-faults g c =
    text_faults (g.N.Natives.host c.args.session.now.natives) c.args.echo (g.R.Read.remaining c.args.reader.now) c.as_slice.result.now
    c.in-Ok.source.items
    (standing_of (g.D.Dependents.told c.args.session.now.dependents) c.args.session.now) (standing_of (g.D.Dependents.told c.run_text.new.session.dependents) c.run_text.new.session) (g.W.Write.contents c.args.writer.now)
    (g.W.Write.contents c.run_text.new.writer)
    c.run_text.result c.as_slice.ensures.value c.in-Ok.ensures.whole.0 c.in-Ok.ensures.whole.1 c.run_text.ensures.faults
