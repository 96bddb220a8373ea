use Rattle.lisp_data.specs.DatumView.{datum_of}
use Rattle.clos_ending.specs.clos_system.clos_session.Session.{standing_of}
use Rattle.clos_ending.proofs.clos_system.Runs.{performed_before}
use Rattle.clos_commentary.proofs.forms.perform_form.Goals as goal

pub returns-in-Err-clause-fails : goal.returns-in-Err-clause-fails
returns-in-Err-clause-fails g c =
    performed_before (g.N.Natives.host c.args.session.now.natives) (datum_of c.args.datum)
    (standing_of (g.D.Dependents.told c.args.session.now.dependents) c.args.session.now)
    (standing_of (g.D.Dependents.told c.run_form.new.session.dependents) c.run_form.new.session) (g.W.Write.contents c.args.output.now)
    (g.W.Write.contents c.run_form.new.writer) c.in-Err.fault c.in-Err.ensures.fails
