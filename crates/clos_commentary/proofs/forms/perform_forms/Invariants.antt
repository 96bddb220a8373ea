use Rattle.std.proofs.Common.{◌-◌, length}
use Rattle.clos_ending.specs.clos_system.clos_session.Session.{standing_of}
use Rattle.clos_ending.specs.clos_system.Transcript.{Stands}
use Rattle.clos_commentary.proofs.forms.perform_forms.Given as goal

abbrev pub invariant-loop-found : goal.invariant-loop-found
invariant-loop-found g l =
    Stands (g.N.Natives.host l.fn.session.natives) (g.N.Natives.host l.session.natives) l.echo l.text
    (standing_of (g.D.Dependents.told l.fn.session.dependents) l.fn.session)
    (standing_of (g.D.Dependents.told l.session.dependents) l.session)
    (g.W.Write.contents l.fn.output) (g.W.Write.contents l.output) l.at l.summary l.fresh

abbrev pub decreases-loop-found : goal.decreases-loop-found
decreases-loop-found g l = length l.text - l.at
