use Rattle.clos_commentary.specs.clos_system.clos_session.Session.{standing_of}
use Rattle.clos_prompt.specs.WaitingView.{waiting_of}
use Rattle.clos_prompt.specs.inner.Loop.{Stands}
use Rattle.clos_prompt.proofs.prompt.answer_lines.Given as goal

abbrev pub invariant-loop : goal.invariant-loop
invariant-loop g l =
    Stands (g.N.Natives.host l.fn.session.natives) (g.N.Natives.host l.session.natives) (g.I.Read.remaining l.fn.input)
    (g.I.Read.remaining l.input) (standing_of (g.D.Dependents.told l.fn.session.dependents) l.fn.session)
    (standing_of (g.D.Dependents.told l.session.dependents) l.session) (waiting_of l.prompt) (g.W.Write.contents l.fn.output)
    (g.W.Write.contents l.output)
