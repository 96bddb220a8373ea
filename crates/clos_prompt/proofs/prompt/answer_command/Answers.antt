use Rattle.std.proofs.Common.{subst}
use Rattle.clos_commentary.specs.clos_system.clos_world.World.{State, seen}
use Rattle.clos_prompt.specs.Command.{AsksNone}
use Rattle.clos_prompt.specs.Request.{Wants}
use Rattle.clos_prompt.specs.declared.command.Request.TheVariants.{Page}
use Rattle.clos_commentary.specs.clos_system.clos_session.Session.{standing_of}
use Rattle.clos_prompt.specs.WaitingView.{waiting_of}
use Rattle.clos_prompt.proofs.Going.{commanded, none_ran}
use Rattle.clos_prompt.proofs.prompt.answer_command.Goals as goal

pub returns-in-Ok-clause-answers : goal.returns-in-Ok-clause-answers
returns-in-Ok-clause-answers g c =
    let shows : Wants (seen c.world.result.now) c.args.line.now (Page c.in-Ok-Page.page) =
    rw c.in-Ok-Page.field-0-is at c.in-Ok-Page.ensures in
    commanded (g.N.Natives.host c.args.session.now.natives)
    (standing_of (g.D.Dependents.told c.args.session.now.dependents) c.args.session.now) (waiting_of c.args.prompt.now)
    (waiting_of c.passed.result) c.args.line.now c.as_slice.result.now (g.W.Write.contents c.args.output.now)
    (g.W.Write.contents c.write.new.output) c.requires
    (subst (λ (w : State). AsksNone w c.args.line.now) c.world.ensures shows) c.in-Ok.ensures c.passed.ensures

pub returns-in-Ok-Page-clause-stops : goal.returns-in-Ok-Page-clause-stops
returns-in-Ok-Page-clause-stops g c =
    none_ran (g.N.Natives.host c.args.session.now.natives)
    (standing_of (g.D.Dependents.told c.args.session.now.dependents) c.args.session.now) (waiting_of c.args.prompt.now) c.args.line.now

pub returns-clause-stops : goal.returns-clause-stops
returns-clause-stops g c =
    none_ran (g.N.Natives.host c.args.session.now.natives)
    (standing_of (g.D.Dependents.told c.args.session.now.dependents) c.args.session.now) (waiting_of c.args.prompt.now) c.args.line.now
