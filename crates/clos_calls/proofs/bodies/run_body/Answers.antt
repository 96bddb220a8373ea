use Rattle.std.proofs.Common.{sym, ap, subst, ◌∙◌}
use Rattle.clos_machine.specs.clos_world.World.{seen}
use Rattle.clos_machine.specs.clos_meaning.Bodies.{body_run}
use Rattle.clos_machine.specs.Machine.{Leads, inside}
use Rattle.clos_machine.specs.clos_meaning.Meaning.{meaning}
use Rattle.clos_machine.specs.clos_meaning.Parameters.{required_sources, sources}
use Rattle.clos_calls.proofs.Settled.{plain_sources}
use Rattle.clos_calls.proofs.bodies.run_body.Goals as goal

pub returns-then-requires_only-clause-leads : goal.returns-then-requires_only-clause-leads
returns-then-requires_only-clause-leads c =
    subst (λ ps. Leads (inside c.args.machine.now (body_run (meaning c.args.machine.now.room) c.args.context ps c.args.body.now)) (seen c.args.world.now) c.run_bound.result c.run_bound.new.machine)
    (ap (λ ns. required_sources ns c.args.context.arguments) c.as_slice-names.ensures
    ∙ sym (plain_sources c.args.lambda_list.now c.args.context.arguments (sym c.if-requires_only.true ∙ c.requires_only.ensures))) c.run_bound.ensures.leads

pub returns-clause-leads : goal.returns-clause-leads
returns-clause-leads c =
    subst (λ ps. Leads (inside c.args.machine.now (body_run (meaning c.args.machine.now.room) c.args.context ps c.args.body.now)) (seen c.args.world.now)
    c.run_planned.result c.run_planned.new.machine)
    (c.in_ok-plan.ensures ∙ ap (sources c.args.lambda_list.now) (c.as_slice.ensures ∙ c.arguments.ensures)) c.run_planned.ensures.leads
