use Rattle.std.proofs.Common.{◌∙◌}
use Rattle.clos_machine.specs.clos_world.World.{seen}
use Rattle.clos_calls.proofs.Settled.{planned}
use Rattle.clos_calls.proofs.bodies.run_planned.Goals as goal

pub returns-clause-leads : goal.returns-clause-leads
returns-clause-leads c =
    planned c.args.machine.now c.replace-saved.result c.replace-saved.new.dest c.replace-outer.result c.replace-outer.new.dest c.args.context c.args.plan
    c.args.body.now (seen c.args.world.now) c.bind_parameters.result c.bind_parameters.new.machine c.replace-saved.ensures.value c.replace-outer.ensures.value
    c.replace-saved.ensures.after (c.replace-outer.ensures.after ∙ c.new.ensures) c.bind_parameters.ensures.leads
