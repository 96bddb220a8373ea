use Rattle.clos_machine.specs.Machine.{acted}
use Rattle.std.proofs.Common.{refl}
use Rattle.clos_machine.specs.clos_world.World.{seen}
use Rattle.clos_machine.specs.clos_meaning.Meaning.{collect, meaning}
use Rattle.clos_control.proofs.Taken.{turns_of_took}
use Rattle.clos_control.proofs.arguments.collect_values.Goals as goal

pub returns-clause-turns : goal.returns-clause-turns
returns-clause-turns c =
    turns_of_took c.args.machine.now c.args.action (seen c.args.world.now) c.args.steps.now c.args.forms.now c.args.values c.in-Ok.rest.now
    c.take_values.new.values c.take_values.new.steps c.in-Ok-begin_next.doing c.begin_next.new.machine c.in-Ok.ensures
    (c.in-Ok-begin_next.ensures.leads (λ u k. collect (meaning c.args.machine.now.room) c.args.machine.now.context c.in-Ok.rest.now c.take_values.new.values
    (acted (meaning c.args.machine.now.room) c.args.machine.now.context c.args.action) u k) (seen c.args.world.now) (λ t. refl))
