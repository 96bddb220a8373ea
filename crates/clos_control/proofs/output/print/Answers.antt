use Rattle.clos_machine.specs.clos_world.Values.{only_value}
use Rattle.clos_machine.specs.clos_world.World.{seen}
use Rattle.clos_machine.proofs.Runs.{nothing_printed}
use Rattle.clos_control.proofs.output.print.Goals as goal

pub returns-in_default-clause-turns : goal.returns-in_default-clause-turns
returns-in_default-clause-turns c =
    nothing_printed c.args.machine.now c.args.output (only_value c.args.values.now) c.plain.result (seen c.args.world.now) c.args.steps.now
    c.in_default.ensures c.plain.ensures
