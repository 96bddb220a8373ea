use Rattle.clos_machine.specs.clos_world.Values.{only_value}
use Rattle.clos_machine.specs.clos_world.World.{seen}
use Rattle.clos_machine.proofs.Runs.{nothing_stored}
use Rattle.clos_places.proofs.assignment.store_only.Goals as goal

pub returns-in-None-clause-turns : goal.returns-in-None-clause-turns
returns-in-None-clause-turns c =
    nothing_stored c.args.machine.now c.args.name.now (only_value c.args.values.now) c.plain.result (seen c.args.world.now) c.args.steps.now c.in-None.ensures c.plain.ensures
