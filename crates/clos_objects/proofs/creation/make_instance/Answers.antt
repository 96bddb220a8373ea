use Rattle.clos_machine.specs.clos_world.World.{seen}
use Rattle.clos_machine.specs.clos_meaning.Meaning.{meaning}
use Rattle.clos_objects.proofs.Making.{no_class}
use Rattle.clos_objects.proofs.creation.make_instance.Goals as goal

pub returns-in-None-clause-turns : goal.returns-in-None-clause-turns
returns-in-None-clause-turns c =
    no_class c.args.machine.now c.args.machine.now (meaning c.args.machine.now.room) (seen c.args.world.now) c.args.steps.now c.args.values c.plain.result c.in-None.ensures c.plain.ensures
