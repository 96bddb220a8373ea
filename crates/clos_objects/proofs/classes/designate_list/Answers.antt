use Rattle.clos_machine.specs.clos_world.World.{seen}
use Rattle.clos_objects.proofs.Designating.{nil_designates}
use Rattle.clos_objects.proofs.classes.designate_list.Goals as goal

pub returns-in-None : goal.returns-in-None
returns-in-None c =
    nil_designates (seen c.args.world.now) c.args.items.now c.fixed.result c.found.result c.in-None.ensures c.fixed.ensures c.found.ensures
