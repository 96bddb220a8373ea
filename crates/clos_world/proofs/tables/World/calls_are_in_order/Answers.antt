use Rattle.clos_world.specs.World.{seen}
use Rattle.clos_world.proofs.InOrder.{calls_are_in_order}
use Rattle.clos_world.proofs.tables.World.calls_are_in_order.Goals as goal

pub returns : goal.returns
returns c = calls_are_in_order (seen c.args.self.now) c.are_sound.ensures
