use Rattle.clos_machine.specs.clos_world.World.{seen}
use Rattle.clos_objects_core.proofs.Finding.{found_stops}
use Rattle.clos_objects_core.proofs.find_method.call_find_method.Goals as goal

pub returns-in-Err-clause-leads : goal.returns-in-Err-clause-leads
returns-in-Err-clause-leads c =
    found_stops c.args.machine.now c.args.machine.now c.args.values.now _ c.in-Err.stop (seen c.args.world.now) c.as_slice.ensures c.in-Err.ensures
