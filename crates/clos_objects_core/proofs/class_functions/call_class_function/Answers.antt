use Rattle.clos_machine.specs.clos_world.World.{seen}
use Rattle.clos_objects_core.proofs.Telling.{told_stops}
use Rattle.clos_objects_core.proofs.class_functions.call_class_function.Goals as goal

pub returns-in-Err-clause-leads : goal.returns-in-Err-clause-leads
returns-in-Err-clause-leads c =
    told_stops c.args.machine.now c.args.machine.now c.args.function c.args.values.now _ c.in-Err.stop (seen c.args.world.now) c.as_slice.ensures c.in-Err.ensures
