use Rattle.std.proofs.Common.{map, refl}
use Rattle.lisp_data.specs.ValueView.{value_of}
use Rattle.clos_machine.specs.clos_world.Uses.{uses_of}
use Rattle.clos_machine.specs.clos_world.World.{seen}
use Rattle.clos_machine.specs.clos_meaning.Meaning.{meaning}
use Rattle.clos_machine.proofs.Uses.{leads_none}
use Rattle.clos_objects.proofs.Changing.{current_none, current_there}
use Rattle.clos_objects.proofs.updates.update_from.Goals as goal

pub returns-in-Err-clause-leads : goal.returns-in-Err-clause-leads
returns-in-Err-clause-leads c =
    leads_none _ (seen c.args.world.now) (uses_of c.args.world.now) (uses_of c.args.world.now) _ c.args.machine.now refl
    (current_none c.args.machine.now c.args.machine.now (meaning c.args.machine.now.room) (map value_of c.args.arguments.now) (map value_of c.args.initargs.now) c.args.copy.0 (seen c.args.world.now) (value_of c.args.current.now)
    c.in-Err.stop c.in-Err.ensures)

pub returns-in-Ok-clause-leads : goal.returns-in-Ok-clause-leads
returns-in-Ok-clause-leads c =
    current_there c.args.machine.now c.update_to.new.machine (meaning c.args.machine.now.room) (map value_of c.args.arguments.now) (map value_of c.args.initargs.now) c.args.copy.0 (seen c.args.world.now)
    (value_of c.args.current.now) c.in-Ok.id.0 c.update_to.result (uses_of c.args.world.now) (uses_of c.update_to.new.world) c.in-Ok.ensures c.update_to.ensures.leads
