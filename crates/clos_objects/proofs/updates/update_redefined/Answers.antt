use Rattle.std.proofs.Common.{map, refl}
use Rattle.lisp_data.specs.ValueView.{value_of}
use Rattle.clos_machine.specs.clos_world.Uses.{uses_of}
use Rattle.clos_machine.specs.clos_world.World.{seen}
use Rattle.clos_machine.specs.clos_meaning.Meaning.{meaning}
use Rattle.clos_machine.proofs.Uses.{leads_none}
use Rattle.clos_objects.proofs.Changing.{redefined_few, redefined_goes, redefined_none}
use Rattle.clos_objects.proofs.updates.update_redefined.Goals as goal

pub returns-in_default-clause-leads : goal.returns-in_default-clause-leads
returns-in_default-clause-leads c =
    leads_none _ (seen c.args.world.now) (uses_of c.args.world.now) (uses_of c.args.world.now) _ c.args.machine.now refl
    (redefined_few c.args.machine.now c.args.machine.now (meaning c.args.machine.now.room) (value_of c.args.object.now) (seen c.args.world.now) c.args.arguments.now (map value_of c.args.rest.now) c.requires c.plain.result
    c.in_default.ensures c.plain.ensures)

pub returns-in-Err-clause-leads : goal.returns-in-Err-clause-leads
returns-in-Err-clause-leads c =
    leads_none _ (seen c.args.world.now) (uses_of c.args.world.now) (uses_of c.args.world.now) _ c.args.machine.now refl
    (redefined_none c.args.machine.now c.args.machine.now (meaning c.args.machine.now.room) (value_of c.args.object.now) (seen c.args.world.now) c.args.arguments.now (map value_of c.args.rest.now) c.requires
    (value_of c.in-Some.names.now, map value_of c.in-Some.initargs.now) c.in-Some.ensures c.in-Err.stop c.in-Err.ensures)

pub returns-in-Ok-clause-leads : goal.returns-in-Ok-clause-leads
returns-in-Ok-clause-leads c =
    redefined_goes c.args.machine.now c.check_shared.new.machine (meaning c.args.machine.now.room) (value_of c.args.object.now) (seen c.args.world.now) c.args.arguments.now (map value_of c.args.rest.now) c.requires
    (value_of c.in-Some.names.now, map value_of c.in-Some.initargs.now) c.in-Some.ensures (map value_of c.as_slice-given.result.now) c.in-Ok.id.0 c.check_shared.result (uses_of c.args.world.now) (uses_of c.check_shared.new.world)
    c.as_slice-given.ensures c.in-Ok.ensures c.check_shared.ensures.leads
