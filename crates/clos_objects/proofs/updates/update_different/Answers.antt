use Rattle.std.proofs.Common.{map, refl}
use Rattle.lisp_data.specs.ValueView.{value_of}
use Rattle.clos_machine.specs.clos_world.Uses.{uses_of}
use Rattle.clos_machine.specs.clos_world.World.{seen}
use Rattle.clos_machine.specs.clos_meaning.Meaning.{meaning}
use Rattle.clos_machine.proofs.Uses.{leads_none}
use Rattle.clos_objects.proofs.Changing.{different_few, different_goes, different_none}
use Rattle.clos_objects.proofs.updates.update_different.Goals as goal

pub returns-in_default-clause-leads : goal.returns-in_default-clause-leads
returns-in_default-clause-leads c =
    leads_none _ (seen c.args.world.now) (uses_of c.args.world.now) (uses_of c.args.world.now) _ c.args.machine.now refl
    (different_few c.args.machine.now c.args.machine.now (meaning c.args.machine.now.room) (value_of c.args.previous.now) (seen c.args.world.now) c.args.arguments.now (map value_of c.args.rest.now) c.requires c.plain.result
    c.in_default.ensures c.plain.ensures)

pub returns-in-Err-clause-leads : goal.returns-in-Err-clause-leads
returns-in-Err-clause-leads c =
    leads_none _ (seen c.args.world.now) (uses_of c.args.world.now) (uses_of c.args.world.now) _ c.args.machine.now refl
    (different_none c.args.machine.now c.args.machine.now (meaning c.args.machine.now.room) (value_of c.args.previous.now) (seen c.args.world.now) c.args.arguments.now (map value_of c.args.rest.now) c.requires
    (value_of c.in-Some.current.now, map value_of c.in-Some.initargs.now) c.in-Some.ensures c.in-Err.stop c.in-Err.ensures)

pub returns-in-Ok-clause-leads : goal.returns-in-Ok-clause-leads
returns-in-Ok-clause-leads c =
    different_goes c.args.machine.now c.update_from.new.machine (meaning c.args.machine.now.room) (value_of c.args.previous.now) (seen c.args.world.now) c.args.arguments.now (map value_of c.args.rest.now) c.requires
    (value_of c.in-Some.current.now, map value_of c.in-Some.initargs.now) c.in-Some.ensures (map value_of c.as_slice-given.result.now) c.in-Ok.copy.0 c.update_from.result (uses_of c.args.world.now) (uses_of c.update_from.new.world)
    c.as_slice-given.ensures c.in-Ok.ensures c.update_from.ensures.leads
