use Rattle.std.proofs.Common.{ap, map, refl, ◌∙◌}
use Rattle.lisp_data.specs.ValueView.{value_of}
use Rattle.clos_machine.specs.clos_world.Uses.{uses_of}
use Rattle.clos_machine.specs.clos_world.World.{seen}
use Rattle.clos_machine.specs.clos_meaning.Meaning.{meaning}
use Rattle.clos_machine.specs.clos_meaning.Updating.{names_listed}
use Rattle.clos_machine.proofs.Uses.{leads_none}
use Rattle.clos_objects.proofs.Changing.{names_refused, names_there}
use Rattle.clos_objects.proofs.updates.update_to.Goals as goal

pub returns-in-Err-clause-leads : goal.returns-in-Err-clause-leads
returns-in-Err-clause-leads c =
    leads_none _ (seen c.args.world.now) (uses_of c.args.world.now) (uses_of c.args.world.now) _ c.args.machine.now refl
    (names_refused c.args.machine.now c.args.machine.now (meaning c.args.machine.now.room) (map value_of c.args.arguments.now) (map value_of c.args.initargs.now) c.args.copy.0 (seen c.args.world.now) c.args.id.0
    (names_listed c.as_slice.result.now) c.in-Err.stop (ap names_listed (c.as_slice.ensures.value ∙ c.in_ok-names.ensures)) c.in-Err.ensures)

pub returns-clause-leads : goal.returns-clause-leads
returns-clause-leads c =
    names_there c.args.machine.now c.check_shared.new.machine (meaning c.args.machine.now.room) (map value_of c.args.arguments.now) (map value_of c.args.initargs.now) c.args.copy.0 (seen c.args.world.now) c.args.id.0
    (names_listed c.as_slice.result.now) (value_of c.in-Ok.names) c.check_shared.result (uses_of c.args.world.now) (uses_of c.check_shared.new.world) (ap names_listed (c.as_slice.ensures.value ∙ c.in_ok-names.ensures)) c.in-Ok.ensures
    c.check_shared.ensures.leads
