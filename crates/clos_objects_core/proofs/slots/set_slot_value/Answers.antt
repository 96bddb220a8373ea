use Rattle.std.proofs.Common.{map}
use Rattle.lisp_data.specs.ValueView.{value_of}
use Rattle.clos_machine.specs.clos_world.World.{seen}
use Rattle.clos_machine.specs.clos_meaning.Meaning.{meaning}
use Rattle.clos_objects_core.proofs.Placing.{not_three, set_goes, set_stops}
use Rattle.clos_objects_core.proofs.slots.set_slot_value.Goals as goal

pub returns-in-None-clause-turns : goal.returns-in-None-clause-turns
returns-in-None-clause-turns c =
    not_three (meaning c.args.machine.now.room) c.args.machine.now.context c.args.machine.now c.args.machine.now c.args.values.now (map value_of c.as_slice.result.now)
    c.plain.result (seen c.args.world.now) c.args.steps.now c.in-None.ensures c.as_slice.ensures c.plain.ensures

pub returns-in-Err-clause-turns : goal.returns-in-Err-clause-turns
returns-in-Err-clause-turns c =
    set_stops (meaning c.args.machine.now.room) c.args.machine.now.context c.args.machine.now c.args.machine.now c.args.values.now (map value_of c.as_slice.result.now)
    (value_of c.in-Some.object.now) (value_of c.in-Some.name.now) (value_of c.in-Some.value.now) c.in-Err.stop (seen c.args.world.now) c.args.steps.now c.in-Some.ensures c.as_slice.ensures c.in-Err.ensures

pub returns-in_ok-given-in-Ok-clause-turns : goal.returns-in_ok-given-in-Ok-clause-turns
returns-in_ok-given-in-Ok-clause-turns c =
    set_goes (meaning c.args.machine.now.room) c.args.machine.now.context c.args.machine.now c.visit.new.machine c.args.values.now (map value_of c.as_slice.result.now)
    (value_of c.in-Some.object.now) (value_of c.in-Some.name.now) (value_of c.in-Some.value.now) (value_of c.in_ok-stored-in-Ok.stored) (value_of c.in_ok-given-in-Ok.given) (c.in-Ok.id, c.in-Ok.name)
    (seen c.args.world.now) c.args.steps.now c.visit.result (seen c.visit.new.world) c.visit.new.steps
    c.in-Some.ensures c.as_slice.ensures c.in-Ok.ensures c.in_ok-stored-in-Ok.ensures c.in_ok-given-in-Ok.ensures c.visit.ensures.turns
