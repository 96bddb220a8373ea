use Rattle.std.proofs.Common.{map}
use Rattle.lisp_data.specs.ValueView.{value_of}
use Rattle.clos_machine.specs.clos_world.World.{seen}
use Rattle.clos_machine.specs.clos_meaning.Meaning.{meaning}
use Rattle.clos_objects_core.proofs.Placing.{called_goes, called_stops, not_two}
use Rattle.clos_objects_core.proofs.slots.call_slot_function.Goals as goal

pub returns-in-None-clause-turns : goal.returns-in-None-clause-turns
returns-in-None-clause-turns c =
    not_two (meaning c.args.machine.now.room) c.args.machine.now.context c.args.machine.now c.args.machine.now c.args.function c.args.values.now (map value_of c.as_slice.result.now)
    c.plain.result (seen c.args.world.now) c.args.steps.now c.in-None.ensures c.as_slice.ensures c.plain.ensures

pub returns-in-Ok-clause-turns : goal.returns-in-Ok-clause-turns
returns-in-Ok-clause-turns c =
    called_goes (meaning c.args.machine.now.room) c.args.machine.now.context c.args.machine.now c.answer.new.machine c.args.function c.args.values.now (map value_of c.as_slice.result.now)
    (value_of c.in-Some.object.now) (value_of c.in-Some.name.now) (c.in-Ok.id, c.in-Ok.name) (seen c.args.world.now) c.args.steps.now c.answer.result (seen c.answer.new.world) c.answer.new.steps
    c.in-Some.ensures c.as_slice.ensures c.in-Ok.ensures c.answer.ensures.turns

pub returns-in-Err-clause-turns : goal.returns-in-Err-clause-turns
returns-in-Err-clause-turns c =
    called_stops (meaning c.args.machine.now.room) c.args.machine.now.context c.args.machine.now c.args.machine.now c.args.function c.args.values.now (map value_of c.as_slice.result.now)
    (value_of c.in-Some.object.now) (value_of c.in-Some.name.now) c.in-Err.stop (seen c.args.world.now) c.args.steps.now c.in-Some.ensures c.as_slice.ensures c.in-Err.ensures
