use Rattle.std.proofs.Common.{map, refl}
use Rattle.lisp_data.specs.ValueView.{value_of}
use Rattle.clos_machine.specs.clos_world.World.{seen}
use Rattle.clos_machine.specs.clos_meaning.Meaning.{meaning}
use Rattle.clos_objects_core.proofs.Accessing.{not_both, writes, writes_nothing}
use Rattle.clos_objects_core.proofs.slots.call_writer.Goals as goal

pub returns-in-None-clause-turns : goal.returns-in-None-clause-turns
returns-in-None-clause-turns c =
    not_both (meaning c.args.machine.now.room) c.args.machine.now.context c.args.slot c.args.machine.now c.args.machine.now (map value_of c.args.values.now) (map value_of c.args.values.now)
    c.plain.result (seen c.args.world.now) c.args.steps.now c.in-None.ensures refl c.plain.ensures

pub returns-in-Err-clause-turns : goal.returns-in-Err-clause-turns
returns-in-Err-clause-turns c =
    writes_nothing (meaning c.args.machine.now.room) c.args.machine.now.context c.args.slot c.args.machine.now c.args.machine.now (map value_of c.args.values.now) (map value_of c.args.values.now)
    (value_of c.in-Some.new.now) (value_of c.in-Some.object.now) c.in-Err.stop (seen c.args.world.now) c.args.steps.now c.in-Some.ensures refl c.in-Err.ensures

pub returns-in_ok-given-in-Ok-clause-turns : goal.returns-in_ok-given-in-Ok-clause-turns
returns-in_ok-given-in-Ok-clause-turns c =
    writes (meaning c.args.machine.now.room) c.args.machine.now.context c.args.slot c.args.machine.now c.visit.new.machine (map value_of c.args.values.now)
    (value_of c.in-Some.new.now) (value_of c.in-Some.object.now) (value_of c.in_ok-stored-in-Ok.stored) (value_of c.in_ok-given-in-Ok.given) c.in-Ok.id.0 c.visit.result
    (seen c.args.world.now) c.args.steps.now (seen c.visit.new.world) c.visit.new.steps
    c.in-Some.ensures c.in-Ok.ensures c.in_ok-stored-in-Ok.ensures c.in_ok-given-in-Ok.ensures c.visit.ensures.turns
