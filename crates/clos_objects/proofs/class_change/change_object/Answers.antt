use Rattle.lisp_data.specs.ValueView.{value_of}
use Rattle.clos_machine.specs.clos_world.World.{seen}
use Rattle.clos_machine.specs.clos_meaning.Meaning.{meaning}
use Rattle.clos_objects.proofs.Changing.{change_no_class, change_no_instance}
use Rattle.clos_objects.proofs.class_change.change_object.Goals as goal

pub returns-in-Err-clause-turns : goal.returns-in-Err-clause-turns
returns-in-Err-clause-turns c =
    change_no_instance c.args.machine.now c.args.machine.now (meaning c.args.machine.now.room) (seen c.args.world.now) c.args.steps.now (value_of c.args.class) c.args.initargs
    (value_of c.args.object) c.in-Err.stop c.in-Err.ensures

pub returns-in-Err-designate-clause-turns : goal.returns-in-Err-designate-clause-turns
returns-in-Err-designate-clause-turns c =
    change_no_class c.args.machine.now c.args.machine.now (meaning c.args.machine.now.room) (seen c.args.world.now) c.args.steps.now (value_of c.args.class) c.args.initargs
    (value_of c.args.object) c.in-Ok.id.0 c.in-Err-designate.stop c.in-Ok.ensures c.in-Err-designate.ensures
