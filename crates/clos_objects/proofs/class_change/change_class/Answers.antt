use Rattle.lisp_data.specs.ValueView.{value_of}
use Rattle.clos_machine.specs.clos_world.World.{seen}
use Rattle.clos_machine.specs.clos_meaning.Meaning.{meaning}
use Rattle.clos_objects.proofs.Changing.{change_none, change_one}
use Rattle.clos_objects.proofs.class_change.change_class.Goals as goal

pub returns-in_default-clause-turns : goal.returns-in_default-clause-turns
returns-in_default-clause-turns c =
    change_none c.args.machine.now c.args.machine.now (meaning c.args.machine.now.room) (seen c.args.world.now) c.args.steps.now c.args.values c.plain.result c.in_default.ensures
    c.plain.ensures

pub returns-in-None-clause-turns : goal.returns-in-None-clause-turns
returns-in-None-clause-turns c =
    change_one c.args.machine.now c.args.machine.now (meaning c.args.machine.now.room) (seen c.args.world.now) c.args.steps.now c.args.values c.take_first.new.self
    (value_of c.in-Some.object) c.plain-in-None.result c.in-Some.ensures c.in-None.ensures c.plain-in-None.ensures
