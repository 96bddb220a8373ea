use Rattle.lisp_data.specs.ValueView.{value_of}
use Rattle.clos_machine.specs.clos_world.World.{seen}
use Rattle.clos_machine.specs.Machine.{at}
use Rattle.clos_machine.proofs.Runs.{made_from}
use Rattle.clos_places.proofs.assignment.new_value_of.Goals as goal

pub returns-in-Some : goal.returns-in-Some
returns-in-Some c =
    made_from c.args.primitive c.args.name.now (value_of c.args.amount.now) (at c.args.machine.now (seen c.args.world.now)) (value_of c.in-Some.old.now)
    c.combine.result c.in-Some.ensures (c.combine.ensures (at c.args.machine.now (seen c.args.world.now)))
