use Rattle.lisp_data.specs.ValueView.{value_of}
use Rattle.clos_machine.specs.clos_world.World.{seen}
use Rattle.clos_machine.proofs.Runs.{not_changed}
use Rattle.clos_places.proofs.assignment.change_by_value.Goals as goal

pub returns-in-Err-clause-turns : goal.returns-in-Err-clause-turns
returns-in-Err-clause-turns c =
    not_changed c.args.machine.now c.args.primitive c.args.name.now (value_of c.args.amount.now) (seen c.args.world.now) c.args.steps.now c.in-Err.stop
    c.args.machine.now c.in-Err.ensures
