use Rattle.lisp_data.specs.ValueView.{value_of}
use Rattle.clos_machine.specs.clos_world.World.{seen}
use Rattle.clos_machine.proofs.Runs.{wrote, not_written}
use Rattle.clos_control.proofs.output.write_giving.Goals as goal

pub returns-in-Ok-clause-turns : goal.returns-in-Ok-clause-turns
returns-in-Ok-clause-turns c =
    wrote c.args.machine.now c.args.bytes.now c.args.value (seen c.args.world.now) c.args.steps.now (seen c.write.new.world) c.write.new.steps
    (c.in-Ok.ensures.changes (value_of c.args.value) c.args.machine.now.locals)

pub returns-in-Err-clause-turns : goal.returns-in-Err-clause-turns
returns-in-Err-clause-turns c =
    not_written c.args.machine.now c.args.bytes.now (value_of c.args.value) (seen c.args.world.now) c.args.steps.now c.in-Err.stop
    (seen c.write.new.world) c.write.new.steps c.args.machine.now (c.in-Err.ensures.changes (value_of c.args.value) c.args.machine.now.locals)
