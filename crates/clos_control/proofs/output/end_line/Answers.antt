use Rattle.clos_machine.specs.clos_world.World.{seen}
use Rattle.clos_machine.proofs.Runs.{line_refused}
use Rattle.clos_control.proofs.output.end_line.Goals as goal

pub returns-in_default-clause-turns : goal.returns-in_default-clause-turns
returns-in_default-clause-turns c =
    line_refused c.args.machine.now c.as_slice.result.now c.args.values.now c.plain.result (seen c.args.world.now) c.args.steps.now
    c.in_default.len_at_least c.as_slice.ensures c.plain.ensures
