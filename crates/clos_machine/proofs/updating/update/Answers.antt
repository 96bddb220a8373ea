use Rattle.std.proofs.Common.{sym}
use Rattle.clos_meaning.specs.clos_world.World.{seen}
use Rattle.clos_machine.proofs.Updates.{not_told, when_told}
use Rattle.clos_machine.proofs.updating.update.Goals as goal

pub returns-in-Err-clause-turns : goal.returns-in-Err-clause-turns
returns-in-Err-clause-turns c =
    not_told c.args.machine.now c.args.machine.now c.args.id.0 c.args.layout.now c.args.visit (seen c.args.world.now) c.args.steps.now c.in-Err.stop
    (sym c.requires) c.in-Err.ensures

pub returns-in-Ok-clause-turns : goal.returns-in-Ok-clause-turns
returns-in-Ok-clause-turns c =
    let new = c.restructure.new in
    when_told c.args.machine.now new.machine c.args.id.0 c.args.layout.now c.args.visit (seen c.args.world.now) c.args.steps.now c.in-Ok.arguments
    c.restructure.result (seen new.world) new.steps (sym c.requires) c.in-Ok.ensures c.restructure.ensures.turns
