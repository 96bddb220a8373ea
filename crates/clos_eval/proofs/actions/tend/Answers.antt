use Rattle.std.proofs.Common.{sym, subst}
use Rattle.clos_machine.specs.clos_world.Uses.{uses_of}
use Rattle.clos_machine.specs.clos_world.World.{seen}
use Rattle.clos_machine.specs.Machine.{here, tended}
use Rattle.clos_machine.specs.Uses.{TurnsBy}
use Rattle.clos_machine.proofs.Uses.{turns_none}
use Rattle.clos_eval.proofs.actions.tend.Goals as goal

pub returns-in-Fill-clause-turns : goal.returns-in-Fill-clause-turns
returns-in-Fill-clause-turns c =
    subst (λ a. TurnsBy (here c.args.machine.now (λ ev env. tended ev env a)) (seen c.args.world.now) c.args.steps.now (uses_of c.args.world.now)
    c.fill.result c.fill.new.machine (seen c.fill.new.world) c.fill.new.steps (uses_of c.fill.new.world)) (sym c.in-Fill.is)
    (turns_none _ (seen c.args.world.now) c.args.steps.now (uses_of c.args.world.now) (uses_of c.fill.new.world) c.fill.result c.fill.new.machine
    (seen c.fill.new.world) c.fill.new.steps c.fill.ensures.kept c.fill.ensures.turns)

pub returns-in-FillWith-clause-turns : goal.returns-in-FillWith-clause-turns
returns-in-FillWith-clause-turns c =
    subst (λ a. TurnsBy (here c.args.machine.now (λ ev env. tended ev env a)) (seen c.args.world.now) c.args.steps.now (uses_of c.args.world.now)
    c.fill_with.result c.fill_with.new.machine (seen c.fill_with.new.world) c.fill_with.new.steps (uses_of c.fill_with.new.world)) (sym c.in-FillWith.is)
    (turns_none _ (seen c.args.world.now) c.args.steps.now (uses_of c.args.world.now) (uses_of c.fill_with.new.world) c.fill_with.result c.fill_with.new.machine
    (seen c.fill_with.new.world) c.fill_with.new.steps c.fill_with.ensures.kept c.fill_with.ensures.turns)
