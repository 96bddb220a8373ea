use Rattle.std.proofs.Common.{ap, sym, subst}
use Rattle.clos_machine.specs.clos_meaning.Meaning.{meaning, with_amount}
use Rattle.clos_machine.specs.clos_world.Uses.{uses_of}
use Rattle.clos_machine.specs.clos_world.World.{seen}
use Rattle.clos_machine.specs.Machine.{acted, at, here, inside}
use Rattle.clos_machine.specs.Uses.{TurnsBy}
use Rattle.clos_machine.specs.declared.machine.Action.TheVariants.{Amount, ChangePlace}
use Rattle.clos_machine.proofs.Uses.{turns_none_of}
use Rattle.clos_eval.proofs.actions.act.Goals as goal

pub returns-in-Amount-clause-turns : goal.returns-in-Amount-clause-turns
returns-in-Amount-clause-turns c =
    let ev = meaning c.args.machine.now.room in
    let env = c.args.machine.now.context in
    let w = seen c.args.world.now in
    let amount = Amount c.in-Amount.primitive c.in-Amount.target c.in-Amount.form in
    subst (λ a. TurnsBy (here c.args.machine.now (λ ev env. acted ev env a c.args.values)) w c.args.steps.now (uses_of c.args.world.now)
    c.with_amount.result c.with_amount.new.machine w c.args.steps.now (uses_of c.args.world.now)) (sym c.in-Amount.is)
    (turns_none_of (inside c.args.machine.now (acted ev env amount c.args.values)) w c.args.steps.now (uses_of c.args.world.now)
    c.with_amount.result c.with_amount.new.machine
    (c.with_amount.ensures.leads (acted ev env amount c.args.values) w
    (λ t. ap (λ p. with_amount ev env c.in-Amount.form c.args.values (acted ev env (ChangePlace c.in-Amount.primitive p)) (at c.args.machine.now w) t) c.into_inner.ensures)))
