use Rattle.std.proofs.Common.{◌≡◌, None, ap, subst, sym, ◌∙◌}
use Rattle.clos_machine.specs.clos_world.World.{seen}
use Rattle.clos_machine.specs.Machine.{Turns, here}
use Rattle.clos_machine.specs.clos_meaning.ChangeClass.{changed_to}
use Rattle.clos_machine.specs.clos_meaning.Updating.{due, updated}
use Rattle.clos_machine.proofs.Updates.{turns_due}
use Rattle.clos_objects.proofs.class_change.update_and_change.Goals as goal

pub returns-in-None-clause-turns : goal.returns-in-None-clause-turns
returns-in-None-clause-turns c =
    turns_due c.args.machine.now c.change_to.new.machine (λ ev env. changed_to ev c.args.id.0 c.args.class.0 c.args.initargs) c.args.id.0 None (seen c.args.world.now) c.args.steps.now
    c.change_to.result (seen c.change_to.new.world) c.change_to.new.steps (subst (λ o. o ≡ due (seen c.args.world.now) c.args.id.0) c.in-None.is c.in_ok-due.ensures.value)
    (subst (λ w. Turns (here c.args.machine.now (λ ev env. changed_to ev c.args.id.0 c.args.class.0 c.args.initargs)) w c.args.steps.now c.change_to.result c.change_to.new.machine
    (seen c.change_to.new.world) c.change_to.new.steps) c.in_ok-due.ensures.same c.change_to.ensures.turns)

pub update-requires : goal.update-requires
update-requires c = ap (λ w. due w c.args.id.0) c.in_ok-due.ensures.same ∙ sym c.in_ok-due.ensures.value ∙ c.in-Some.is

pub returns-in-Some-clause-turns : goal.returns-in-Some-clause-turns
returns-in-Some-clause-turns c =
    subst (λ w. Turns (here c.args.machine.now (λ ev env. updated ev c.args.id.0 (changed_to ev c.args.id.0 c.args.class.0 c.args.initargs))) w c.args.steps.now c.update.result c.update.new.machine
    (seen c.update.new.world) c.update.new.steps) c.in_ok-due.ensures.same c.update.ensures.turns
