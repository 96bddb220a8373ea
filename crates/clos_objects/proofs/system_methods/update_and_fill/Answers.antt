use Rattle.std.proofs.Common.{◌≡◌, None, ap, subst, sym, ◌∙◌}
use Rattle.clos_machine.specs.clos_world.World.{seen}
use Rattle.clos_machine.specs.Machine.{Turns, here, initargs_in, names_in}
use Rattle.clos_machine.specs.clos_meaning.SystemMethods.{slots_filled}
use Rattle.clos_machine.specs.clos_meaning.Updating.{due, updated}
use Rattle.clos_machine.proofs.Runs.{turns_of_leads}
use Rattle.clos_machine.proofs.Updates.{turns_due}
use Rattle.clos_objects.proofs.system_methods.update_and_fill.Goals as goal

pub returns-in-None-clause-turns : goal.returns-in-None-clause-turns
returns-in-None-clause-turns c =
    turns_due c.args.machine.now c.fill_instance.new.machine (λ ev env. slots_filled ev c.args.id.0 (names_in c.args.arguments.now) (initargs_in c.args.arguments.now)) c.args.id.0 None
    (seen c.args.world.now) c.args.steps.now c.fill_instance.result (seen c.due.new.world) c.args.steps.now
    (subst (λ o. o ≡ due (seen c.args.world.now) c.args.id.0) c.in-None.is c.in_ok-due.ensures.value)
    (subst (λ w. Turns (here c.args.machine.now (λ ev env. slots_filled ev c.args.id.0 (names_in c.args.arguments.now) (initargs_in c.args.arguments.now))) w c.args.steps.now
    c.fill_instance.result c.fill_instance.new.machine (seen c.due.new.world) c.args.steps.now) c.in_ok-due.ensures.same
    (turns_of_leads (here c.args.machine.now (λ ev env. slots_filled ev c.args.id.0 (names_in c.args.arguments.now) (initargs_in c.args.arguments.now))) (seen c.due.new.world)
    c.args.steps.now c.fill_instance.result c.fill_instance.new.machine c.fill_instance.ensures.leads))

pub update-requires : goal.update-requires
update-requires c = ap (λ w. due w c.args.id.0) c.in_ok-due.ensures.same ∙ sym c.in_ok-due.ensures.value ∙ c.in-Some.is

pub returns-in_ok-copy-in-Some-clause-turns : goal.returns-in_ok-copy-in-Some-clause-turns
returns-in_ok-copy-in-Some-clause-turns c =
    subst (λ w. Turns (here c.args.machine.now (λ ev env. updated ev c.args.id.0 (slots_filled ev c.args.id.0 (names_in c.args.arguments.now) (initargs_in c.args.arguments.now)))) w
    c.args.steps.now c.update.result c.update.new.machine (seen c.update.new.world) c.update.new.steps) c.in_ok-due.ensures.same
    (subst (λ vs. Turns (here c.args.machine.now (λ ev env. updated ev c.args.id.0 (slots_filled ev c.args.id.0 (names_in vs) (initargs_in vs)))) (seen c.due.new.world) c.args.steps.now
    c.update.result c.update.new.machine (seen c.update.new.world) c.update.new.steps) c.in_ok-copy-in-Some.ensures c.update.ensures.turns)
