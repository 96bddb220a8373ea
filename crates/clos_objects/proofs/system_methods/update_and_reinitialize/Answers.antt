use Rattle.std.proofs.Common.{◌≡◌, ◌++◌, None, ap, map, subst, sym, ◌∙◌}
use Rattle.lisp_data.specs.ValueView.{value_of}
use Rattle.clos_machine.specs.clos_world.Uses.{uses_of}
use Rattle.clos_machine.specs.clos_world.World.{seen}
use Rattle.clos_machine.specs.Machine.{Turns, here}
use Rattle.clos_machine.specs.Uses.{LeadsBy}
use Rattle.clos_machine.specs.clos_meaning.SystemMethods.{reinitialize_instance}
use Rattle.clos_machine.specs.clos_meaning.Updating.{due, updated}
use Rattle.clos_machine.proofs.Updates.{turns_due_by}
use Rattle.clos_machine.proofs.Uses.{turns_by, turns_none}
use Rattle.clos_objects.proofs.system_methods.update_and_reinitialize.Goals as goal

pub returns-in-None-clause-turns : goal.returns-in-None-clause-turns
returns-in-None-clause-turns c =
    let again = here c.args.machine.now (λ ev env. reinitialize_instance ev (map value_of c.args.initargs.now) c.args.id.0) in
    turns_due_by c.args.machine.now c.reinitialize_instance.new.machine (λ ev env. reinitialize_instance ev (map value_of c.args.initargs.now) c.args.id.0) c.args.id.0 None
    (seen c.args.world.now) c.args.steps.now (uses_of c.args.world.now) c.reinitialize_instance.result (seen c.reinitialize_instance.new.world) c.args.steps.now (uses_of c.reinitialize_instance.new.world)
    (subst (λ o. o ≡ due (seen c.args.world.now) c.args.id.0) c.in-None.is c.in_ok-due.ensures.value)
    (turns_by again (seen c.args.world.now) (seen c.reinitialize_instance.new.world) c.args.steps.now (uses_of c.args.world.now) (uses_of c.reinitialize_instance.new.world)
    c.reinitialize_instance.result c.reinitialize_instance.new.machine (c.reinitialize_instance.ensures.same ∙ c.in_ok-due.ensures.same)
    (subst (λ w. LeadsBy again w (uses_of c.args.world.now) c.reinitialize_instance.result c.reinitialize_instance.new.machine (uses_of c.reinitialize_instance.new.world)) c.in_ok-due.ensures.same
    (subst (λ u. LeadsBy again (seen c.due.new.world) u c.reinitialize_instance.result c.reinitialize_instance.new.machine (uses_of c.reinitialize_instance.new.world)) c.due.ensures.kept
    c.reinitialize_instance.ensures.leads)))

pub update-requires : goal.update-requires
update-requires c = ap (λ w. due w c.args.id.0) c.in_ok-due.ensures.same ∙ sym c.in_ok-due.ensures.value ∙ c.in-Some.is

pub returns-in_ok-push_all-in-Some-clause-turns : goal.returns-in_ok-push_all-in-Some-clause-turns
returns-in_ok-push_all-in-Some-clause-turns c =
    turns_none (here c.args.machine.now (λ ev env. updated ev c.args.id.0 (reinitialize_instance ev (map value_of c.args.initargs.now) c.args.id.0))) (seen c.args.world.now) c.args.steps.now
    (uses_of c.args.world.now) (uses_of c.update.new.world) c.update.result c.update.new.machine (seen c.update.new.world) c.update.new.steps (c.update.ensures.kept ∙ c.due.ensures.kept)
    (subst (λ w. Turns (here c.args.machine.now (λ ev env. updated ev c.args.id.0 (reinitialize_instance ev (map value_of c.args.initargs.now) c.args.id.0))) w c.args.steps.now
    c.update.result c.update.new.machine (seen c.update.new.world) c.update.new.steps) c.in_ok-due.ensures.same
    (subst (λ vs. Turns (here c.args.machine.now (λ ev env. updated ev c.args.id.0 (reinitialize_instance ev vs c.args.id.0))) (seen c.due.new.world) c.args.steps.now c.update.result c.update.new.machine
    (seen c.update.new.world) c.update.new.steps) (c.in_ok-push_all-in-Some.ensures ∙ ap (λ l. l ++ map value_of c.args.initargs.now) c.new-values.ensures) c.update.ensures.turns))
