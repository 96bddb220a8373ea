use Rattle.std.proofs.Common.{List, subst, sym}
use Rattle.lisp_data.specs.Value.{Val}
use Rattle.clos_machine.specs.clos_world.Uses.{uses_of}
use Rattle.clos_machine.specs.clos_world.World.{seen}
use Rattle.clos_machine.specs.Machine.{here, visited}
use Rattle.clos_machine.specs.Uses.{LeadsBy, TurnsBy}
use Rattle.clos_machine.specs.clos_meaning.Outcome.{Run}
use Rattle.clos_machine.specs.clos_meaning.SystemMethods.{reinitialize_instance}
use Rattle.clos_machine.proofs.Uses.{turns_by, turns_none_of}
use Rattle.clos_eval.proofs.actions.visit.Goals as goal

pub returns-in-Reinitialize-clause-turns : goal.returns-in-Reinitialize-clause-turns
returns-in-Reinitialize-clause-turns c =
    let again : List Val → Run = λ vs. here c.args.machine.now (λ ev env. reinitialize_instance ev vs c.args.id.0) in
    subst (λ v. TurnsBy (here c.args.machine.now (λ ev env. visited ev env c.args.id.0 v)) (seen c.args.world.now) c.args.steps.now (uses_of c.args.world.now) c.reinitialize_instance.result
    c.reinitialize_instance.new.machine (seen c.reinitialize_instance.new.world) c.args.steps.now (uses_of c.reinitialize_instance.new.world)) (sym c.in-Reinitialize.is)
    (turns_by (again c.in-Reinitialize.initargs) (seen c.args.world.now) (seen c.reinitialize_instance.new.world) c.args.steps.now (uses_of c.args.world.now) (uses_of c.reinitialize_instance.new.world)
    c.reinitialize_instance.result c.reinitialize_instance.new.machine c.reinitialize_instance.ensures.same
    (subst (λ vs. LeadsBy (again vs) (seen c.args.world.now) (uses_of c.args.world.now) c.reinitialize_instance.result c.reinitialize_instance.new.machine
    (uses_of c.reinitialize_instance.new.world)) c.as_slice.ensures c.reinitialize_instance.ensures.leads))

pub returns-in-Fill-clause-turns : goal.returns-in-Fill-clause-turns
returns-in-Fill-clause-turns c =
    subst (λ v. TurnsBy (here c.args.machine.now (λ ev env. visited ev env c.args.id.0 v)) (seen c.args.world.now) c.args.steps.now (uses_of c.args.world.now)
    c.fill_instance.result c.fill_instance.new.machine (seen c.args.world.now) c.args.steps.now (uses_of c.args.world.now)) (sym c.in-Fill.is)
    (turns_none_of _ (seen c.args.world.now) c.args.steps.now (uses_of c.args.world.now) c.fill_instance.result c.fill_instance.new.machine c.fill_instance.ensures.leads)
