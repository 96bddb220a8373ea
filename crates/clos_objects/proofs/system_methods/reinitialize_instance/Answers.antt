use Rattle.std.proofs.Common.{[], ◌∷◌, map, subst}
use Rattle.lisp_data.specs.Value.{instance}
use Rattle.lisp_data.specs.ValueView.{value_of}
use Rattle.clos_method.specs.declared.system.SystemFunction.TheVariants.{ReinitializeInstance}
use Rattle.clos_machine.specs.clos_world.Uses.{uses_of}
use Rattle.clos_machine.specs.clos_world.World.{seen}
use Rattle.clos_machine.specs.clos_meaning.SystemMethods.{checked_shared}
use Rattle.clos_machine.specs.Machine.{here}
use Rattle.clos_machine.specs.Uses.{LeadsBy}
use Rattle.clos_objects.proofs.system_methods.reinitialize_instance.Goals as goal

pub returns-clause-leads : goal.returns-clause-leads
returns-clause-leads c =
    subst (λ v. LeadsBy (here c.args.machine.now (λ ev env. checked_shared ev ReinitializeInstance (instance c.args.id.0 ∷ []) v (map value_of c.args.initargs.now) c.args.id.0)) (seen c.args.world.now) (uses_of c.args.world.now)
    c.check_shared.result c.check_shared.new.machine (uses_of c.check_shared.new.world)) c.nil.ensures c.check_shared.ensures.leads
