use Rattle.std.proofs.Common.{map, refl, subst, sym}
use Rattle.lisp_data.specs.ValueView.{value_of}
use Rattle.clos_machine.specs.clos_world.World.{seen}
use Rattle.clos_machine.specs.Machine.{Leads, inside}
use Rattle.clos_machine.specs.clos_meaning.Meaning.{meaning}
use Rattle.clos_machine.specs.clos_meaning.Slots.{instance_in}
use Rattle.clos_machine.specs.clos_meaning.SystemMethods.{initialize, shared_initialized}
use Rattle.clos_objects.proofs.Methods.{no_instance}
use Rattle.clos_objects.proofs.system_methods.initialize.Goals as goal

pub returns-in-Err-clause-leads : goal.returns-in-Err-clause-leads
returns-in-Err-clause-leads c =
    no_instance c.args.machine.now c.args.machine.now (seen c.args.world.now) (initialize (meaning c.args.machine.now.room) (map value_of c.args.initargs.now))
    (instance_in (value_of c.args.object.now)) c.in-Err.stop (λ d t. refl) c.in-Err.ensures

pub returns-in-Ok-clause-leads : goal.returns-in-Ok-clause-leads
returns-in-Ok-clause-leads c =
    subst (λ d. Leads (inside c.args.machine.now (initialize (meaning c.args.machine.now.room) (map value_of c.args.initargs.now) d)) (seen c.args.world.now)
    c.initialize_shared.result c.initialize_shared.new.machine) (sym c.in-Ok.ensures)
    (subst (λ v. Leads (inside c.args.machine.now (shared_initialized (meaning c.args.machine.now.room) c.in-Ok.id.0 v (map value_of c.args.initargs.now))) (seen c.args.world.now)
    c.initialize_shared.result c.initialize_shared.new.machine) c.t.ensures c.initialize_shared.ensures.leads)
