use Rattle.std.proofs.Common.{◌∷◌, ap, map, refl, ◌∙◌}
use Rattle.lisp_data.specs.Value.{instance}
use Rattle.lisp_data.specs.ValueView.{value_of}
use Rattle.clos_machine.specs.clos_world.World.{seen}
use Rattle.clos_method.specs.declared.system.SystemFunction.TheVariants.{SharedInitialize}
use Rattle.clos_machine.specs.clos_meaning.Control.{keeping}
use Rattle.clos_machine.specs.clos_meaning.GenericCalls.{invoked}
use Rattle.clos_machine.specs.Machine.{at}
use Rattle.clos_machine.specs.clos_meaning.Meaning.{meaning}
use Rattle.clos_machine.specs.clos_meaning.Outcome.{then_do}
use Rattle.clos_machine.specs.clos_meaning.SystemMethods.{shared_initialized}
use Rattle.clos_machine.specs.declared.machine.Machine.{Machine}
use Rattle.clos_objects.proofs.shared.initialize_shared.Goals as goal

pub returns-clause-leads : goal.returns-clause-leads
returns-clause-leads c =
    let m : Machine = c.args.machine.now in
    c.invoke_under.ensures.leads (shared_initialized (meaning m.room) c.args.id.0 (value_of c.args.names) (map value_of c.args.initargs.now)) (seen c.args.world.now) refl
    (λ t. ap (λ vs. then_do (invoked (meaning m.room) SharedInitialize vs (at m (seen c.args.world.now)) t) (λ u. keeping (meaning m.room) m.context c.new.result (instance c.args.id.0))) c.in_ok-arguments.ensures
    ∙ ap (λ x. then_do (invoked (meaning m.room) SharedInitialize (instance c.args.id.0 ∷ value_of c.args.names ∷ map value_of c.args.initargs.now) (at m (seen c.args.world.now)) t) (λ u. keeping (meaning m.room) m.context x (instance c.args.id.0))) c.new.ensures)
