use Rattle.std.proofs.Common.{ap, refl, ◌∙◌}
use Rattle.lisp_prims.specs.Primitive.{truth}
use Rattle.clos_machine.specs.clos_world.clos_store.Store.{slot_found}
use Rattle.clos_machine.specs.clos_world.World.{seen}
use Rattle.clos_method.specs.declared.system.SystemFunction.TheVariants.{SlotMissing}
use Rattle.clos_machine.specs.clos_meaning.GenericCalls.{invoked}
use Rattle.clos_machine.specs.Machine.{at}
use Rattle.clos_machine.specs.clos_meaning.Meaning.{meaning}
use Rattle.clos_machine.specs.clos_meaning.Outcome.{gave, is_true, then_do}
use Rattle.clos_machine.specs.clos_meaning.Slots.{slot_tested}
use Rattle.clos_objects_core.proofs.slots.test.Goals as goal

pub returns-in_ok-arguments-in-None-clause-leads : goal.returns-in_ok-arguments-in-None-clause-leads
returns-in_ok-arguments-in-None-clause-leads c =
    c.invoke_under.ensures.leads (λ w. slot_tested (meaning c.args.machine.now.room) c.args.machine.now.context c.args.id.0 c.args.name.now (slot_found w.store c.args.id.0 c.args.name.now) w) (seen c.args.world.now) refl
    (λ t. ap (λ vs. then_do (invoked (meaning c.args.machine.now.room) SlotMissing vs (at c.args.machine.now (seen c.args.world.now)) t) (λ v. gave (truth (is_true v)))) c.in_ok-arguments-in-None.ensures
    ∙ ap (λ o. slot_tested (meaning c.args.machine.now.room) c.args.machine.now.context c.args.id.0 c.args.name.now o (at c.args.machine.now (seen c.args.world.now)) t)
    (c.in-None.ensures ∙ ap (λ w. slot_found w c.args.id.0 c.args.name.now) c.store.ensures))
