use Rattle.std.proofs.Common.{ap, ◌∙◌}
use Rattle.clos_machine.specs.clos_world.clos_store.Store.{slot_found}
use Rattle.clos_machine.specs.clos_world.World.{seen}
use Rattle.clos_method.specs.declared.system.SystemFunction.TheVariants.{SlotMissing}
use Rattle.clos_machine.specs.clos_meaning.GenericCalls.{invoked}
use Rattle.clos_machine.specs.Machine.{inside}
use Rattle.clos_machine.specs.clos_meaning.Meaning.{meaning}
use Rattle.clos_machine.specs.clos_meaning.Slots.{slot_read}
use Rattle.clos_objects_core.proofs.slots.read.Goals as goal

pub returns-in_ok-arguments-in-None-clause-leads : goal.returns-in_ok-arguments-in-None-clause-leads
returns-in_ok-arguments-in-None-clause-leads c = λ t.
    ap (λ vs. inside c.args.machine.now (invoked (meaning c.args.machine.now.room) SlotMissing vs) (seen c.args.world.now) t) c.in_ok-arguments-in-None.ensures
    ∙ ap (λ o. inside c.args.machine.now (slot_read (meaning c.args.machine.now.room) c.args.machine.now.context c.args.id.0 c.args.name.now o) (seen c.args.world.now) t)
    (c.in-None.ensures ∙ ap (λ w. slot_found w c.args.id.0 c.args.name.now) c.store.ensures)
