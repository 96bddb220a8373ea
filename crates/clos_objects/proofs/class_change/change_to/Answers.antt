use Rattle.std.proofs.Common.{◌≡◌, ap, subst, ◌∙◌}
use Rattle.clos_machine.specs.clos_world.Class.{layout}
use Rattle.clos_machine.specs.clos_world.clos_store.Store.{next_instance}
use Rattle.clos_machine.specs.clos_world.World.{class_of_instance, seen}
use Rattle.clos_machine.specs.clos_meaning.ChangeClass.{if_there}
use Rattle.clos_machine.specs.clos_meaning.Meaning.{meaning}
use Rattle.clos_objects.proofs.Changing.{change_full, change_no_layout}
use Rattle.clos_objects.proofs.class_change.change_to.Goals as goal

pub returns-in_default-clause-turns : goal.returns-in_default-clause-turns
returns-in_default-clause-turns c =
    change_full c.args.machine.now c.args.machine.now (meaning c.args.machine.now.room) c.args.id.0 c.args.class.0 c.args.initargs (seen c.args.world.now) c.args.steps.now c.plain.result
    (c.in_default.ensures ∙ ap next_instance c.store.ensures) c.plain.ensures

pub returns-in-None-clause-turns : goal.returns-in-None-clause-turns
returns-in-None-clause-turns c =
    change_no_layout c.args.machine.now c.args.machine.now (meaning c.args.machine.now.room) c.args.id.0 c.args.class.0 c.args.initargs (seen c.args.world.now) c.args.steps.now c.in-Some.copy.0
    c.plain-in-None.result (c.in-Some.ensures ∙ ap next_instance c.store.ensures)
    (subst (λ o. o ≡ if_there (class_of_instance (seen c.args.world.now) c.args.id.0) (layout (seen c.args.world.now).classes c.args.class.0)) c.in-None.is c.in_ok-layout_for.ensures.layout)
    c.plain-in-None.ensures
