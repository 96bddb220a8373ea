use Rattle.std.proofs.Common.{◌≡◌, ap, map, refl, subst, ◌∙◌}
use Rattle.std.specs.Prelude.{option_map}
use Rattle.lisp_data.specs.ValueView.{value_of}
use Rattle.clos_machine.specs.Fault.{TellsCondition}
use Rattle.clos_machine.specs.clos_meaning.Initialization.{invalid_for}
use Rattle.clos_machine.specs.clos_world.Class.{class_name}
use Rattle.clos_machine.specs.clos_world.Uses.{uses_of}
use Rattle.clos_machine.specs.clos_world.World.{seen}
use Rattle.clos_machine.specs.clos_meaning.Meaning.{meaning}
use Rattle.clos_machine.specs.Machine.{Leads, here}
use Rattle.clos_machine.specs.clos_meaning.SystemMethods.{class_in, shared_initialized}
use Rattle.clos_machine.specs.clos_meaning.Initialization.{reaching}
use Rattle.clos_machine.specs.clos_meaning.Uses.{after_notes}
use Rattle.clos_machine.proofs.Uses.{leads_none}
use Rattle.clos_objects.proofs.Methods.{invalid_shared, no_class_to_share, storage_reached, storage_shared, valid_shared, wrong_given}
use Rattle.clos_objects.proofs.shared.check_shared.Goals as goal

pub returns-in-None-clause-leads : goal.returns-in-None-clause-leads
returns-in-None-clause-leads c =
    leads_none _ (seen c.args.world.now) (uses_of c.args.world.now) (uses_of c.args.world.now) _ c.args.machine.now refl
    (no_class_to_share c.args.machine.now c.args.machine.now (seen c.args.world.now) (meaning c.args.machine.now.room) c.args.function (map value_of c.args.arguments.now)
    (value_of c.args.names.now) (map value_of c.args.initargs.now) c.args.id.0 c.plain.result
    (subst (λ o. option_map (λ p. (p.0.0, p.1)) o ≡ class_in (seen c.args.world.now) c.args.id.0) c.in-None.is c.in_ok-class_in.ensures) c.plain.ensures)

pub returns-in_default-clause-leads : goal.returns-in_default-clause-leads
returns-in_default-clause-leads c =
    storage_shared c.args.machine.now c.args.machine.now (seen c.args.world.now) (meaning c.args.machine.now.room) c.args.function (map value_of c.args.arguments.now)
    (value_of c.args.names.now) (map value_of c.args.initargs.now) c.args.id.0 (c.in-Some.class.0, c.in-Some.effective)
    (subst (λ o. option_map (λ p. (p.0.0, p.1)) o ≡ class_in (seen c.args.world.now) c.args.id.0) c.in-Some.is c.in_ok-class_in.ensures)
    (uses_of c.args.world.now) (uses_of c.methods_reached.new.world) (value_of c.in_ok-given-in-Some.given) c.in_ok-given-in-Some.ensures c.in_default.ensures.refused

pub returns-in-Some-invalid_initarg-clause-leads : goal.returns-in-Some-invalid_initarg-clause-leads
returns-in-Some-invalid_initarg-clause-leads c =
    invalid_shared c.args.machine.now c.args.machine.now (seen c.args.world.now) (meaning c.args.machine.now.room) c.args.function (map value_of c.args.arguments.now)
    (value_of c.args.names.now) (map value_of c.args.initargs.now) c.args.id.0 (c.in-Some.class.0, c.in-Some.effective)
    (subst (λ o. option_map (λ p. (p.0.0, p.1)) o ≡ class_in (seen c.args.world.now) c.args.id.0) c.in-Some.is c.in_ok-class_in.ensures)
    (uses_of c.args.world.now) (uses_of c.methods_reached.new.world) (value_of c.in-Some-invalid_initarg.name.now) c.refuse.result
    (c.in-Some-invalid_initarg.ensures
    ∙ wrong_given c.args.machine.now c.args.machine.now (seen c.args.world.now) (meaning c.args.machine.now.room) c.args.function (map value_of c.args.arguments.now)
    (value_of c.args.names.now) (map value_of c.args.initargs.now) c.args.id.0 c.in-Some.effective _ _ _ _
    (c.methods-methods.ensures ∙ ap (λ w. w.generics.methods) c.methods_reached.ensures.same) c.in-Ok.ensures.reached c.in_ok-given-in-Some.ensures c.slots.ensures)
    (subst (λ w. TellsCondition (invalid_for (value_of c.in-Some-invalid_initarg.name.now) (class_name w.classes c.in-Some.class.0)) c.refuse.result)
    c.methods_reached.ensures.same c.refuse.ensures)
    (c.in-Ok.ensures.uses ∙ ap (λ v. after_notes (reaching (seen c.args.world.now) c.args.function (map value_of c.args.arguments.now) c.args.id.0 v) (uses_of c.args.world.now)) c.in_ok-given-in-Some.ensures)

pub returns-in_default-copy-clause-leads : goal.returns-in_default-copy-clause-leads
returns-in_default-copy-clause-leads c =
    storage_reached c.args.machine.now c.args.machine.now (seen c.args.world.now) (meaning c.args.machine.now.room) c.args.function (map value_of c.args.arguments.now)
    (value_of c.args.names.now) (map value_of c.args.initargs.now) c.args.id.0 (c.in-Some.class.0, c.in-Some.effective)
    (subst (λ o. option_map (λ p. (p.0.0, p.1)) o ≡ class_in (seen c.args.world.now) c.args.id.0) c.in-Some.is c.in_ok-class_in.ensures)
    (uses_of c.args.world.now) (uses_of c.methods_reached.new.world)
    (c.in-Ok.ensures.uses ∙ ap (λ v. after_notes (reaching (seen c.args.world.now) c.args.function (map value_of c.args.arguments.now) c.args.id.0 v) (uses_of c.args.world.now)) c.in_ok-given-in-Some.ensures)

pub returns-in-Ok-copy-clause-leads : goal.returns-in-Ok-copy-clause-leads
returns-in-Ok-copy-clause-leads c =
    valid_shared c.args.machine.now c.initialize_shared.new.machine (seen c.args.world.now) (meaning c.args.machine.now.room) c.args.function (map value_of c.args.arguments.now)
    (value_of c.args.names.now) (map value_of c.args.initargs.now) c.args.id.0 (c.in-Some.class.0, c.in-Some.effective)
    (subst (λ o. option_map (λ p. (p.0.0, p.1)) o ≡ class_in (seen c.args.world.now) c.args.id.0) c.in-Some.is c.in_ok-class_in.ensures)
    (uses_of c.args.world.now) (uses_of c.methods_reached.new.world) (value_of c.in-Ok-copy.names) c.initialize_shared.result
    (c.in_default-invalid_initarg.ensures
    ∙ wrong_given c.args.machine.now c.args.machine.now (seen c.args.world.now) (meaning c.args.machine.now.room) c.args.function (map value_of c.args.arguments.now)
    (value_of c.args.names.now) (map value_of c.args.initargs.now) c.args.id.0 c.in-Some.effective _ _ _ _
    (c.methods-methods.ensures ∙ ap (λ w. w.generics.methods) c.methods_reached.ensures.same) c.in-Ok.ensures.reached c.in_ok-given-in-Some.ensures c.slots.ensures) c.in-Ok-copy.ensures
    (c.in-Ok.ensures.uses ∙ ap (λ v. after_notes (reaching (seen c.args.world.now) c.args.function (map value_of c.args.arguments.now) c.args.id.0 v) (uses_of c.args.world.now)) c.in_ok-given-in-Some.ensures)
    (subst (λ w. Leads (here c.args.machine.now (λ ev env. shared_initialized ev c.args.id.0 (value_of c.in-Ok-copy.names) (map value_of c.args.initargs.now))) w
    c.initialize_shared.result c.initialize_shared.new.machine) c.methods_reached.ensures.same c.initialize_shared.ensures.leads)
