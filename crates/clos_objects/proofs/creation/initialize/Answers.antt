use Rattle.std.proofs.Common.{[], ◌∷◌, ap, refl, subst, ◌∙◌}
use Rattle.lisp_data.specs.Value.{instance}
use Rattle.lisp_data.specs.ValueView.{value_of}
use Rattle.clos_machine.specs.Fault.{TellsCondition}
use Rattle.clos_machine.specs.clos_meaning.Initialization.{invalid_for, reaching}
use Rattle.clos_machine.specs.clos_world.Class.{class_name}
use Rattle.clos_machine.specs.clos_world.Uses.{uses_of}
use Rattle.clos_machine.specs.clos_world.World.{seen}
use Rattle.clos_method.specs.declared.system.SystemFunction.TheVariants.{InitializeInstance}
use Rattle.clos_machine.specs.clos_meaning.Control.{keeping}
use Rattle.clos_machine.specs.clos_meaning.GenericCalls.{invoked}
use Rattle.clos_machine.specs.Machine.{at}
use Rattle.clos_machine.specs.clos_meaning.Meaning.{meaning}
use Rattle.clos_machine.specs.clos_meaning.Outcome.{gave, then_do}
use Rattle.clos_machine.specs.clos_meaning.Uses.{after_notes}
use Rattle.clos_machine.specs.declared.machine.Machine.{Machine}
use Rattle.clos_objects.proofs.Making.{invalid_new, new_given, storage_initialized, storage_new, valid_new}
use Rattle.clos_objects.proofs.creation.initialize.Goals as goal

pub returns-in_default-clause-leads : goal.returns-in_default-clause-leads
returns-in_default-clause-leads c =
    storage_new c.args.machine.now c.args.machine.now (meaning c.args.machine.now.room) c.args.class.0 c.args.effective.now c.args.initargs c.args.id.0 (seen c.args.world.now)
    (uses_of c.args.world.now) (uses_of c.methods_reached.new.world) (value_of c.t.result) c.t.ensures c.in_default.ensures.refused

pub returns-in-Some-clause-leads : goal.returns-in-Some-clause-leads
returns-in-Some-clause-leads c =
    invalid_new c.args.machine.now c.args.machine.now (meaning c.args.machine.now.room) c.args.class.0 c.args.effective.now c.args.initargs c.args.id.0 (seen c.args.world.now)
    (uses_of c.args.world.now) (uses_of c.methods_reached.new.world) (value_of c.in-Some.name.now) c.refuse.result
    (c.in-Some.ensures
    ∙ new_given c.args.machine.now c.args.machine.now (meaning c.args.machine.now.room) c.args.class.0 c.args.effective.now c.args.initargs c.args.id.0 (seen c.args.world.now) _ _ _ _ _
    (c.methods-methods.ensures ∙ ap (λ w. w.generics.methods) c.methods_reached.ensures.same) c.in-Ok.ensures.reached c.t.ensures c.slots.ensures c.as_slice.ensures)
    (subst (λ w. TellsCondition (invalid_for (value_of c.in-Some.name.now) (class_name w.classes c.args.class.0)) c.refuse.result)
    c.methods_reached.ensures.same c.refuse.ensures)
    (c.in-Ok.ensures.uses ∙ ap (λ v. after_notes (reaching (seen c.args.world.now) InitializeInstance (instance c.args.id.0 ∷ []) c.args.id.0 v) (uses_of c.args.world.now)) c.t.ensures)

pub returns-in_default-push_first-clause-leads : goal.returns-in_default-push_first-clause-leads
returns-in_default-push_first-clause-leads c =
    storage_initialized c.args.machine.now c.args.machine.now (meaning c.args.machine.now.room) c.args.class.0 c.args.effective.now c.args.initargs c.args.id.0 (seen c.args.world.now)
    (uses_of c.args.world.now) (uses_of c.methods_reached.new.world)
    (c.in-Ok.ensures.uses ∙ ap (λ v. after_notes (reaching (seen c.args.world.now) InitializeInstance (instance c.args.id.0 ∷ []) c.args.id.0 v) (uses_of c.args.world.now)) c.t.ensures)

pub returns-clause-leads : goal.returns-clause-leads
returns-clause-leads c =
    let m : Machine = c.args.machine.now in
    valid_new m c.invoke_under.new.machine (meaning m.room) c.args.class.0 c.args.effective.now c.args.initargs c.args.id.0 (seen c.args.world.now)
    (uses_of c.args.world.now) (uses_of c.methods_reached.new.world) c.invoke_under.result
    (c.in_default-invalid_initarg.ensures
    ∙ new_given c.args.machine.now c.args.machine.now (meaning c.args.machine.now.room) c.args.class.0 c.args.effective.now c.args.initargs c.args.id.0 (seen c.args.world.now) _ _ _ _ _
    (c.methods-methods.ensures ∙ ap (λ w. w.generics.methods) c.methods_reached.ensures.same) c.in-Ok.ensures.reached c.t.ensures c.slots.ensures c.as_slice.ensures)
    (c.in-Ok.ensures.uses ∙ ap (λ v. after_notes (reaching (seen c.args.world.now) InitializeInstance (instance c.args.id.0 ∷ []) c.args.id.0 v) (uses_of c.args.world.now)) c.t.ensures)
    (c.invoke_under.ensures.leads (λ u k. then_do (invoked (meaning m.room) InitializeInstance (instance c.args.id.0 ∷ c.args.initargs) u k) (λ v. gave (instance c.args.id.0)))
    (seen c.args.world.now) refl (λ t.
    ap (λ vs. then_do (invoked (meaning m.room) InitializeInstance vs (at m (seen c.args.world.now)) t) (λ u. keeping (meaning m.room) m.context c.new.result (instance c.args.id.0))) c.in-Ok-push_first.ensures
    ∙ ap (λ x. then_do (invoked (meaning m.room) InitializeInstance (instance c.args.id.0 ∷ c.args.initargs) (at m (seen c.args.world.now)) t) (λ u. keeping (meaning m.room) m.context x (instance c.args.id.0))) c.new.ensures))
