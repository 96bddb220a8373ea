use Rattle.std.proofs.Common.{◌≡◌, ◌≤◌, ◌∙◌, ◌-◌, ℕ, suc, None, arith, List, [], ◌∷◌, ◌++◌, append_assoc, ap, length, refl, sym, subst}
use Rattle.clos_definition.specs.clos_watch.Watching.{times_told}
use Rattle.clos_meaning.specs.clos_world.clos_hierarchy.Table.{changed}
use Rattle.clos_meaning.specs.clos_world.World.{State, seen}
use Rattle.clos_meaning.specs.clos_world.clos_cache.Cache.{DropsAll, of_classes}
use Rattle.lisp_data.specs.Value.{class}
use Rattle.lisp_data.specs.declared.value.Value.TheVariants.{Class}
use Rattle.clos_definition.specs.Class.{class_concerned_by, class_notices, class_refusal, noting, with_class}
use Rattle.clos_definition.specs.Effect.{concerned_by, of_changes, possible_notices, with_effect}
use Rattle.clos_definition.proofs.Notices.{more_fit}
use Rattle.clos_definition.proofs.clos_world.Heard.{notices_kept}
use Rattle.clos_effects.proofs.Concerned.{effect_dropped, uses_same}
use Rattle.clos_effects.proofs.Noting.{effect_is_made, effect_not_made}
use Rattle.clos_effects.proofs.Hearing.{enough, heard_then, unheard, within}
use Rattle.clos_effects.proofs.effects.make_prepared_class.Goals as goal

pub returns-then-steps-eq0-clause-heard : goal.returns-then-steps-eq0-clause-heard
returns-then-steps-eq0-clause-heard g c =
    let told = g.D.Dependents.told c.args.dependents.now in unheard told told (seen c.args.world.now) (seen c.args.world.now) refl refl

pub returns-in_default-clause-heard : goal.returns-in_default-clause-heard
returns-in_default-clause-heard g c =
    let told = g.D.Dependents.told c.args.dependents.now in unheard told told (seen c.args.world.now) (seen c.args.world.now) refl refl

pub returns-in_default-prepare_to_tell-clause-heard : goal.returns-in_default-prepare_to_tell-clause-heard
returns-in_default-prepare_to_tell-clause-heard g c =
    unheard (g.D.Dependents.told c.args.dependents.now) (g.D.Dependents.told c.prepare_to_tell.new.dependents) (seen c.args.world.now)
    (seen c.prepare_to_tell.new.world) c.prepare_to_tell.ensures.told (ap (λ x. x.hearing.notices) c.prepare_to_tell.ensures.seen)

pub returns-in_default-prepare_to_tell-clause-answers : goal.returns-in_default-prepare_to_tell-clause-answers
returns-in_default-prepare_to_tell-clause-answers g c =
    let w = seen c.args.world.now in
    let d = c.args.definition.now in
    effect_not_made (class_concerned_by d c.args.values.items c.args.accessors w) (class c.args.id.0) (with_class d c.args.values.items (with_effect c.args.accessors (noting (class_notices d w) w))) w
    (seen c.prepare_to_tell.new.world) c.args.steps.now c.prepare_to_tell.ensures.seen

pub make_class-requires-clause-allowed : goal.make_class-requires-clause-allowed
make_class-requires-clause-allowed g c =
    subst (λ x. class_refusal c.args.definition.now (length c.args.values.items) x ≡ None) (sym c.prepare_to_tell.ensures.seen) c.requires.allowed

pub returns-in_default-make_class-clause-answers : goal.returns-in_default-make_class-clause-answers
returns-in_default-make_class-clause-answers g c =
    let w = seen c.args.world.now in
    let d = c.args.definition.now in
    effect_not_made (class_concerned_by d c.args.values.items c.args.accessors w) (class c.args.id.0) (with_class d c.args.values.items (with_effect c.args.accessors (noting (class_notices d w) w))) w
    (seen c.make_class.new.world) c.args.steps.now (c.in_default-make_class.ensures.err ∙ c.prepare_to_tell.ensures.seen)

pub returns-in_default-make_class-clause-heard : goal.returns-in_default-make_class-clause-heard
returns-in_default-make_class-clause-heard g c =
    unheard (g.D.Dependents.told c.args.dependents.now) (g.D.Dependents.told c.prepare_to_tell.new.dependents) (seen c.args.world.now)
    (seen c.make_class.new.world) c.prepare_to_tell.ensures.told
    (ap (λ x. x.hearing.notices) (c.in_default-make_class.ensures.err ∙ c.prepare_to_tell.ensures.seen))

pub tell-requires-clause-within : goal.tell-requires-clause-within
tell-requires-clause-within g c =
    let w = seen c.args.world.now in
    let mid = seen c.prepare_to_tell.new.world in
    let u = seen c.make_class.new.world in
    let same : mid ≡ w = c.prepare_to_tell.ensures.seen in
    let made = c.in-Ok-make_class.ensures.ok in
    let new = class_notices c.args.definition.now mid ++ of_changes c.args.accessors.changes.removals c.args.accessors.changes.definitions c.args.accessors.methods.items mid.generics in
    let counted : c.len-from.result ≡ length mid.hearing.notices =
    c.len-from.ensures ∙ ap length (sym (notices_kept c.prepare_to_tell.new.world.hearing)) in
    within w mid u [] new c.len-from.result same (ap (λ x. x.hearing.notices) made ∙ append_assoc mid.hearing.notices (class_notices c.args.definition.now mid) (of_changes c.args.accessors.changes.removals c.args.accessors.changes.definitions c.args.accessors.methods.items mid.generics)) (ap (λ x. x.hearing.watching) made) counted

pub tell-requires-clause-ready : goal.tell-requires-clause-ready
tell-requires-clause-ready g c = λ p l.
    let w = seen c.args.world.now in
    let mid = seen c.prepare_to_tell.new.world in
    let u = seen c.make_class.new.world in
    let same : mid ≡ w = c.prepare_to_tell.ensures.seen in
    let made = c.in-Ok-make_class.ensures.ok in
    let new = class_notices c.args.definition.now mid ++ of_changes c.args.accessors.changes.removals c.args.accessors.changes.definitions c.args.accessors.methods.items mid.generics in
    let counted : c.len-from.result ≡ length mid.hearing.notices =
    c.len-from.ensures ∙ ap length (sym (notices_kept c.prepare_to_tell.new.world.hearing)) in
    let possible : c.as_slice.result.now ≡ class_notices c.args.definition.now mid ++ possible_notices c.args.accessors mid.generics =
    c.as_slice.ensures ∙ c.in-Ok.ensures
    ∙ ap (λ (x : State). class_notices c.args.definition.now x ++ possible_notices c.args.accessors x.generics) (sym same) in
    let fits : (q : ℕ) → times_told w.hearing.watching new q ≤ times_told w.hearing.watching c.as_slice.result.now q = λ q.
    subst (λ xs. times_told w.hearing.watching new q ≤ times_told w.hearing.watching xs q) (sym possible)
    (more_fit w.hearing.watching q (class_notices c.args.definition.now mid) c.args.accessors.changes.removals c.args.accessors.changes.definitions c.args.accessors.methods.items mid.generics) in
    enough w mid u c.as_slice.result.now new c.len-from.result same (ap (λ x. x.hearing.notices) made ∙ append_assoc mid.hearing.notices (class_notices c.args.definition.now mid) (of_changes c.args.accessors.changes.removals c.args.accessors.changes.definitions c.args.accessors.methods.items mid.generics)) (ap (λ x. x.hearing.watching) made) counted fits p
    (g.D.Dependents.room c.prepare_to_tell.new.dependents p) (c.in-Ok-prepare_to_tell.ensures.ready p l)

pub returns-clause-heard : goal.returns-clause-heard
returns-clause-heard g c =
    let w = seen c.args.world.now in
    let mid = seen c.prepare_to_tell.new.world in
    let u = seen c.make_class.new.world in
    let same : mid ≡ w = c.prepare_to_tell.ensures.seen in
    let made = c.in-Ok-make_class.ensures.ok in
    let new = class_notices c.args.definition.now mid ++ of_changes c.args.accessors.changes.removals c.args.accessors.changes.definitions c.args.accessors.methods.items mid.generics in
    let counted : c.len-from.result ≡ length mid.hearing.notices =
    c.len-from.ensures ∙ ap length (sym (notices_kept c.prepare_to_tell.new.world.hearing)) in
    heard_then w mid u [] new c.len-from.result same (ap (λ x. x.hearing.notices) made ∙ append_assoc mid.hearing.notices (class_notices c.args.definition.now mid) (of_changes c.args.accessors.changes.removals c.args.accessors.changes.definitions c.args.accessors.methods.items mid.generics)) (ap (λ x. x.hearing.watching) made) counted
    (g.D.Dependents.told c.args.dependents.now) (g.D.Dependents.told c.prepare_to_tell.new.dependents) (g.D.Dependents.told c.tell.new.dependents)
    c.prepare_to_tell.ensures.told c.tell.ensures.told

pub returns-clause-answers : goal.returns-clause-answers
returns-clause-answers g c =
    let w = seen c.args.world.now in
    let d = c.args.definition.now in
    let steps : c.args.steps.now ≡ suc (c.args.steps.now - 1) = omega arith in
    effect_is_made (class_concerned_by d c.args.values.items c.args.accessors w) (Class c.args.id) (with_class d c.args.values.items (with_effect c.args.accessors (noting (class_notices d w) w))) w
    (seen c.make_class.new.world) c.args.steps.now (c.args.steps.now - 1) steps
    (c.in-Ok-make_class.ensures.ok
    ∙ ap (λ (x : State). with_class d c.args.values.items (with_effect c.args.accessors (noting (class_notices d x) x))) c.prepare_to_tell.ensures.seen)

pub returns-in_default-make_class-clause-uses : goal.returns-in_default-make_class-clause-uses
returns-in_default-make_class-clause-uses g c =
    uses_same c.prepare_to_tell.new.world c.make_class.new.world c.in_default-make_class.ensures.same c.make_class.ensures.meter ∙ c.prepare_to_tell.ensures.kept

pub returns-clause-uses : goal.returns-clause-uses
returns-clause-uses g c =
    let mid = c.prepare_to_tell.new.world in
    let u = c.make_class.new.world in
    let d = c.args.definition.now in
    let values = c.args.values.items in
    let left : DropsAll (class_concerned_by d values c.args.accessors (seen mid)) mid.cache u.cache =
    subst (λ (l : List ℕ). DropsAll (of_classes l ∷ concerned_by c.args.accessors (seen mid).generics) mid.cache u.cache)
    (ap (λ (x : State). changed (seen mid).classes.table.classes x.classes.table.classes) c.in-Ok-make_class.ensures.ok) c.in-Ok-make_class.ensures.left in
    effect_dropped c.args.world.now mid u (class_concerned_by d values c.args.accessors) c.prepare_to_tell.ensures.seen c.prepare_to_tell.ensures.kept left
    c.make_class.ensures.meter
