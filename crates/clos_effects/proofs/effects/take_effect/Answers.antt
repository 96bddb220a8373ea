use Rattle.std.proofs.Common.{◌≡◌, ◌≤◌, ◌∙◌, ℕ, [], ap, length, refl, sym, subst}
use Rattle.clos_definition.specs.clos_watch.Watching.{times_told}
use Rattle.clos_meaning.specs.clos_world.World.{State, seen}
use Rattle.clos_definition.specs.Effect.{concerned_by, of_changes, possible_notices}
use Rattle.clos_definition.proofs.Notices.{changes_fit}
use Rattle.clos_definition.proofs.clos_world.Heard.{notices_kept}
use Rattle.clos_effects.proofs.Concerned.{effect_dropped}
use Rattle.clos_effects.proofs.Hearing.{enough, heard_then, unheard, within}
use Rattle.clos_effects.proofs.effects.take_effect.Goals as goal

pub returns-then-steps-eq0-clause-heard : goal.returns-then-steps-eq0-clause-heard
returns-then-steps-eq0-clause-heard g c =
    let told = g.D.Dependents.told c.args.dependents.now in unheard told told (seen c.args.world.now) (seen c.args.world.now) refl refl

pub returns-in_default-clause-heard : goal.returns-in_default-clause-heard
returns-in_default-clause-heard g c =
    let told = g.D.Dependents.told c.args.dependents.now in unheard told told (seen c.args.world.now) (seen c.args.world.now) refl refl

pub returns-in_default-prepare_to_tell-clause-heard : goal.returns-in_default-prepare_to_tell-clause-heard
returns-in_default-prepare_to_tell-clause-heard g c =
    unheard (g.D.Dependents.told c.args.dependents.now) (g.D.Dependents.told c.prepare_to_tell.new.dependents) (seen c.args.world.now)
    (seen c.prepare_to_tell.new.world) c.prepare_to_tell.ensures.told (ap (λ x. x.hearing.notices) c.prepare_to_tell.ensures.seen)

pub tell-requires-clause-within : goal.tell-requires-clause-within
tell-requires-clause-within g c =
    let w = seen c.args.world.now in
    let mid = seen c.prepare_to_tell.new.world in
    let u = seen c.make.new.world in
    let same : mid ≡ w = c.prepare_to_tell.ensures.seen in
    let made = c.make.ensures.seen in
    let new = of_changes c.args.effect.changes.removals c.args.effect.changes.definitions c.args.effect.methods.items mid.generics in
    let counted : c.len-from.result ≡ length mid.hearing.notices =
    c.len-from.ensures ∙ ap length (sym (notices_kept c.prepare_to_tell.new.world.hearing)) in
    within w mid u [] new c.len-from.result same (ap (λ x. x.hearing.notices) made) (ap (λ x. x.hearing.watching) made) counted

pub tell-requires-clause-ready : goal.tell-requires-clause-ready
tell-requires-clause-ready g c = λ p l.
    let w = seen c.args.world.now in
    let mid = seen c.prepare_to_tell.new.world in
    let u = seen c.make.new.world in
    let same : mid ≡ w = c.prepare_to_tell.ensures.seen in
    let made = c.make.ensures.seen in
    let new = of_changes c.args.effect.changes.removals c.args.effect.changes.definitions c.args.effect.methods.items mid.generics in
    let counted : c.len-from.result ≡ length mid.hearing.notices =
    c.len-from.ensures ∙ ap length (sym (notices_kept c.prepare_to_tell.new.world.hearing)) in
    let possible : c.as_slice.result.now ≡ possible_notices c.args.effect mid.generics =
    c.as_slice.ensures ∙ c.in-Ok.ensures ∙ ap (λ (x : State). possible_notices c.args.effect x.generics) (sym same) in
    let fits : (q : ℕ) → times_told w.hearing.watching new q ≤ times_told w.hearing.watching c.as_slice.result.now q = λ q.
    subst (λ xs. times_told w.hearing.watching new q ≤ times_told w.hearing.watching xs q) (sym possible)
    (changes_fit w.hearing.watching q c.args.effect.changes.removals c.args.effect.changes.definitions c.args.effect.methods.items mid.generics) in
    enough w mid u c.as_slice.result.now new c.len-from.result same (ap (λ x. x.hearing.notices) made) (ap (λ x. x.hearing.watching) made) counted fits p
    (g.D.Dependents.room c.prepare_to_tell.new.dependents p) (c.in-Ok-prepare_to_tell.ensures.ready p l)

pub returns-clause-heard : goal.returns-clause-heard
returns-clause-heard g c =
    let w = seen c.args.world.now in
    let mid = seen c.prepare_to_tell.new.world in
    let u = seen c.make.new.world in
    let same : mid ≡ w = c.prepare_to_tell.ensures.seen in
    let made = c.make.ensures.seen in
    let new = of_changes c.args.effect.changes.removals c.args.effect.changes.definitions c.args.effect.methods.items mid.generics in
    let counted : c.len-from.result ≡ length mid.hearing.notices =
    c.len-from.ensures ∙ ap length (sym (notices_kept c.prepare_to_tell.new.world.hearing)) in
    heard_then w mid u [] new c.len-from.result same (ap (λ x. x.hearing.notices) made) (ap (λ x. x.hearing.watching) made) counted
    (g.D.Dependents.told c.args.dependents.now) (g.D.Dependents.told c.prepare_to_tell.new.dependents) (g.D.Dependents.told c.tell.new.dependents)
    c.prepare_to_tell.ensures.told c.tell.ensures.told

pub returns-clause-uses : goal.returns-clause-uses
returns-clause-uses g c =
    effect_dropped c.args.world.now c.prepare_to_tell.new.world c.make.new.world (λ x. concerned_by c.args.effect x.generics) c.prepare_to_tell.ensures.seen
    c.prepare_to_tell.ensures.kept c.make.ensures.left c.make.ensures.meter
