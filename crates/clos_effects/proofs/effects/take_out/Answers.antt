use Rattle.std.proofs.Common.{◌≡◌, ◌≤◌, ◌∙◌, ℕ, [], ◌∷◌, ap, length, refl, sym}
use Rattle.clos_definition.specs.clos_watch.Watching.{times_told}
use Rattle.clos_meaning.specs.clos_world.World.{seen}
use Rattle.clos_definition.specs.clos_watch.declared.notice.Notice.TheVariants.{MethodRemoved}
use Rattle.clos_definition.specs.Removal.{concerned_by_removal, removal_notices}
use Rattle.clos_definition.proofs.Notices.{removal_fits}
use Rattle.clos_definition.proofs.clos_world.Heard.{notices_kept}
use Rattle.clos_effects.proofs.Concerned.{effect_dropped}
use Rattle.clos_effects.proofs.Hearing.{enough, heard_then, unheard, within}
use Rattle.clos_effects.proofs.effects.take_out.Goals as goal

pub returns-then-steps-eq0-clause-heard : goal.returns-then-steps-eq0-clause-heard
returns-then-steps-eq0-clause-heard g c =
    let told = g.D.Dependents.told c.args.dependents.now in unheard told told (seen c.args.world.now) (seen c.args.world.now) refl refl

pub returns-in_default-clause-heard : goal.returns-in_default-clause-heard
returns-in_default-clause-heard g c =
    unheard (g.D.Dependents.told c.args.dependents.now) (g.D.Dependents.told c.prepare_to_tell.new.dependents) (seen c.args.world.now)
    (seen c.prepare_to_tell.new.world) c.prepare_to_tell.ensures.told (ap (λ x. x.hearing.notices) c.prepare_to_tell.ensures.seen)

pub tell-requires-clause-within : goal.tell-requires-clause-within
tell-requires-clause-within g c =
    let w = seen c.args.world.now in
    let mid = seen c.prepare_to_tell.new.world in
    let u = seen c.remove.new.world in
    let same : mid ≡ w = c.prepare_to_tell.ensures.seen in
    let made = c.remove.ensures.seen in
    let new = removal_notices c.args.generic.0 c.args.method.0 mid.generics in
    let counted : c.len-from.result ≡ length mid.hearing.notices =
    c.len-from.ensures ∙ ap length (sym (notices_kept c.prepare_to_tell.new.world.hearing)) in
    within w mid u [] new c.len-from.result same (ap (λ x. x.hearing.notices) made) (ap (λ x. x.hearing.watching) made) counted

pub tell-requires-clause-ready : goal.tell-requires-clause-ready
tell-requires-clause-ready g c = λ p l.
    let w = seen c.args.world.now in
    let mid = seen c.prepare_to_tell.new.world in
    let u = seen c.remove.new.world in
    let same : mid ≡ w = c.prepare_to_tell.ensures.seen in
    let made = c.remove.ensures.seen in
    let new = removal_notices c.args.generic.0 c.args.method.0 mid.generics in
    let counted : c.len-from.result ≡ length mid.hearing.notices =
    c.len-from.ensures ∙ ap length (sym (notices_kept c.prepare_to_tell.new.world.hearing)) in
    let fits : (q : ℕ) → times_told w.hearing.watching new q ≤ times_told w.hearing.watching (MethodRemoved c.args.generic c.args.method ∷ []) q = λ q.
    removal_fits w.hearing.watching q c.args.generic.0 c.args.method.0 mid.generics in
    enough w mid u (MethodRemoved c.args.generic c.args.method ∷ []) new c.len-from.result same (ap (λ x. x.hearing.notices) made) (ap (λ x. x.hearing.watching) made) counted fits p
    (g.D.Dependents.room c.prepare_to_tell.new.dependents p) (c.in-Ok.ensures.ready p l)

pub returns-clause-heard : goal.returns-clause-heard
returns-clause-heard g c =
    let w = seen c.args.world.now in
    let mid = seen c.prepare_to_tell.new.world in
    let u = seen c.remove.new.world in
    let same : mid ≡ w = c.prepare_to_tell.ensures.seen in
    let made = c.remove.ensures.seen in
    let new = removal_notices c.args.generic.0 c.args.method.0 mid.generics in
    let counted : c.len-from.result ≡ length mid.hearing.notices =
    c.len-from.ensures ∙ ap length (sym (notices_kept c.prepare_to_tell.new.world.hearing)) in
    heard_then w mid u [] new c.len-from.result same (ap (λ x. x.hearing.notices) made) (ap (λ x. x.hearing.watching) made) counted
    (g.D.Dependents.told c.args.dependents.now) (g.D.Dependents.told c.prepare_to_tell.new.dependents) (g.D.Dependents.told c.tell.new.dependents)
    c.prepare_to_tell.ensures.told c.tell.ensures.told

pub returns-clause-uses : goal.returns-clause-uses
returns-clause-uses g c =
    effect_dropped c.args.world.now c.prepare_to_tell.new.world c.remove.new.world
    (λ x. concerned_by_removal c.args.generic.0 c.args.method.0 x.generics) c.prepare_to_tell.ensures.seen c.prepare_to_tell.ensures.kept
    c.remove.ensures.left c.remove.ensures.meter
