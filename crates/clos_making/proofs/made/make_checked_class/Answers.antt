use Rattle.std.proofs.Common.{◌≡◌, ◌∷◌, ◌∙◌, None, ap, arith, length, refl, subst, sym}
use Rattle.clos_machine.specs.clos_world.Uses.{uses_of}
use Rattle.clos_machine.specs.clos_world.World.{seen}
use Rattle.clos_effects.specs.clos_definition.Class.{class_concerned, class_concerned_by, class_refusal, lists_concerned}
use Rattle.clos_making.proofs.Concerned.{uses_as}
use Rattle.clos_making.proofs.Making.{class_is_made}
use Rattle.clos_making.proofs.Hearing.{heard_at}
use Rattle.clos_effects.proofs.Hearing.{unheard}
use Rattle.clos_making.proofs.made.make_checked_class.Goals as goal

pub make_prepared_class-requires-clause-allowed : goal.make_prepared_class-requires-clause-allowed
make_prepared_class-requires-clause-allowed g c =
    let m : c.len.result ≡ length c.args.values.items = omega arith in
    subst (λ n. class_refusal c.args.definition.now n (seen c.prepare_class.new.world) ≡ None) m
    (subst (λ w. class_refusal c.args.definition.now c.len.result w ≡ None) (sym c.in-Ok.ensures.same) c.in-Ok.ensures.allows)

pub returns-in-Ok-clause-answers : goal.returns-in-Ok-clause-answers
returns-in-Ok-clause-answers g c =
    let m : c.len.result ≡ length c.args.values.items = omega arith in
    class_is_made c.args.definition.now (seen c.args.world.now) (seen c.prepare_class.new.world) c.args.steps.now c.args.values.items c.in-Ok.accessors
    c.len.result c.in-Ok.class.0 c.make_prepared_class.new.steps (seen c.make_prepared_class.new.world) c.make_prepared_class.result
    c.in-Ok.ensures.same m c.in-Ok.ensures.allows c.in-Ok.ensures.effect c.in-Ok.ensures.concerned c.in-Ok.ensures.class c.make_prepared_class.ensures.answers

pub returns-in-Ok-clause-heard : goal.returns-in-Ok-clause-heard
returns-in-Ok-clause-heard g c =
    heard_at (g.D.Dependents.told c.args.dependents.now) (g.D.Dependents.told c.make_prepared_class.new.dependents) (seen c.args.world.now)
    (seen c.prepare_class.new.world) (seen c.make_prepared_class.new.world) c.in-Ok.ensures.same c.make_prepared_class.ensures.heard

pub returns-in-Err-clause-heard : goal.returns-in-Err-clause-heard
returns-in-Err-clause-heard g c =
    let told = g.D.Dependents.told c.args.dependents.now in
    unheard told told (seen c.args.world.now) (seen c.prepare_class.new.world) refl (ap (λ x. x.hearing.notices) c.in-Err.ensures.same)

pub returns-in-Ok-clause-uses : goal.returns-in-Ok-clause-uses
returns-in-Ok-clause-uses g c =
    let d = c.args.definition.now in
    let values = c.args.values.items in
    let w = c.args.world.now in
    let v = c.prepare_class.new.world in
    uses_as (class_concerned_by d values c.in-Ok.accessors (seen v)) (class_concerned d values (seen w)) w v c.make_prepared_class.result
    (uses_of c.make_prepared_class.new.world) c.in-Ok.ensures.same c.in-Ok.ensures.kept
    (ap (class_concerned_by d values c.in-Ok.accessors) c.in-Ok.ensures.same ∙ ap (λ l. lists_concerned d values (seen w) ∷ l) c.in-Ok.ensures.concerned)
    c.make_prepared_class.ensures.uses
