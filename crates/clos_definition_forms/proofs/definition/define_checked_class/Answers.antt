use Rattle.std.proofs.Common.{refl, ◌∙◌}
use Rattle.clos_eval.specs.clos_machine.clos_world.World.{seen}
use Rattle.clos_making.specs.clos_effects.clos_definition.Class.{class_concerned, initforms}
use Rattle.clos_making.specs.Made.{class_made}
use Rattle.clos_making.proofs.clos_effects.Noting.{same_noted, same_still}
use Rattle.clos_definition_forms.proofs.Kept.{same_before, same_with_values}
use Rattle.clos_definition_forms.proofs.Evaluated.{forms_go_on, forms_not_begun, forms_stop, performs_noting}
use Rattle.clos_definition_forms.proofs.Hearing.{heard_with_values, unheard_before}
use Rattle.clos_making.proofs.clos_effects.Hearing.{unheard}
use Rattle.clos_making.proofs.Quiet.{class_made_quiet}
use Rattle.clos_definition_forms.proofs.definition.define_checked_class.Goals as goal

pub returns-in_default-clause-performs : goal.returns-in_default-clause-performs
returns-in_default-clause-performs g c =
    let d = c.args.definition.now in
    forms_not_begun (g.N.Natives.host c.args.natives.now) (initforms c.args.cells.now) (class_made d) (class_made_quiet d) c.args.world.now c.args.steps.now
    c.args.answers.now.items

pub returns-in-Err-clause-performs : goal.returns-in-Err-clause-performs
returns-in-Err-clause-performs g c =
    let d = c.args.definition.now in
    forms_stop (g.N.Natives.host c.args.natives.now) (initforms c.args.cells.now) (class_made d) (class_made_quiet d) c.args.world.now c.args.steps.now
    c.args.answers.now.items c.deref.result.now (c.deref.ensures.value ∙ c.in-Ok.ensures) c.evaluate_forms.new.world c.evaluate_forms.new.steps
    c.evaluate_forms.new.answers.items c.in-Err.stop c.in-Err.ensures.stop

pub returns-clause-performs : goal.returns-clause-performs
returns-clause-performs g c =
    let host = g.N.Natives.host c.args.natives.now in
    let d = c.args.definition.now in
    let evaluated = c.evaluate_forms.new in
    let made = c.make_checked_class.new in
    let values = c.in-Ok-evaluate_forms.values.items in
    forms_go_on host (initforms c.args.cells.now) (class_made d) (class_made_quiet d) c.args.world.now c.args.steps.now c.args.answers.now.items
    c.deref.result.now (c.deref.ensures.value ∙ c.in-Ok.ensures) evaluated.world evaluated.steps evaluated.answers.items values c.make_checked_class.result
    made.world made.steps c.in-Ok-evaluate_forms.ensures.values
    (performs_noting host (class_made d values) evaluated.world made.world evaluated.steps made.steps evaluated.answers.items
    (class_concerned d values (seen evaluated.world)) (class_made_quiet d values (seen evaluated.world)) c.make_checked_class.result c.make_checked_class.ensures.answers c.make_checked_class.ensures.uses)

pub returns-clause-heard : goal.returns-clause-heard
returns-clause-heard g c =
    let evaluated = c.evaluate_forms.new in
    heard_with_values (g.D.Dependents.told c.args.dependents.now) (g.D.Dependents.told c.make_checked_class.new.dependents)
    (g.N.Natives.host c.args.natives.now) c.deref.result.now c.args.world.now evaluated.world c.make_checked_class.new.world
    c.args.steps.now evaluated.steps c.args.answers.now.items evaluated.answers.items c.in-Ok-evaluate_forms.values.items
    c.in-Ok-evaluate_forms.ensures.values c.make_checked_class.ensures.heard

pub returns-in-Err-clause-heard : goal.returns-in-Err-clause-heard
returns-in-Err-clause-heard g c =
    let evaluated = c.evaluate_forms.new in
    let told = g.D.Dependents.told c.args.dependents.now in
    unheard_before told told (g.N.Natives.host c.args.natives.now) c.deref.result.now c.args.world.now evaluated.world
    c.args.steps.now evaluated.steps c.args.answers.now.items evaluated.answers.items c.in-Err.stop refl c.in-Err.ensures.stop

pub returns-in_default-clause-heard : goal.returns-in_default-clause-heard
returns-in_default-clause-heard g c =
    let told = g.D.Dependents.told c.args.dependents.now in unheard told told (seen c.args.world.now) (seen c.args.world.now) refl refl

pub returns-clause-undone : goal.returns-clause-undone
returns-clause-undone g c =
    let evaluated = c.evaluate_forms.new in
    let made = c.make_checked_class.new in
    let mid = seen evaluated.world in
    same_with_values (g.N.Natives.host c.args.natives.now) c.deref.result.now c.args.world.now evaluated.world c.args.steps.now evaluated.steps
    c.args.answers.now.items evaluated.answers.items made.world c.in-Ok-evaluate_forms.values.items c.make_checked_class.result c.in-Ok-evaluate_forms.ensures.values
    (same_noted (class_concerned c.args.definition.now c.in-Ok-evaluate_forms.values.items mid) (class_made c.args.definition.now c.in-Ok-evaluate_forms.values.items) mid mid (seen made.world)
    evaluated.steps made.steps c.make_checked_class.result (same_still mid) c.make_checked_class.ensures.answers)

pub returns-in-Err-clause-undone : goal.returns-in-Err-clause-undone
returns-in-Err-clause-undone g c =
    let evaluated = c.evaluate_forms.new in
    same_before (g.N.Natives.host c.args.natives.now) c.deref.result.now c.args.world.now evaluated.world c.args.steps.now evaluated.steps
    c.args.answers.now.items evaluated.answers.items c.in-Err.stop c.in-Err.ensures.stop

pub returns-in_default-clause-undone : goal.returns-in_default-clause-undone
returns-in_default-clause-undone g c = same_still (seen c.args.world.now)
