use Rattle.std.proofs.Common.{List, [], ◌∷◌, Option, Some, refl, ◌∙◌, subst}
use Rattle.lisp_data.specs.Value.{Val}
use Rattle.clos_eval.specs.Evaluation.{Performs}
use Rattle.clos_eval.specs.clos_machine.clos_world.World.{seen}
use Rattle.clos_making.specs.Made.{values_concerned, values_removed}
use Rattle.clos_making.proofs.clos_effects.Noting.{same_noted, same_still}
use Rattle.clos_definition_forms.proofs.Kept.{same_before, same_with_values}
use Rattle.clos_definition_forms.proofs.Evaluated.{forms_go_on, forms_not_begun, forms_stop, performs_noting}
use Rattle.clos_definition_forms.proofs.Hearing.{heard_with_values, unheard_before}
use Rattle.clos_making.proofs.clos_effects.Hearing.{unheard}
use Rattle.clos_making.proofs.Quiet.{values_removed_quiet}
use Rattle.clos_definition_forms.proofs.definition.remove_method.Goals as goal

pub returns-in_default-clause-performs : goal.returns-in_default-clause-performs
returns-in_default-clause-performs g c =
    forms_not_begun (g.N.Natives.host c.args.natives.now) (Some c.args.function ∷ Some c.args.method ∷ []) values_removed values_removed_quiet c.args.world.now
    c.args.steps.now c.args.answers.now.items

pub returns-in_default-clause-heard : goal.returns-in_default-clause-heard
returns-in_default-clause-heard g c =
    let told = g.D.Dependents.told c.args.dependents.now in unheard told told (seen c.args.world.now) (seen c.args.world.now) refl refl

pub returns-in-Err-clause-performs : goal.returns-in-Err-clause-performs
returns-in-Err-clause-performs g c =
    let evaluated = c.evaluate_forms.new in
    forms_stop (g.N.Natives.host c.args.natives.now) (Some c.args.function ∷ Some c.args.method ∷ []) values_removed values_removed_quiet c.args.world.now
    c.args.steps.now c.args.answers.now.items c.deref.result.now (c.deref.ensures.value ∙ c.in-Ok.ensures) evaluated.world evaluated.steps evaluated.answers.items
    c.in-Err.stop c.in-Err.ensures.stop

pub returns-in-Err-clause-heard : goal.returns-in-Err-clause-heard
returns-in-Err-clause-heard g c =
    let evaluated = c.evaluate_forms.new in
    let told = g.D.Dependents.told c.args.dependents.now in
    unheard_before told told (g.N.Natives.host c.args.natives.now) c.deref.result.now c.args.world.now evaluated.world
    c.args.steps.now evaluated.steps c.args.answers.now.items evaluated.answers.items c.in-Err.stop refl c.in-Err.ensures.stop

pub returns-clause-performs : goal.returns-clause-performs
returns-clause-performs g c =
    let host = g.N.Natives.host c.args.natives.now in
    let evaluated = c.evaluate_forms.new in
    let removed = c.remove_evaluated.new in
    let values = c.deref-in-Ok-evaluate_forms.result.now in
    forms_go_on host (Some c.args.function ∷ Some c.args.method ∷ []) values_removed values_removed_quiet c.args.world.now c.args.steps.now
    c.args.answers.now.items c.deref.result.now (c.deref.ensures.value ∙ c.in-Ok.ensures) evaluated.world evaluated.steps evaluated.answers.items
    c.in-Ok-evaluate_forms.values.items c.remove_evaluated.result removed.world removed.steps c.in-Ok-evaluate_forms.ensures.values
    (subst (λ (l : List (Option Val)). Performs host (values_removed l) evaluated.world evaluated.steps evaluated.answers.items c.remove_evaluated.result
    removed.world removed.steps evaluated.answers.items) c.deref-in-Ok-evaluate_forms.ensures.value
    (performs_noting host (values_removed values) evaluated.world removed.world evaluated.steps removed.steps evaluated.answers.items
    (values_concerned values (seen evaluated.world)) (values_removed_quiet values (seen evaluated.world)) c.remove_evaluated.result c.remove_evaluated.ensures.answers c.remove_evaluated.ensures.uses))

pub returns-clause-heard : goal.returns-clause-heard
returns-clause-heard g c =
    let evaluated = c.evaluate_forms.new in
    heard_with_values (g.D.Dependents.told c.args.dependents.now) (g.D.Dependents.told c.remove_evaluated.new.dependents)
    (g.N.Natives.host c.args.natives.now) c.deref.result.now c.args.world.now evaluated.world
    c.remove_evaluated.new.world
    c.args.steps.now evaluated.steps c.args.answers.now.items evaluated.answers.items c.in-Ok-evaluate_forms.values.items
    c.in-Ok-evaluate_forms.ensures.values c.remove_evaluated.ensures.heard

pub returns-clause-undone : goal.returns-clause-undone
returns-clause-undone g c =
    let evaluated = c.evaluate_forms.new in
    let made = c.remove_evaluated.new in
    let mid = seen evaluated.world in
    same_with_values (g.N.Natives.host c.args.natives.now) c.deref.result.now c.args.world.now evaluated.world c.args.steps.now evaluated.steps
    c.args.answers.now.items evaluated.answers.items made.world c.in-Ok-evaluate_forms.values.items c.remove_evaluated.result c.in-Ok-evaluate_forms.ensures.values
    (same_noted (values_concerned c.deref-in-Ok-evaluate_forms.result.now mid) (values_removed c.deref-in-Ok-evaluate_forms.result.now) mid mid (seen made.world)
    evaluated.steps made.steps c.remove_evaluated.result (same_still mid) c.remove_evaluated.ensures.answers)

pub returns-in-Err-clause-undone : goal.returns-in-Err-clause-undone
returns-in-Err-clause-undone g c =
    let evaluated = c.evaluate_forms.new in
    same_before (g.N.Natives.host c.args.natives.now) c.deref.result.now c.args.world.now evaluated.world c.args.steps.now evaluated.steps
    c.args.answers.now.items evaluated.answers.items c.in-Err.stop c.in-Err.ensures.stop

pub returns-in_default-clause-undone : goal.returns-in_default-clause-undone
returns-in_default-clause-undone g c = same_still (seen c.args.world.now)
