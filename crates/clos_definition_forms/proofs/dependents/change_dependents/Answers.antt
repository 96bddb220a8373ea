use Rattle.std.proofs.Common.{List, [], ◌∷◌, Option, Some, ◌∙◌, subst}
use Rattle.lisp_data.specs.Value.{Val}
use Rattle.clos_eval.specs.Evaluation.{Performs}
use Rattle.clos_definition_forms.specs.Dependents.{values_watched}
use Rattle.clos_eval.specs.clos_machine.clos_world.World.{seen}
use Rattle.clos_making.proofs.clos_effects.Noting.{same_still}
use Rattle.clos_definition_forms.proofs.Kept.{same_before, same_with_values}
use Rattle.clos_definition_forms.proofs.Evaluated.{forms_go_on, forms_not_begun, forms_stop, performs_alone}
use Rattle.clos_definition_forms.proofs.Watched.{values_watched_quiet}
use Rattle.clos_definition_forms.proofs.dependents.change_dependents.Goals as goal

pub returns-in_default-clause-performs : goal.returns-in_default-clause-performs
returns-in_default-clause-performs g c =
    forms_not_begun (g.N.Natives.host c.args.natives.now) (Some c.args.metaobject ∷ Some c.args.dependent ∷ []) (values_watched c.args.change)
    (values_watched_quiet c.args.change) c.args.world.now c.args.steps.now c.args.answers.now.items

pub returns-in-Err-clause-performs : goal.returns-in-Err-clause-performs
returns-in-Err-clause-performs g c =
    let evaluated = c.evaluate_forms.new in
    forms_stop (g.N.Natives.host c.args.natives.now) (Some c.args.metaobject ∷ Some c.args.dependent ∷ []) (values_watched c.args.change)
    (values_watched_quiet c.args.change) c.args.world.now c.args.steps.now c.args.answers.now.items c.deref.result.now
    (c.deref.ensures.value ∙ c.in-Ok.ensures) evaluated.world evaluated.steps evaluated.answers.items c.in-Err.stop c.in-Err.ensures.stop

pub returns-clause-performs : goal.returns-clause-performs
returns-clause-performs g c =
    let host = g.N.Natives.host c.args.natives.now in
    let evaluated = c.evaluate_forms.new in
    let changed = c.change_evaluated.new in
    let values = c.deref-in-Ok-evaluate_forms.result.now in
    forms_go_on host (Some c.args.metaobject ∷ Some c.args.dependent ∷ []) (values_watched c.args.change) (values_watched_quiet c.args.change)
    c.args.world.now c.args.steps.now c.args.answers.now.items c.deref.result.now (c.deref.ensures.value ∙ c.in-Ok.ensures) evaluated.world evaluated.steps
    evaluated.answers.items c.in-Ok-evaluate_forms.values.items c.change_evaluated.result changed.world changed.steps
    c.in-Ok-evaluate_forms.ensures.values
    (subst (λ (l : List (Option Val)). Performs host (values_watched c.args.change l) evaluated.world evaluated.steps evaluated.answers.items
    c.change_evaluated.result changed.world changed.steps evaluated.answers.items) c.deref-in-Ok-evaluate_forms.ensures.value
    (performs_alone host (values_watched c.args.change values) evaluated.world changed.world evaluated.steps changed.steps evaluated.answers.items
    c.change_evaluated.result c.change_evaluated.ensures.answers c.change_evaluated.ensures.kept))

pub returns-clause-undone : goal.returns-clause-undone
returns-clause-undone g c =
    let evaluated = c.evaluate_forms.new in
    same_with_values (g.N.Natives.host c.args.natives.now) c.deref.result.now c.args.world.now evaluated.world c.args.steps.now evaluated.steps
    c.args.answers.now.items evaluated.answers.items c.change_evaluated.new.world c.in-Ok-evaluate_forms.values.items c.change_evaluated.result
    c.in-Ok-evaluate_forms.ensures.values c.change_evaluated.ensures.undone

pub returns-in-Err-clause-undone : goal.returns-in-Err-clause-undone
returns-in-Err-clause-undone g c =
    let evaluated = c.evaluate_forms.new in
    same_before (g.N.Natives.host c.args.natives.now) c.deref.result.now c.args.world.now evaluated.world c.args.steps.now evaluated.steps
    c.args.answers.now.items evaluated.answers.items c.in-Err.stop c.in-Err.ensures.stop

pub returns-in_default-clause-undone : goal.returns-in_default-clause-undone
returns-in_default-clause-undone g c = same_still (seen c.args.world.now)
