use Rattle.std.proofs.Common.{List, Option, map, refl, ◌∙◌, subst}
use Rattle.lisp_data.specs.Value.{Val}
use Rattle.clos_eval.specs.Evaluation.{Performs}
use Rattle.clos_eval.specs.clos_machine.clos_world.World.{seen}
use Rattle.clos_making.specs.clos_effects.clos_definition.Method.{eql_form, method_concerned}
use Rattle.clos_making.specs.Made.{method_made}
use Rattle.clos_making.proofs.clos_effects.Noting.{same_noted, same_still}
use Rattle.clos_definition_forms.proofs.Kept.{same_before, same_with_values}
use Rattle.clos_definition_forms.proofs.Evaluated.{forms_go_on, forms_not_begun, forms_stop, performs_noting}
use Rattle.clos_making.proofs.Quiet.{method_made_quiet}
use Rattle.clos_definition_forms.proofs.Hearing.{heard_with_values, unheard_before}
use Rattle.clos_making.proofs.clos_effects.Hearing.{unheard}
use Rattle.clos_definition_forms.proofs.definition.define_checked_method.Goals as goal

pub returns-in_default-clause-performs : goal.returns-in_default-clause-performs
returns-in_default-clause-performs g c =
    forms_not_begun (g.N.Natives.host c.args.natives.now) (map eql_form c.args.definition.specializers) (method_made c.args.name c.args.definition) (method_made_quiet c.args.name c.args.definition) c.args.world.now
    c.args.steps.now c.args.answers.now.items

pub returns-in-Err-clause-performs : goal.returns-in-Err-clause-performs
returns-in-Err-clause-performs g c =
    forms_stop (g.N.Natives.host c.args.natives.now) (map eql_form c.args.definition.specializers) (method_made c.args.name c.args.definition) (method_made_quiet c.args.name c.args.definition) c.args.world.now
    c.args.steps.now c.args.answers.now.items c.deref.result.now (c.deref.ensures.value ∙ c.in-Ok.ensures) c.evaluate_forms.new.world c.evaluate_forms.new.steps
    c.evaluate_forms.new.answers.items c.in-Err.stop c.in-Err.ensures.stop

pub returns-in-Ok-evaluate_forms-clause-performs : goal.returns-in-Ok-evaluate_forms-clause-performs
returns-in-Ok-evaluate_forms-clause-performs g c =
    let host = g.N.Natives.host c.args.natives.now in
    let evaluated = c.evaluate_forms.new in
    let made = c.make_method.new in
    let values = c.deref-in-Ok-evaluate_forms.result.now in
    forms_go_on host (map eql_form c.args.definition.specializers) (method_made c.args.name c.args.definition) (method_made_quiet c.args.name c.args.definition) c.args.world.now c.args.steps.now
    c.args.answers.now.items c.deref.result.now (c.deref.ensures.value ∙ c.in-Ok.ensures) evaluated.world evaluated.steps evaluated.answers.items
    c.in-Ok-evaluate_forms.values.items c.make_method.result made.world made.steps c.in-Ok-evaluate_forms.ensures.values
    (subst (λ (l : List (Option Val)). Performs host (method_made c.args.name c.args.definition l) evaluated.world evaluated.steps evaluated.answers.items c.make_method.result
    made.world made.steps evaluated.answers.items) c.deref-in-Ok-evaluate_forms.ensures.value
    (performs_noting host (method_made c.args.name c.args.definition values) evaluated.world made.world evaluated.steps made.steps evaluated.answers.items
    (method_concerned c.args.name c.args.definition values (seen evaluated.world)) (method_made_quiet c.args.name c.args.definition values (seen evaluated.world)) c.make_method.result c.make_method.ensures.answers c.make_method.ensures.uses))

pub returns-in-Ok-evaluate_forms-clause-heard : goal.returns-in-Ok-evaluate_forms-clause-heard
returns-in-Ok-evaluate_forms-clause-heard g c =
    let evaluated = c.evaluate_forms.new in
    heard_with_values (g.D.Dependents.told c.args.dependents.now) (g.D.Dependents.told c.make_method.new.dependents)
    (g.N.Natives.host c.args.natives.now) c.deref.result.now c.args.world.now evaluated.world c.make_method.new.world
    c.args.steps.now evaluated.steps c.args.answers.now.items evaluated.answers.items c.in-Ok-evaluate_forms.values.items
    c.in-Ok-evaluate_forms.ensures.values c.make_method.ensures.heard

pub returns-in-Err-clause-heard : goal.returns-in-Err-clause-heard
returns-in-Err-clause-heard g c =
    let evaluated = c.evaluate_forms.new in
    let told = g.D.Dependents.told c.args.dependents.now in
    unheard_before told told (g.N.Natives.host c.args.natives.now) c.deref.result.now c.args.world.now evaluated.world
    c.args.steps.now evaluated.steps c.args.answers.now.items evaluated.answers.items c.in-Err.stop refl c.in-Err.ensures.stop

pub returns-in_default-clause-heard : goal.returns-in_default-clause-heard
returns-in_default-clause-heard g c =
    let told = g.D.Dependents.told c.args.dependents.now in unheard told told (seen c.args.world.now) (seen c.args.world.now) refl refl

pub returns-in-Ok-evaluate_forms-clause-undone : goal.returns-in-Ok-evaluate_forms-clause-undone
returns-in-Ok-evaluate_forms-clause-undone g c =
    let evaluated = c.evaluate_forms.new in
    let made = c.make_method.new in
    let mid = seen evaluated.world in
    same_with_values (g.N.Natives.host c.args.natives.now) c.deref.result.now c.args.world.now evaluated.world c.args.steps.now evaluated.steps
    c.args.answers.now.items evaluated.answers.items made.world c.in-Ok-evaluate_forms.values.items c.make_method.result c.in-Ok-evaluate_forms.ensures.values
    (same_noted (method_concerned c.args.name c.args.definition c.deref-in-Ok-evaluate_forms.result.now mid) (method_made c.args.name c.args.definition c.deref-in-Ok-evaluate_forms.result.now) mid mid (seen made.world)
    evaluated.steps made.steps c.make_method.result (same_still mid) c.make_method.ensures.answers)

pub returns-in-Err-clause-undone : goal.returns-in-Err-clause-undone
returns-in-Err-clause-undone g c =
    let evaluated = c.evaluate_forms.new in
    same_before (g.N.Natives.host c.args.natives.now) c.deref.result.now c.args.world.now evaluated.world c.args.steps.now evaluated.steps
    c.args.answers.now.items evaluated.answers.items c.in-Err.stop c.in-Err.ensures.stop

pub returns-in_default-clause-undone : goal.returns-in_default-clause-undone
returns-in_default-clause-undone g c = same_still (seen c.args.world.now)
