use Rattle.std.proofs.Common.{ap, refl, ◌∙◌}
use Rattle.clos_eval.specs.clos_machine.clos_world.World.{seen}
use Rattle.clos_making.proofs.clos_effects.Noting.{same_as, same_later, same_stopped}
use Rattle.clos_definition_forms.proofs.Defining.{class_evaluated, class_refused}
use Rattle.clos_making.proofs.Hearing.{heard_at}
use Rattle.clos_making.proofs.clos_effects.Hearing.{unheard}
use Rattle.clos_definition_forms.proofs.definition.defclass.Goals as goal

pub returns-in-Err-clause-performs : goal.returns-in-Err-clause-performs
returns-in-Err-clause-performs g c =
    class_refused (g.N.Natives.host c.args.natives.now) c.args.definition.now c.args.world.now c.check_class.new.world c.args.steps.now
    c.args.answers.now.items c.in-Err.stop c.in-Err.ensures.same c.in-Err.ensures.kept c.in-Err.ensures.allows

pub returns-in-Err-clause-heard : goal.returns-in-Err-clause-heard
returns-in-Err-clause-heard g c =
    let told = g.D.Dependents.told c.args.dependents.now in
    unheard told told (seen c.args.world.now) (seen c.check_class.new.world) refl (ap (λ x. x.hearing.notices) c.in-Err.ensures.same)

pub returns-in-Ok-clause-heard : goal.returns-in-Ok-clause-heard
returns-in-Ok-clause-heard g c =
    heard_at (g.D.Dependents.told c.args.dependents.now) (g.D.Dependents.told c.define_checked_class.new.dependents) (seen c.args.world.now)
    (seen c.check_class.new.world) (seen c.define_checked_class.new.world) c.in-Ok.ensures.same c.define_checked_class.ensures.heard

pub returns-in-Ok-clause-performs : goal.returns-in-Ok-clause-performs
returns-in-Ok-clause-performs g c =
    let done = c.define_checked_class.new in
    class_evaluated (g.N.Natives.host c.args.natives.now) c.args.definition.now c.args.world.now c.check_class.new.world c.args.steps.now
    c.args.answers.now.items c.as_slice.result.now done.answers.items done.world done.steps c.define_checked_class.result c.in-Ok.ensures.same
    c.in-Ok.ensures.kept (c.as_slice.ensures ∙ c.in-Ok.ensures.cells) c.in-Ok.ensures.allows c.define_checked_class.ensures.performs

pub returns-in-Err-clause-undone : goal.returns-in-Err-clause-undone
returns-in-Err-clause-undone g c =
    let w = seen c.args.world.now in
    let u = seen c.check_class.new.world in same_stopped w u c.in-Err.stop (same_as w u c.in-Err.ensures.same)

pub returns-in-Ok-clause-undone : goal.returns-in-Ok-clause-undone
returns-in-Ok-clause-undone g c =
    same_later (seen c.args.world.now) (seen c.check_class.new.world) (seen c.define_checked_class.new.world) c.define_checked_class.result
    c.in-Ok.ensures.same c.define_checked_class.ensures.undone
