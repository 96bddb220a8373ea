use Rattle.std.proofs.Common.{refl}
use Rattle.clos_eval.specs.clos_machine.clos_world.World.{seen}
use Rattle.clos_making.proofs.clos_effects.Noting.{same_still, same_stopped}
use Rattle.clos_definition_forms.proofs.Defining.{method_evaluated, method_refused}
use Rattle.clos_making.proofs.clos_effects.Hearing.{unheard}
use Rattle.clos_definition_forms.proofs.definition.defmethod.Goals as goal

pub returns-in-Err-clause-performs : goal.returns-in-Err-clause-performs
returns-in-Err-clause-performs g c =
    method_refused (g.N.Natives.host c.args.natives.now) c.args.name c.args.definition c.args.world.now c.args.steps.now c.args.answers.now.items
    c.in-Err.stop c.in-Err.ensures

pub returns-in-Err-clause-heard : goal.returns-in-Err-clause-heard
returns-in-Err-clause-heard g c =
    let told = g.D.Dependents.told c.args.dependents.now in unheard told told (seen c.args.world.now) (seen c.args.world.now) refl refl

pub returns-in-Ok-clause-performs : goal.returns-in-Ok-clause-performs
returns-in-Ok-clause-performs g c =
    let done = c.define_checked_method.new in
    method_evaluated (g.N.Natives.host c.args.natives.now) c.args.name c.args.definition c.args.world.now c.args.steps.now c.args.answers.now.items
    done.answers.items done.world done.steps c.define_checked_method.result c.in-Ok.ensures c.define_checked_method.ensures.performs

pub returns-in-Err-clause-undone : goal.returns-in-Err-clause-undone
returns-in-Err-clause-undone g c = let w = seen c.args.world.now in same_stopped w w c.in-Err.stop (same_still w)
