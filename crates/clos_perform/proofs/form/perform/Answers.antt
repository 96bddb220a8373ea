use Rattle.std.proofs.Common.{Some, ap, refl, sym}
use Rattle.lisp_data.specs.DatumView.{datum_of}
use Rattle.clos_definition_forms.specs.clos_world.World.{seen}
use Rattle.clos_definition_forms.proofs.Evaluated.{performs_as, performs_storage}
use Rattle.clos_definition_forms.proofs.clos_effects.Hearing.{unheard}
use Rattle.clos_definition_forms.proofs.clos_effects.Noting.{same_still}
use Rattle.clos_perform.specs.Step.{checked, step}
use Rattle.clos_perform.proofs.StepQuiet.{step_quiet}
use Rattle.clos_perform.proofs.WellRead.{well_read}
use Rattle.clos_perform.proofs.form.perform.Goals as goal

pub returns-in-Ok-clause-performs : goal.returns-in-Ok-clause-performs
returns-in-Ok-clause-performs g c =
    performs_as (g.N.Natives.host c.args.natives.now) (checked (Some c.in-Ok.top)) (step (datum_of c.args.datum.now)) c.args.world.now
    c.perform_top.new.world c.args.steps.now c.perform_top.new.steps c.args.answers.now.items c.perform_top.new.answers.items c.perform_top.result
    (λ i. sym (ap (λ x. checked x (seen c.args.world.now) i) c.in-Ok.ensures.form)) c.perform_top.ensures.performs

pub returns-in-Err-Memory-clause-performs : goal.returns-in-Err-Memory-clause-performs
returns-in-Err-Memory-clause-performs g c =
    performs_storage (g.N.Natives.host c.args.natives.now) (step (datum_of c.args.datum.now)) c.args.world.now c.args.steps.now c.args.answers.now.items
    (step_quiet (datum_of c.args.datum.now) c.args.world.now)

pub returns-in-Err-Memory-clause-heard : goal.returns-in-Err-Memory-clause-heard
returns-in-Err-Memory-clause-heard g c =
    let told = g.D.Dependents.told c.args.dependents.now in unheard told told (seen c.args.world.now) (seen c.args.world.now) refl refl

pub returns-in-Err-Program-clause-heard : goal.returns-in-Err-Program-clause-heard
returns-in-Err-Program-clause-heard g c =
    let told = g.D.Dependents.told c.args.dependents.now in unheard told told (seen c.args.world.now) (seen c.args.world.now) refl refl

pub perform_top-requires : goal.perform_top-requires
perform_top-requires g c = well_read (datum_of c.args.datum.now) c.in-Ok.top c.in-Ok.ensures.form

pub returns-in-Err-Memory-clause-undone : goal.returns-in-Err-Memory-clause-undone
returns-in-Err-Memory-clause-undone g c = same_still (seen c.args.world.now)
