use Rattle.std.proofs.Common.{◌≡◌, ◌-◌, Err, ap, refl, ◌∙◌}
use Rattle.lisp_data.specs.Value.{Val}
use Rattle.lisp_data.specs.ValueView.{value_of}
use Rattle.clos_eval.specs.clos_machine.clos_meaning.Outcome.{Run, step_then}
use Rattle.clos_eval.specs.clos_machine.clos_world.World.{seen}
use Rattle.clos_definition_forms.specs.Forms.{evaluated}
use Rattle.clos_definition_forms.specs.Variable.{given_value, room_below, value_given}
use Rattle.clos_definition_forms.proofs.Evaluated.{gives, performs_after, performs_alone, performs_as, stops}
use Rattle.clos_definition_forms.proofs.variable.give_value.Goals as goal

pub returns-in-Ok : goal.returns-in-Ok
returns-in-Ok g c =
    let host = g.N.Natives.host c.args.natives.now in
    let mid = c.evaluate.new in
    let room : c.saturating_sub-below.result ≡ room_below (seen c.args.world.now) =
    c.saturating_sub-below.ensures ∙ ap (λ n. n - 1) c.min-room.ensures in
    let go : Val → Run = λ v. step_then (value_given c.args.name v) in
    performs_as host (evaluated c.args.form go) (given_value c.args.name c.args.form) c.args.world.now c.set_value.new.world c.args.steps.now c.set_value.new.steps
    c.args.answers.now.items mid.answers.items c.set_value.result (λ i. refl)
    (performs_after host (evaluated c.args.form) (λ (next : Val → Run). next (value_of c.in-Ok.value)) c.args.world.now mid.world c.set_value.new.world
    c.args.steps.now mid.steps c.set_value.new.steps c.args.answers.now.items mid.answers.items mid.answers.items
    (gives host c.args.form c.saturating_sub-below.result c.args.world.now mid.world c.args.steps.now mid.steps c.args.answers.now.items mid.answers.items
    room c.in-Ok.value c.in-Ok.ensures.taken) go c.set_value.result
    (performs_alone host (go (value_of c.in-Ok.value)) mid.world c.set_value.new.world mid.steps c.set_value.new.steps mid.answers.items c.set_value.result
    c.set_value.ensures.answers c.set_value.ensures.kept))

pub returns-in-Err : goal.returns-in-Err
returns-in-Err g c =
    let host = g.N.Natives.host c.args.natives.now in
    let room : c.saturating_sub-below.result ≡ room_below (seen c.args.world.now) =
    c.saturating_sub-below.ensures ∙ ap (λ n. n - 1) c.min-room.ensures in
    let go : Val → Run = λ v. step_then (value_given c.args.name v) in
    performs_as host (evaluated c.args.form go) (given_value c.args.name c.args.form) c.args.world.now c.evaluate.new.world c.args.steps.now c.evaluate.new.steps
    c.args.answers.now.items c.evaluate.new.answers.items (Err c.in-Err.stop) (λ i. refl)
    ((stops host c.args.form c.saturating_sub-below.result c.args.world.now c.evaluate.new.world c.args.steps.now c.evaluate.new.steps
    c.args.answers.now.items c.evaluate.new.answers.items room c.in-Err.stop c.in-Err.ensures.performs).ends go (λ v. (refl, refl)))
