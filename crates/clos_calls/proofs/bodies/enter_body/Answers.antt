use Rattle.std.proofs.Common.{ap, sym, ◌∙◌}
use Rattle.lisp_data.specs.Value.{list, nil}
use Rattle.clos_machine.specs.clos_meaning.Bodies.{restoring}
use Rattle.clos_machine.specs.clos_meaning.Meaning.{meaning}
use Rattle.clos_machine.specs.clos_meaning.Outcome.{then_do}
use Rattle.clos_machine.specs.clos_world.World.{bound_as}
use Rattle.clos_machine.proofs.Tails.{entered, last_of}
use Rattle.clos_calls.proofs.bodies.enter_body.Goals as goal

pub returns-then-none_left-clause-leads : goal.returns-then-none_left-clause-leads
returns-then-none_left-clause-leads c = λ run w h.
    let m = c.args.machine.now in
    c.enter.ensures.leads run w (λ t.
    ap (λ o. then_do o (restoring m.locals))
    (sym (last_of (meaning m.room) c.args.context c.args.rest (meaning m.room c.args.context c.args.first (bound_as c.args.locals w) t)
    (sym c.none_left.ensures ∙ c.if-none_left.true)))
    ∙ h t)

pub returns-clause-leads : goal.returns-clause-leads
returns-clause-leads c = λ run w h.
    entered c.args.machine.now c.args.context c.replace-saved.new.dest c.replace-saved.result c.args.locals c.replace-outer.new.dest c.replace-outer.result
    c.args.first c.args.rest (list nil) run w c.begin_body.result c.begin_body.new.machine c.replace-saved.ensures.value c.replace-outer.ensures.value
    c.replace-saved.ensures.after c.replace-outer.ensures.after h (c.begin_body.ensures.leads (list nil) w)
