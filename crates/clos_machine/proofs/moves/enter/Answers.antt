use Rattle.std.proofs.Common.{ap, ◌∙◌}
use Rattle.lisp_data.specs.Value.{list, nil}
use Rattle.clos_meaning.specs.Bodies.{restoring}
use Rattle.clos_meaning.specs.Meaning.{meaning}
use Rattle.clos_meaning.specs.Outcome.{then_do}
use Rattle.clos_meaning.specs.clos_world.World.{bound_as}
use Rattle.clos_machine.specs.Machine.{none_left}
use Rattle.clos_machine.proofs.Tails.{entered, last_of}
use Rattle.clos_machine.proofs.moves.enter.Goals as goal

pub returns-clause-leads : goal.returns-clause-leads
returns-clause-leads c = λ run w h.
    let m = c.args.machine.now in
    entered m c.args.context c.replace-saved.new.dest c.replace-saved.result c.args.locals c.replace-outer.new.dest c.replace-outer.result c.args.next
    c.new.result (list nil) run w c.begin_body.result c.begin_body.new.machine c.replace-saved.ensures.value c.replace-outer.ensures.value
    c.replace-saved.ensures.after c.replace-outer.ensures.after
    (λ t. ap (λ o. then_do o (restoring m.locals))
    (last_of (meaning m.room) c.args.context c.new.result (meaning m.room c.args.context c.args.next (bound_as c.args.locals w) t) (ap none_left c.new.ensures))
    ∙ h t)
    (c.begin_body.ensures.leads (list nil) w)
