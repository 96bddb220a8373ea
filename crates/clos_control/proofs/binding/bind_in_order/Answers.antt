use Rattle.std.proofs.Common.{ap, sym, refl, ◌∙◌}
use Rattle.clos_machine.specs.clos_world.World.{seen, bound_as}
use Rattle.clos_machine.specs.Machine.{inside, resume, with_next}
use Rattle.clos_machine.specs.clos_meaning.Meaning.{meaning, closed}
use Rattle.clos_machine.specs.clos_meaning.Outcome.{Run}
use Rattle.clos_machine.specs.clos_meaning.Variables.{in_order}
use Rattle.clos_control.proofs.Unset.{skipped, order_skips, not_skipped}
use Rattle.clos_machine.proofs.Turns.{leads_same}
use Rattle.clos_control.proofs.binding.bind_in_order.Goals as goal

pub returns-in-Ok-clause-leads : goal.returns-in-Ok-clause-leads
returns-in-Ok-clause-leads c = λ run h.
    let next : Run = (λ u k. in_order (meaning c.args.machine.now.room) c.args.machine.now.context c.args.outer (with_next c.in-Ok.next c.bind_unset.new.plan)
    c.args.forms.now u k) in
    leads_same (λ u k. closed (resume c.args.machine.now.levels c.args.machine.now.context (next (bound_as c.bind_unset.new.locals u) k)))
    (inside c.args.machine.now run) (seen c.args.world.now) c.bind_next.result c.bind_next.new.machine
    (λ t. sym (order_skips c.args.machine.now.levels c.args.machine.now.context (meaning c.args.machine.now.room) c.args.machine.now.context c.args.outer
    c.args.forms.now (seen c.args.world.now) t c.args.plan c.args.machine.now.locals
    ∙ ap (skipped c.args.machine.now.levels c.args.machine.now.context (meaning c.args.machine.now.room) c.args.machine.now.context c.args.outer
    c.args.forms.now (seen c.args.world.now) t) c.in-Ok.ensures)
    ∙ ap (λ o. closed (resume c.args.machine.now.levels c.args.machine.now.context o)) (h t))
    (c.bind_next.ensures.leads next (seen c.args.world.now) (λ t. refl))

pub returns-in-Err-clause-leads : goal.returns-in-Err-clause-leads
returns-in-Err-clause-leads c = λ run h.
    not_skipped c.args.machine.now (meaning c.args.machine.now.room) c.args.machine.now.context c.args.outer c.args.forms.now c.args.plan
    (seen c.args.world.now) run c.in-Err.stop c.bind_unset.new.locals c.bind_unset.new.plan _ h c.in-Err.ensures
