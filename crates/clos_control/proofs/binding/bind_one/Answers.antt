use Rattle.std.proofs.Common.{ap, refl, ◌∙◌}
use Rattle.clos_machine.specs.clos_world.World.{seen, bound_as}
use Rattle.clos_machine.specs.clos_meaning.Meaning.{meaning, closed}
use Rattle.clos_machine.specs.clos_meaning.Outcome.{Run}
use Rattle.clos_machine.specs.clos_meaning.Variables.{in_order}
use Rattle.clos_machine.specs.Machine.{inside, resume}
use Rattle.clos_machine.proofs.Turns.{leads_same}
use Rattle.clos_control.proofs.binding.bind_one.Goals as goal

pub returns-clause-leads : goal.returns-clause-leads
returns-clause-leads c = λ run h.
    let next : Run = (λ u k. in_order (meaning c.args.machine.now.room) c.args.machine.now.context c.args.outer c.args.plan c.args.forms.now u k) in
    leads_same (λ u k. closed (resume c.args.machine.now.levels c.args.machine.now.context (next (bound_as c.push.new.self u) k)))
    (inside c.args.machine.now run) (seen c.args.world.now) c.bind_in_order.result c.bind_in_order.new.machine
    (λ t. ap (λ l. closed (resume c.args.machine.now.levels c.args.machine.now.context (next (bound_as l (seen c.args.world.now)) t))) c.in_ok-push.ensures
    ∙ ap (λ o. closed (resume c.args.machine.now.levels c.args.machine.now.context o)) (h t))
    (c.bind_in_order.ensures.leads next (λ t. refl))
