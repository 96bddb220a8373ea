use Rattle.std.proofs.Common.{ap, refl, ◌∙◌}
use Rattle.lisp_data.specs.Value.{list, nil}
use Rattle.clos_machine.specs.clos_world.World.{bound_as}
use Rattle.clos_machine.specs.Machine.{inside, resume}
use Rattle.clos_machine.specs.clos_meaning.Meaning.{meaning, closed}
use Rattle.clos_machine.specs.clos_meaning.Outcome.{Run}
use Rattle.clos_machine.specs.clos_meaning.Variables.{within}
use Rattle.clos_machine.proofs.Turns.{leads_same}
use Rattle.clos_control.proofs.binding.run_beside.Goals as goal

pub returns-clause-leads : goal.returns-clause-leads
returns-clause-leads c = λ run w h.
    let next : Run = (λ u k. within (meaning c.args.machine.now.room) c.args.machine.now.context c.args.outer c.args.forms.now (list nil) u k) in
    leads_same (λ u k. closed (resume c.args.machine.now.levels c.args.machine.now.context (next (bound_as c.append.new.self u) k)))
    (inside c.args.machine.now run) w c.run_within.result c.run_within.new.machine
    (λ t. ap (λ l. closed (resume c.args.machine.now.levels c.args.machine.now.context (next (bound_as l w) t))) c.in_ok-append.ensures
    ∙ ap (λ o. closed (resume c.args.machine.now.levels c.args.machine.now.context o)) (h t))
    (c.run_within.ensures.leads next w (λ t. refl))
