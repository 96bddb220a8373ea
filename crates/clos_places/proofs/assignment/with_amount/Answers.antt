use Rattle.std.proofs.Common.{ap, sym, ◌∙◌}
use Rattle.clos_machine.specs.Machine.{at, acted}
use Rattle.clos_machine.specs.clos_meaning.Meaning.{collect, with_amount, meaning}
use Rattle.clos_places.proofs.assignment.with_amount.Goals as goal

pub returns-in-Some-clause-leads : goal.returns-in-Some-clause-leads
returns-in-Some-clause-leads c = λ run w h.
    c.collect_next.ensures.leads run w (λ t.
    ap (λ fs. collect (meaning c.args.machine.now.room) c.args.machine.now.context fs c.args.values
    (acted (meaning c.args.machine.now.room) c.args.machine.now.context c.args.action) (at c.args.machine.now w) t) c.in-Some.ensures
    ∙ sym (ap (λ fs. with_amount (meaning c.args.machine.now.room) c.args.machine.now.context fs c.args.values
    (acted (meaning c.args.machine.now.room) c.args.machine.now.context c.args.action) (at c.args.machine.now w) t) c.in-Some.ensures) ∙ h t)
