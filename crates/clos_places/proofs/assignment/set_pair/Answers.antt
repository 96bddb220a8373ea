use Rattle.std.proofs.Common.{ap, sym, ◌∙◌}
use Rattle.clos_forms.specs.Form.{cons}
use Rattle.clos_machine.specs.Machine.{at}
use Rattle.clos_machine.specs.clos_meaning.Meaning.{setf, meaning}
use Rattle.clos_places.proofs.assignment.set_pair.Goals as goal

pub returns-in-Some-clause-leads : goal.returns-in-Some-clause-leads
returns-in-Some-clause-leads c = λ run w v h.
    c.set_place.ensures.leads run w (λ t.
    sym (ap (λ fs. setf (meaning c.args.machine.now.room) c.args.machine.now.context (cons c.args.place.now fs) v (at c.args.machine.now w) t) c.in-Some.ensures) ∙ h t)
