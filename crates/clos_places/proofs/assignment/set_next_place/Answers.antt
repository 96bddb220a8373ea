use Rattle.std.proofs.Common.{ap, sym, ◌∙◌}
use Rattle.lisp_data.specs.ValueView.{value_of}
use Rattle.clos_machine.specs.Machine.{at}
use Rattle.clos_machine.specs.clos_meaning.Meaning.{setf, meaning}
use Rattle.clos_places.proofs.assignment.set_next_place.Goals as goal

pub returns-in-Some-clause-leads : goal.returns-in-Some-clause-leads
returns-in-Some-clause-leads c = λ run w h.
    c.set_pair.ensures.leads run w (value_of c.args.value) (λ t.
    sym (ap (λ fs. setf (meaning c.args.machine.now.room) c.args.machine.now.context fs (value_of c.args.value) (at c.args.machine.now w) t) c.in-Some.ensures) ∙ h t)
