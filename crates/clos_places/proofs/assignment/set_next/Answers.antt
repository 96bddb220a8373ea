use Rattle.std.proofs.Common.{ap, sym, ◌∙◌}
use Rattle.lisp_data.specs.ValueView.{value_of}
use Rattle.clos_machine.specs.Machine.{at}
use Rattle.clos_machine.specs.clos_meaning.Meaning.{meaning, setq}
use Rattle.clos_places.proofs.assignment.set_next.Goals as goal

pub returns-in-Some-clause-leads : goal.returns-in-Some-clause-leads
returns-in-Some-clause-leads c = λ run w h.
    c.set_target.ensures.leads run w (value_of c.args.value) (λ t.
    ap (λ ns. setq (meaning c.args.machine.now.room) c.args.machine.now.context ns c.args.forms.now (value_of c.args.value) (at c.args.machine.now w) t)
    (sym c.in-Some.ensures) ∙ h t)
