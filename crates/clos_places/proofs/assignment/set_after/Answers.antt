use Rattle.std.proofs.Common.{ap, ◌∙◌}
use Rattle.clos_forms.specs.Form.{cons}
use Rattle.clos_machine.specs.Machine.{at, collected}
use Rattle.clos_machine.specs.clos_meaning.Meaning.{meaning, setf}
use Rattle.clos_machine.specs.clos_meaning.Outcome.{then_do}
use Rattle.clos_machine.specs.declared.machine.Action.TheVariants.{NewValue}
use Rattle.clos_places.proofs.assignment.set_after.Goals as goal

pub returns-clause-leads : goal.returns-clause-leads
returns-clause-leads c = λ run w h.
    c.set_by.ensures.leads run w (λ t.
    ap (λ x. then_do (collected (meaning c.args.machine.now.room) c.args.machine.now.context (cons c.args.first.now c.args.rest.now) (NewValue c.args.target x) (at c.args.machine.now w) t)
    (λ u. setf (meaning c.args.machine.now.room) c.args.machine.now.context c.args.others.now u)) c.in_ok-form.ensures
    ∙ h t)
