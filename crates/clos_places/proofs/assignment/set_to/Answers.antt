use Rattle.std.proofs.Common.{ap, sym, ◌∙◌, Some}
use Rattle.clos_forms.specs.OperatorView.{place_of}
use Rattle.clos_machine.specs.Machine.{at, collected}
use Rattle.clos_machine.specs.clos_meaning.Meaning.{assigned, meaning, setf}
use Rattle.clos_machine.specs.clos_meaning.Outcome.{then_do}
use Rattle.clos_machine.specs.declared.machine.Action.TheVariants.{NewValue}
use Rattle.clos_machine.specs.declared.machine.Target.TheVariants.{Call}
use Rattle.clos_places.proofs.assignment.set_to.Goals as goal

pub returns-in_ok-copy-in-Call-clause-leads : goal.returns-in_ok-copy-in-Call-clause-leads
returns-in_ok-copy-in-Call-clause-leads c = λ run w h.
    c.set_through-in-Call.ensures.leads run w (λ t.
    ap (λ n. then_do (collected (meaning c.args.machine.now.room) c.args.machine.now.context c.args.parts.now (NewValue (Call n) c.args.form.now) (at c.args.machine.now w) t)
    (λ u. setf (meaning c.args.machine.now.room) c.args.machine.now.context c.args.others.now u)) c.in_ok-copy-in-Call.ensures
    ∙ sym (ap (λ q. then_do (assigned (meaning c.args.machine.now.room) c.args.machine.now.context (Some (place_of q)) c.args.parts.now c.args.form.now (at c.args.machine.now w) t)
    (λ u. setf (meaning c.args.machine.now.room) c.args.machine.now.context c.args.others.now u)) c.in-Call.is) ∙ h t)
