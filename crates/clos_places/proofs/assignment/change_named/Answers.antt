use Rattle.std.proofs.Common.{ap, sym, ◌∙◌, [], Some}
use Rattle.clos_forms.specs.OperatorView.{place_of}
use Rattle.clos_machine.specs.Machine.{at, acted}
use Rattle.clos_machine.specs.clos_meaning.Meaning.{changed_by, meaning, with_amount}
use Rattle.clos_machine.specs.declared.machine.Action.TheVariants.{Change}
use Rattle.clos_places.proofs.assignment.change_named.Goals as goal

pub returns-in_ok-copy-in-Variable-clause-leads : goal.returns-in_ok-copy-in-Variable-clause-leads
returns-in_ok-copy-in-Variable-clause-leads c = λ run w h.
    c.with_amount.ensures.leads run w (λ t.
    ap (λ vs. with_amount (meaning c.args.machine.now.room) c.args.machine.now.context c.args.amount.now vs
    (acted (meaning c.args.machine.now.room) c.args.machine.now.context (Change c.args.primitive c.in_ok-copy-in-Variable.field-0)) (at c.args.machine.now w) t) c.new.ensures
    ∙ ap (λ n. with_amount (meaning c.args.machine.now.room) c.args.machine.now.context c.args.amount.now []
    (acted (meaning c.args.machine.now.room) c.args.machine.now.context (Change c.args.primitive n)) (at c.args.machine.now w) t) c.in_ok-copy-in-Variable.ensures
    ∙ sym (ap (λ q. changed_by (meaning c.args.machine.now.room) c.args.machine.now.context c.args.primitive (Some (place_of q)) c.args.parts.now c.args.amount.now
    (at c.args.machine.now w) t) c.in-Variable.is) ∙ h t)
