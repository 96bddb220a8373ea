use Rattle.std.proofs.Common.{ap, sym, ◌∙◌}
use Rattle.clos_machine.specs.Machine.{at}
use Rattle.clos_machine.specs.clos_meaning.Meaning.{meaning}
use Rattle.clos_machine.specs.clos_meaning.Variables.{within}
use Rattle.clos_machine.proofs.Tails.{within_last}
use Rattle.clos_control.proofs.binding.begin_within.Goals as goal

pub returns-then-ends_body-clause-leads : goal.returns-then-ends_body-clause-leads
returns-then-ends_body-clause-leads c = λ fs v e run w h.
    let m = c.args.machine.now in
    within_last m c.args.outer c.args.first c.args.rest v run w (sym c.none_left.ensures ∙ c.if-none_left.true)
    (sym c.ends_body.ensures ∙ c.if-ends_body.true)
    (λ t. ap (λ x. within (meaning m.room) m.context c.args.outer x v (at m w) t) (sym e) ∙ h t)
