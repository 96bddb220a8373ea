use Rattle.std.proofs.Common.{ap, ◌∙◌, []}
use Rattle.clos_machine.specs.Machine.{access_of, at, acted}
use Rattle.clos_machine.specs.clos_meaning.Meaning.{collect, meaning, place_changed_by}
use Rattle.clos_machine.specs.declared.machine.Action.TheVariants.{Amount}
use Rattle.clos_places.proofs.assignment.change_through.Goals as goal

pub returns-clause-leads : goal.returns-clause-leads
returns-clause-leads c = λ run w h.
    c.collect_next.ensures.leads run w (λ t.
    ap (λ vs. collect (meaning c.args.machine.now.room) c.args.machine.now.context c.args.parts.now vs
    (acted (meaning c.args.machine.now.room) c.args.machine.now.context (Amount c.args.primitive c.in-Ok.target c.in_ok-copy.field-0)) (at c.args.machine.now w) t) c.new-2.ensures
    ∙ ap (λ fs. collect (meaning c.args.machine.now.room) c.args.machine.now.context c.args.parts.now []
    (acted (meaning c.args.machine.now.room) c.args.machine.now.context (Amount c.args.primitive c.in-Ok.target fs)) (at c.args.machine.now w) t) c.in_ok-copy.ensures
    ∙ ap (λ x. collect (meaning c.args.machine.now.room) c.args.machine.now.context c.args.parts.now []
    (place_changed_by (meaning c.args.machine.now.room) c.args.machine.now.context c.args.primitive (access_of x) c.args.amount.now) (at c.args.machine.now w) t) c.in-Ok.ensures.ok
    ∙ h t)
