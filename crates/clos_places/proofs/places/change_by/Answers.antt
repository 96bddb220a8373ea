use Rattle.std.proofs.Common.{ap, refl, ◌∙◌}
use Rattle.lisp_data.specs.ValueView.{value_of}
use Rattle.clos_machine.specs.clos_meaning.Functions.{place_read}
use Rattle.clos_machine.specs.Machine.{access_of, at}
use Rattle.clos_machine.specs.clos_meaning.Meaning.{changed_from, meaning}
use Rattle.clos_machine.specs.clos_meaning.Outcome.{then_do}
use Rattle.clos_machine.specs.declared.machine.Machine.{Machine}
use Rattle.clos_places.proofs.places.change_by.Goals as goal

pub returns-clause-leads : goal.returns-clause-leads
returns-clause-leads c = λ run w h.
    let m : Machine = c.args.machine.now in
    c.act_under.ensures.leads run w refl (λ t.
    ap (λ n. then_do (place_read (meaning m.room) m.context (access_of n) c.in-Ok-copy.arguments (at m w) t)
    (λ old. changed_from (meaning m.room) m.context c.args.primitive (access_of c.args.target) c.args.values (value_of c.args.amount) old)) c.in-Ok.ensures
    ∙ ap (λ vs. then_do (place_read (meaning m.room) m.context (access_of c.args.target) vs (at m w) t)
    (λ old. changed_from (meaning m.room) m.context c.args.primitive (access_of c.args.target) c.args.values (value_of c.args.amount) old)) c.in-Ok-copy.ensures
    ∙ h t)
