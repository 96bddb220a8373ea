use Rattle.std.proofs.Common.{ap, refl, ◌∙◌}
use Rattle.lisp_data.specs.ValueView.{value_of}
use Rattle.clos_machine.specs.clos_meaning.Control.{keeping}
use Rattle.clos_machine.specs.clos_meaning.Functions.{place_set}
use Rattle.clos_machine.specs.Machine.{access_of, at}
use Rattle.clos_machine.specs.clos_meaning.Meaning.{meaning, set_place}
use Rattle.clos_machine.specs.clos_meaning.Outcome.{gave, then_do}
use Rattle.clos_places.proofs.assignment.set_changed.Goals as goal

pub returns-clause-leads : goal.returns-clause-leads
returns-clause-leads c = λ w.
    c.act_under.ensures.leads (set_place (meaning c.args.machine.now.room) c.args.machine.now.context (access_of c.args.target) c.args.values (value_of c.args.value)) w refl (λ t.
    ap (λ x. then_do (place_set (meaning c.args.machine.now.room) c.args.machine.now.context (access_of c.args.target) c.push.new.self (at c.args.machine.now w) t)
    (λ u. keeping (meaning c.args.machine.now.room) c.args.machine.now.context x (value_of c.in_ok-given.given))) c.new.ensures
    ∙ ap (λ x. then_do (place_set (meaning c.args.machine.now.room) c.args.machine.now.context (access_of c.args.target) c.push.new.self (at c.args.machine.now w) t) (λ u. gave x)) c.in_ok-given.ensures
    ∙ ap (λ x. then_do (place_set (meaning c.args.machine.now.room) c.args.machine.now.context (access_of c.args.target) x (at c.args.machine.now w) t) (λ u. gave (value_of c.args.value))) c.in_ok-push.ensures)
