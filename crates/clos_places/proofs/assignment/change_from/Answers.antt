use Rattle.std.proofs.Common.{ap, sym, ◌∷◌, []}
use Rattle.lisp_data.specs.ValueView.{value_of}
use Rattle.lisp_prims.specs.Primitive.{answer}
use Rattle.clos_machine.specs.clos_meaning.Fault.{answered}
use Rattle.clos_machine.specs.Machine.{access_of, at, inside, resume}
use Rattle.clos_machine.specs.clos_meaning.Meaning.{changed_from, closed, meaning, set_place}
use Rattle.clos_machine.specs.clos_meaning.Outcome.{then_do}
use Rattle.clos_machine.proofs.Turns.{leads_same}
use Rattle.clos_places.proofs.Stopping.{nothing_follows}
use Rattle.clos_places.proofs.assignment.change_from.Goals as goal

pub returns-in-Ok-clause-leads : goal.returns-in-Ok-clause-leads
returns-in-Ok-clause-leads c = λ w.
    leads_same (inside c.args.machine.now (set_place (meaning c.args.machine.now.room) c.args.machine.now.context (access_of c.args.target) c.args.values (value_of c.in-Ok.value)))
    (inside c.args.machine.now (changed_from (meaning c.args.machine.now.room) c.args.machine.now.context c.args.primitive (access_of c.args.target) c.args.values (value_of c.args.amount) (value_of c.args.old)))
    w c.set_changed.result c.set_changed.new.machine
    (λ t. ap (λ o. closed (resume c.args.machine.now.levels c.args.machine.now.context (then_do o (λ v. set_place (meaning c.args.machine.now.room) c.args.machine.now.context (access_of c.args.target) c.args.values v))))
    (sym (c.in-Ok.ensures (at c.args.machine.now w) t)))
    (c.set_changed.ensures.leads w)

pub returns-in-Err-clause-leads : goal.returns-in-Err-clause-leads
returns-in-Err-clause-leads c = λ w.
    nothing_follows c.args.machine.now c.args.machine.now (answered (answer c.args.primitive (value_of c.args.old ∷ value_of c.args.amount ∷ [])))
    (λ v. set_place (meaning c.args.machine.now.room) c.args.machine.now.context (access_of c.args.target) c.args.values v) w c.in-Err.stop (c.in-Err.ensures (at c.args.machine.now w))
