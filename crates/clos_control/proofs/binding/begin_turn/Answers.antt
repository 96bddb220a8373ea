use Rattle.clos_machine.specs.clos_meaning.Control.{sequence}
use Rattle.clos_machine.specs.Machine.{at, loop_of}
use Rattle.clos_machine.specs.clos_meaning.Meaning.{meaning}
use Rattle.clos_machine.specs.clos_meaning.Outcome.{Run, then_do}
use Rattle.clos_machine.specs.clos_meaning.Variables.{body_of, turns, with_count}
use Rattle.lisp_data.specs.Value.{list, nil}
use Rattle.std.proofs.Common.{◌≡◌, ap, ◌∙◌}
use Rattle.std.specs.Prelude.{pos}
use Rattle.clos_machine.proofs.Turns.{leads_bound}
use Rattle.clos_control.proofs.binding.begin_turn.Goals as goal

pub returns-clause-leads : goal.returns-clause-leads
returns-clause-leads c = λ run w h.
    let first : Run = (λ u k. then_do (sequence (meaning c.args.machine.now.room) c.args.machine.now.context
    (body_of c.args.repetition.value.has_result c.args.repetition.value.forms) (list nil) u k)
    (λ v. turns (meaning c.args.machine.now.room) c.args.machine.now.context (loop_of c.args.repetition.value) c.args.next.0 c.args.next.1)) in
    let set : c.set_count.new.machine ≡ record c.args.machine.now { locals = with_count (loop_of c.args.repetition.value) (pos c.args.counter.now.1) c.args.machine.now.locals } =
    c.in_ok-set_count.ensures ∙ ap (λ r. record c.args.machine.now { locals = with_count (loop_of r) (pos c.args.counter.now.1) c.args.machine.now.locals }) c.deref.ensures in
    leads_bound c.args.machine.now c.set_count.new.machine c.run_turn.new.machine (with_count (loop_of c.args.repetition.value) (pos c.args.counter.now.1) c.args.machine.now.locals)
    first run w c.run_turn.result set h (c.run_turn.ensures.leads first w (λ t.
    ap (λ x. then_do (sequence (meaning x.room) x.context (body_of c.args.repetition.value.has_result c.args.repetition.value.forms) (list nil) (at c.set_count.new.machine w) t)
    (λ v. turns (meaning x.room) x.context (loop_of c.args.repetition.value) c.args.next.0 c.args.next.1)) set))
