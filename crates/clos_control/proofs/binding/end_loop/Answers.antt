use Rattle.clos_machine.specs.Machine.{at, loop_of}
use Rattle.clos_machine.specs.clos_meaning.Meaning.{meaning}
use Rattle.clos_machine.specs.clos_meaning.Outcome.{Run, then_do}
use Rattle.clos_machine.specs.clos_meaning.Variables.{leaving, result_value, with_count}
use Rattle.std.proofs.Common.{ap}
use Rattle.std.specs.Prelude.{pos}
use Rattle.clos_machine.proofs.Turns.{leads_bound}
use Rattle.clos_control.proofs.binding.end_loop.Goals as goal

pub returns-clause-leads : goal.returns-clause-leads
returns-clause-leads c = λ run w h.
    let first : Run = (λ u k. then_do (result_value (meaning c.args.machine.now.room) c.args.machine.now.context
    c.args.repetition.now.has_result c.args.repetition.now.forms u k) (leaving c.args.repetition.now.outer)) in
    leads_bound c.args.machine.now c.set_count.new.machine c.run_result.new.machine (with_count (loop_of c.args.repetition.now) (pos c.args.counter.now.1) c.args.machine.now.locals)
    first run w c.run_result.result c.in_ok-set_count.ensures h (c.run_result.ensures.leads first w (λ t.
    ap (λ x. then_do (result_value (meaning x.room) x.context c.args.repetition.now.has_result c.args.repetition.now.forms (at c.set_count.new.machine w) t)
    (leaving c.args.repetition.now.outer)) c.in_ok-set_count.ensures))
