use Rattle.std.proofs.Common.{arith, ap, ◌∙◌, refl}
use Rattle.std.specs.Prelude.{pos}
use Rattle.clos_machine.specs.clos_world.World.{seen}
use Rattle.clos_machine.specs.Machine.{inside, loop_of, at, resume}
use Rattle.clos_machine.specs.clos_meaning.Meaning.{meaning, closed}
use Rattle.clos_machine.specs.clos_meaning.Outcome.{then_do}
use Rattle.clos_machine.specs.clos_meaning.Variables.{counted, leaving, result_value, turns}
use Rattle.clos_machine.proofs.Runs.{turns_of_leads, loop_ends, loop_no_step, turn_of, loop_turns}
use Rattle.clos_control.proofs.binding.turn.Goals as goal

pub returns-in-None-clause-turns : goal.returns-in-None-clause-turns
returns-in-None-clause-turns c =
    turns_of_leads (inside c.args.machine.now (turns (meaning c.args.machine.now.room) c.args.machine.now.context (loop_of c.args.repetition.value) c.args.counter.0 c.args.counter.1))
    (seen c.args.world.now) c.args.steps.now c.end_loop.result c.end_loop.new.machine
    (c.end_loop.ensures.leads (turns (meaning c.args.machine.now.room) c.args.machine.now.context (loop_of c.args.repetition.value) c.args.counter.0 c.args.counter.1)
    (seen c.args.world.now) (λ t. ap (λ r. then_do (result_value (meaning c.args.machine.now.room) c.args.machine.now.context r.has_result r.forms (counted (loop_of r) (pos c.args.counter.1)
    (at c.args.machine.now (seen c.args.world.now))) t) (leaving r.outer)) c.deref.ensures
    ∙ loop_ends (meaning c.args.machine.now.room) c.args.machine.now.context (loop_of c.args.repetition.value) c.args.counter
    (at c.args.machine.now (seen c.args.world.now)) t c.in-None.ensures))

pub returns-then-steps-eq0-clause-turns : goal.returns-then-steps-eq0-clause-turns
returns-then-steps-eq0-clause-turns c =
    loop_no_step c.args.machine.now (meaning c.args.machine.now.room) c.args.machine.now.context (loop_of c.args.repetition.value) c.args.counter c.in-Some.next
    c.plain.result (seen c.args.world.now) c.args.steps.now c.in-Some.ensures.0 c.if-steps-eq0.true c.plain.ensures

pub returns-in-Ok-clause-turns : goal.returns-in-Ok-clause-turns
returns-in-Ok-clause-turns c = (
  1,
  omega (arith, c.if-steps-eq0.false),
  λ t.
      c.in-Ok.ensures.leads (turn_of (meaning c.args.machine.now.room) c.args.machine.now.context (loop_of c.args.repetition.value) (pos c.args.counter.1) c.in-Some.next)
      (seen c.args.world.now) (λ k. refl) t
      ∙ ap (λ o. closed (resume c.args.machine.now.levels c.args.machine.now.context o))
      (loop_turns (meaning c.args.machine.now.room) c.args.machine.now.context (loop_of c.args.repetition.value) c.args.counter c.in-Some.next
      (at c.args.machine.now (seen c.args.world.now)) t c.in-Some.ensures.0 c.in-Some.ensures.1),
)
