use Rattle.std.proofs.Common.{◌-◌, arith, ap, sym, ◌∙◌}
use Rattle.clos_machine.specs.clos_world.World.{seen}
use Rattle.clos_machine.specs.clos_meaning.Outcome.{Stopped}
use Rattle.clos_machine.specs.Machine.{at}
use Rattle.clos_machine.proofs.Runs.{start_no_step, start_too_deep, start_begins, start_begins_at}
use Rattle.clos_eval.proofs.forms.begin_form.Goals as goal

pub returns-then-steps-eq0-clause-turns : goal.returns-then-steps-eq0-clause-turns
returns-then-steps-eq0-clause-turns c =
    start_no_step c.args.machine.now c.args.form (seen c.args.world.now) c.args.steps.now c.if-steps-eq0.true
    ∙ ap (λ x. Stopped x (seen c.args.world.now) c.args.steps.now) (sym c.plain.ensures)

pub returns-then-machine-eq0-clause-turns : goal.returns-then-machine-eq0-clause-turns
returns-then-machine-eq0-clause-turns c =
    start_too_deep c.args.machine.now c.args.form (seen c.args.world.now) c.args.steps.now c.if-machine-eq0.true (omega (arith, c.if-steps-eq0.false))
    ∙ ap (λ x. Stopped x (seen c.args.world.now) (c.args.steps.now - 1)) (sym c.plain-then-machine-eq0.ensures)

pub returns-in-Ok-clause-turns : goal.returns-in-Ok-clause-turns
returns-in-Ok-clause-turns c = (
  1,
  omega (arith, c.if-steps-eq0.false),
  λ t.
      c.in-Ok.ensures.leads t
      ∙ sym (start_begins_at c.args.machine.now.levels c.args.machine.now.room c.args.machine.now.context c.args.form (at c.args.machine.now (seen c.args.world.now)) t
      (omega (arith, c.if-machine-eq0.false))),
)

pub returns-in-Err-Refused-clause-turns : goal.returns-in-Err-Refused-clause-turns
returns-in-Err-Refused-clause-turns c =
    start_begins c.args.machine.now.levels c.args.machine.now.room c.args.machine.now.context c.args.form (at c.args.machine.now (seen c.args.world.now)) c.args.steps.now
    (omega (arith, c.if-machine-eq0.false)) (omega (arith, c.if-steps-eq0.false))
    ∙ (rw c.in-Err-Refused.field-0-is at c.in-Err-Refused.ensures.leads) (c.args.steps.now - 1)
