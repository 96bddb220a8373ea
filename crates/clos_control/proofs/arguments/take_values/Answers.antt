use Rattle.std.proofs.Common.{◌∷◌, ◌++◌, [], arith, ap, sym, subst, ◌∙◌, ℕ, ◌-◌}
use Rattle.lisp_data.specs.ValueView.{value_of}
use Rattle.clos_machine.specs.clos_world.World.{State, seen}
use Rattle.clos_machine.specs.Machine.{Took, at, at_once}
use Rattle.clos_control.proofs.Taken.{took_one}
use Rattle.clos_control.proofs.arguments.take_values.Goals as goal
use Rattle.clos_machine.specs.clos_meaning.Contexts.{Context}

pub loop-first-preserved : goal.loop-first-preserved
loop-first-preserved c =
    let n : ℕ = c.args.machine.now.room in
    let env : Context = c.args.machine.now.context in
    let w : State = at c.args.machine.now (seen c.args.world.now) in
    subst (λ vs. Took n env w c.args.forms.now c.args.values.now c.args.steps.now c.in-Some.others.now vs (c.loop-first.steps - 1))
    (sym (c.in_ok-push.ensures ∙ ap (λ v. c.loop-first.values ++ v ∷ []) c.in_ok-copy.ensures))
    (took_one n env w c.args.forms.now c.args.values.now c.args.steps.now c.in-Some.first.now c.in-Some.others.now c.loop-first.values c.loop-first.steps
    (value_of c.in-Some-value_at_once.value.now) (omega (arith, c.if-machine-eq0.false)) (omega (arith, c.if-steps-eq0.false))
    (c.in-Some-value_at_once.ensures ∙ ap (at_once w) c.operator.ensures)
    (subst (λ fs. Took n env w c.args.forms.now c.args.values.now c.args.steps.now fs c.loop-first.values c.loop-first.steps) c.in-Some.ensures c.loop-first.invariant))
