use Rattle.std.proofs.Common.{◌≡◌, ◌∷◌, ◌++◌, [], arith, rules, subst, sym, to_z, of_z, true, w64}
use Rattle.std.proofs.lemmas.Int.{to_z-of_z}
use Rattle.clos_machine.specs.clos_meaning.Host.{may_answer}
use Rattle.clos_eval.proofs.Asking.{is_asked, no_step_left}
use Rattle.clos_eval.proofs.natives.ask.Goals as goal

pub returns-then-steps-eq0 : goal.returns-then-steps-eq0
returns-then-steps-eq0 g c =
    no_step_left (g.N.Natives.host c.args.natives.now) c.args.name.now c.args.integers.now c.args.steps.now c.args.answers.now.items
    c.plain.result (omega (arith, c.if-steps-eq0.true)) c.plain.ensures

pub returns : goal.returns
returns g c =
    let e : c.push.new.self.items ≡ c.args.answers.now.items ++ to_z w64 (of_z w64 c.call-answer.result) ∷ [] = search rules in
    is_asked (g.N.Natives.host c.args.natives.now) c.args.name.now c.args.integers.now c.args.steps.now c.args.answers.now.items
    (to_z w64 (of_z w64 c.call-answer.result)) _ c.push.new.self.items
    (subst (λ x. may_answer (g.N.Natives.host c.args.natives.now c.args.name.now) c.args.integers.now x ≡ true)
    (sym (to_z-of_z w64 c.call-answer.result (search rules))) c.call-answer.ensures)
    (omega (arith, c.if-steps-eq0.false)) e
