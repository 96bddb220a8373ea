use Rattle.std.proofs.Common.{◌<◌, ◌+◌, ◌-◌, ◌/◌, ℕ, length, arith, sym, ◌∙◌}
use Rattle.std.proofs.lemmas.Bool.{eqb-true}
use Rattle.clos_generic.proofs.EqlNoted.{number_there}
use Rattle.clos_generic.proofs.function.Function.has.Goals as goal

pub returns-then-eq : goal.returns-then-eq
returns-then-eq c = λ _.
    let middle : ℕ = c.loop-low.low + (c.loop-low.high - c.loop-low.low) / 2 in
    let within : middle < length c.args.self.now.methods.items = grind (arith, c.loop-low-test.true, c.loop-low.invariant) in
    number_there c.args.self.now.methods.items middle c.index.result.now c.args.id.0 within (sym c.index.ensures)
    (eqb-true c.index.result.now.0 c.args.id.0 (sym c.eq.ensures ∙ c.if-eq.true))
