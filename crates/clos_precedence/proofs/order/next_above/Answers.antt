use Rattle.std.proofs.Common.{◌∙◌}
use Rattle.clos_precedence.proofs.Lists.{one_above, none_above}
use Rattle.clos_precedence.proofs.order.next_above.Goals as goal

pub returns-in-Some-free_above : goal.returns-in-Some-free_above
returns-in-Some-free_above g c = λ all t.
    let h = c.in-Some.ensures.cases in
    one_above (g.S.Superclasses.above c.args.superclasses.now) all c.args.done.now c.loop-latest.rest.now c.in-Some.earlier.now c.in-Some.latest.now c.in-Some-free_above.class.0
    h.0 (c.in-Some-free_above.ensures all t) ∙ c.loop-latest.invariant all t

pub returns : goal.returns
returns g c = λ all t. none_above (g.S.Superclasses.above c.args.superclasses.now) all c.args.done.now c.loop-latest.rest.now c.in_default.ensures.cases ∙ c.loop-latest.invariant all t
