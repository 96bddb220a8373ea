use Rattle.std.proofs.Common.{◌++◌, ◌-◌, option_map, reverse, ap, sym, arith, ◌∙◌}
use Rattle.clos_precedence.specs.Precedence.{in_turn}
use Rattle.clos_precedence.specs.PrecedenceView.{numbers}
use Rattle.clos_precedence.proofs.Lists.{one_turn, no_turn}
use Rattle.clos_precedence.proofs.order.order.Goals as goal

pub loop-turns-preserved : goal.loop-turns-preserved
loop-turns-preserved g c =
    ap (λ ds. option_map (λ xs. reverse ds ++ xs) (in_turn (c.loop-turns.turns - 1) (g.S.Superclasses.above c.args.superclasses.now) (numbers c.args.family.now) ds)) c.in_ok-add-in-Some.ensures.ok
    ∙ one_turn (g.S.Superclasses.above c.args.superclasses.now) (numbers c.args.family.now) c.loop-turns.done c.in-Some.next.0 c.loop-turns.turns (c.loop-turns.turns - 1)
    (omega (arith, c.loop-turns-test.true))
    (sym (c.in-Some.ensures (numbers c.args.family.now) c.in_ok-before.ensures))
    ∙ c.loop-turns.invariant

pub returns-in-None : goal.returns-in-None
returns-in-None g c =
    c.if_all_done.ensures
    ∙ no_turn (g.S.Superclasses.above c.args.superclasses.now) (numbers c.args.family.now) c.loop-turns.done c.loop-turns.turns (sym (c.in-None.ensures (numbers c.args.family.now) c.in_ok-before.ensures))
    ∙ c.loop-turns.invariant
