use Rattle.std.proofs.Common.{◌≡◌, ◌++◌, option_map, reverse}
use Rattle.clos_precedence.specs.Precedence.{in_turn, precedence_list}
use Rattle.clos_precedence.specs.PrecedenceView.{numbers}
use Rattle.clos_precedence.proofs.order.order.Given as goal

abbrev pub invariant-loop-turns : goal.invariant-loop-turns
invariant-loop-turns g l = option_map (λ xs. reverse l.done ++ xs) (in_turn l.turns (g.S.Superclasses.above l.fn.superclasses) (numbers l.fn.family) l.done) ≡ precedence_list (g.S.Superclasses.above l.fn.superclasses) l.fn.class.0 (numbers l.fn.family)

abbrev pub decreases-loop-turns : goal.decreases-loop-turns
decreases-loop-turns g l = l.turns
