use Rattle.std.proofs.Common.{map, ◌≡◌, ◌&&◌, drop, Ok}
use Rattle.lisp_data.specs.ValueView.{value_of}
use Rattle.lisp_prims.specs.Arguments.{integers_of}
use Rattle.lisp_prims.specs.Comparison.{in_order, relation}
use Rattle.lisp_prims.specs.Fault.{given}
use Rattle.lisp_prims.proofs.comparison.orders.Given as goal

abbrev pub invariant-loop-value : goal.invariant-loop-value
invariant-loop-value l =
    given (integers_of (map value_of l.rest)) (λ ns. Ok (in_order (relation l.comparison) l.first ns))
    ≡ given (integers_of (map value_of (drop l.value-index l.rest))) (λ ns. Ok (l.holds && in_order (relation l.comparison) l.last ns))
