use Rattle.std.proofs.Common.{map, ◌≡◌, drop, Some}
use Rattle.lisp_data.specs.ValueView.{value_of}
use Rattle.lisp_prims.specs.Arithmetic.{operation}
use Rattle.lisp_prims.proofs.OnNumbers.{rest_from}
use Rattle.lisp_prims.proofs.arithmetic.in_turn.Given as goal

abbrev pub invariant-loop-value : goal.invariant-loop-value
invariant-loop-value l =
    rest_from (operation l.step) (Some l.start) (map value_of l.args) ≡ rest_from (operation l.step) l.total (map value_of (drop l.value-index l.args))
