-- Numbers taken in turn.
use Rattle.std.proofs.Common.{ℤ, List, Option, Some, None, Result, Err}
use Rattle.lisp_data.specs.Value.{Val}
use Rattle.lisp_prims.specs.Arguments.{integers_of}
use Rattle.lisp_prims.specs.Arithmetic.{in_turn}
use Rattle.lisp_prims.specs.Fault.{Condition, integer_range, given}

-- what the further numbers make of the result so far, which may be out of range already
abbrev pub from_here : (ℤ → ℤ → ℤ) → Option ℤ → List ℤ → Result ℤ Condition
from_here op (Some n) ns = in_turn op n ns
from_here op None ns = Err integer_range

abbrev pub rest_from : (ℤ → ℤ → ℤ) → Option ℤ → List Val → Result ℤ Condition
rest_from op total vs = given (integers_of vs) (from_here op total)
