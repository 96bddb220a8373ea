-- What the functions of values answer (HyperSpec 5.3, 12.2, 14.2, 17.3).
use Rattle.std.specs.Prelude.{Bool, true, false, List, Result, Ok, codes}
use Rattle.lisp_data.specs.Value.{Val, integer, symbol, list, nil}
use Rattle.lisp_prims.specs.Arithmetic.{number_of}
use Rattle.lisp_prims.specs.Comparison.{order_of}
use Rattle.lisp_prims.specs.Fault.{Condition, given}
use Rattle.lisp_prims.specs.Lists.{length_from, list_value}
use Rattle.lisp_prims.specs.Predicates.{truth_of}
use Rattle.lisp_functions.specs.declared.primitive.Primitive.{Primitive}
use Rattle.lisp_functions.specs.declared.primitive.Primitive.TheVariants.{Number, Order, Test, Length, Listed}

-- true is the symbol T, false is NIL
abbrev pub truth : Bool → Val
truth true = symbol (record { text = codes "T"; keyword = false })
truth false = list nil

-- the answer of a function to its arguments: a value or a condition
abbrev pub answer : Primitive → List Val → Result Val Condition
answer (Number f) args = given (number_of f args) (λ n. Ok (integer n))
answer (Order f) args = given (order_of f args) (λ b. Ok (truth b))
answer (Test f) args = given (truth_of f args) (λ b. Ok (truth b))
answer Length args = given (length_from args) (λ n. Ok (integer n))
answer (Listed f) args = list_value f args

-- whether its value is always a number or a truth value
abbrev pub gives_number_or_truth : Primitive → Bool
gives_number_or_truth (Number f) = true
gives_number_or_truth (Order f) = true
gives_number_or_truth (Test f) = true
gives_number_or_truth Length = true
gives_number_or_truth (Listed f) = false
