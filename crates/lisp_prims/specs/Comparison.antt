-- Orders of integers (HyperSpec 12.2, functions = < > <= >=).
use Rattle.std.specs.Prelude.{ℤ, int_lt, int_le, Bool, true, ◌&&◌, List, [], ◌∷◌, Result, Ok}
use Rattle.std.specs.Ordering.{int_eq}
use Rattle.lisp_data.specs.Value.{Val}
use Rattle.lisp_prims.specs.Arguments.{some_integers_of}
use Rattle.lisp_prims.specs.Fault.{Condition, given}
use Rattle.lisp_functions.specs.declared.comparison.Comparison.{Comparison}
use Rattle.lisp_functions.specs.declared.comparison.Comparison.TheVariants.{Same, Less, Greater, AtMost, AtLeast}

abbrev pub relation : Comparison → ℤ → ℤ → Bool
relation Same = int_eq
relation Less = int_lt
relation Greater = λ m n. int_lt n m
relation AtMost = int_le
relation AtLeast = λ m n. int_le n m

-- whether each number stands so to the next
abbrev pub in_order : (ℤ → ℤ → Bool) → ℤ → List ℤ → Bool
in_order related n [] = true
in_order related n (m ∷ ms) = related n m && in_order related m ms

abbrev pub order_of : Comparison → List Val → Result Bool Condition
order_of c args = given (some_integers_of args) (λ p. Ok (in_order (relation c) p.0 p.1))
