-- Numbers of integers (HyperSpec 12.2).
use Rattle.std.specs.Prelude.{ℕ, suc, ℤ, pos, negsuc, neg_ℤ, ◌+ℤ◌, ◌-ℤ◌, ◌*ℤ◌, ◌/◌, int_div, int_rem, int_lt, unsigned_abs, Bool, not, ◌&&◌, if◌then◌else◌, List, [], ◌∷◌, Result, Ok, Err}
use Rattle.std.specs.Int.{int_max, int_min}
use Rattle.std.specs.Bool.{beq}
use Rattle.std.specs.Ordering.{int_eq}
use Rattle.lisp_data.specs.Value.{Val}
use Rattle.lisp_prims.specs.Arguments.{integer_of, integers_of, some_integers_of, one_of, two_of}
use Rattle.lisp_prims.specs.Fault.{Condition, division_by_zero, given}
use Rattle.lisp_prims.specs.Width.{in_range}
use Rattle.lisp_prims.specs.declared.arithmetic.Step.{Step}
use Rattle.lisp_prims.specs.declared.arithmetic.Step.TheVariants.{Add, Multiply, Subtract, Maximum, Minimum}
use Rattle.lisp_functions.specs.declared.arithmetic.Arithmetic.{Arithmetic}
use Rattle.lisp_functions.specs.declared.arithmetic.Arithmetic.TheVariants.{Sum, Product, Difference, Greatest, Least, Increment, Decrement, Absolute, Floor, Truncate, Modulus, Remainder}

abbrev pub operation : Step → ℤ → ℤ → ℤ
operation Add = λ m n. m +ℤ n
operation Multiply = λ m n. m *ℤ n
operation Subtract = λ m n. m -ℤ n
operation Maximum = int_max
operation Minimum = int_min

-- from left to right: each partial result is within the width, and the last is the value
abbrev pub in_turn : (ℤ → ℤ → ℤ) → ℤ → List ℤ → Result ℤ Condition
in_turn op n [] = Ok n
in_turn op n (m ∷ ms) = given (in_range (op n m)) (λ r. in_turn op r ms)

-- the first number less the others, or where it is alone the number turned
abbrev pub difference : ℤ → List ℤ → Result ℤ Condition
difference n [] = in_range (neg_ℤ n)
difference n (m ∷ ms) = in_turn (operation Subtract) n (m ∷ ms)

-- the quotient of a number by a positive one, rounded down: -(a + 1) lies in the part of -(a / b + 1)
abbrev pub floor_by : ℤ → ℕ → ℤ
floor_by (pos a) b = pos (a / b)
floor_by (negsuc a) b = negsuc (a / b)

-- by any number but 0; turning both numbers leaves the quotient
abbrev pub floor_quotient : ℤ → ℤ → ℤ
floor_quotient n (pos b) = floor_by n b
floor_quotient n (negsuc b) = floor_by (neg_ℤ n) (suc b)

-- the quotient rounded to zero
abbrev pub truncate_quotient : ℤ → ℤ → ℤ
truncate_quotient n d = int_div n d

-- whether that is above the exact quotient, which is then negative and no whole number
abbrev pub is_rounded_up : ℤ → ℤ → Bool
is_rounded_up n d = not (int_eq (int_rem n d) (pos 0)) && not (beq (int_lt n (pos 0)) (int_lt d (pos 0)))

-- what a quotient leaves of the number
abbrev pub remainder : (ℤ → ℤ → ℤ) → ℤ → ℤ → ℤ
remainder quotient n d = n -ℤ (quotient n d *ℤ d)

-- a number and a divisor, which is not 0
abbrev pub divisible : List Val → Result (ℤ × ℤ) Condition
divisible args =
    given (two_of integer_of integer_of args) (λ p. if int_eq p.1 (pos 0) then Err division_by_zero else Ok p)

-- the functions that give a number of integers
abbrev pub number_of : Arithmetic → List Val → Result ℤ Condition
number_of Sum args = given (integers_of args) (in_turn (operation Add) (pos 0))
number_of Product args = given (integers_of args) (in_turn (operation Multiply) (pos 1))
number_of Difference args = given (some_integers_of args) (λ p. difference p.0 p.1)
number_of Greatest args = given (some_integers_of args) (λ p. in_turn (operation Maximum) p.0 p.1)
number_of Least args = given (some_integers_of args) (λ p. in_turn (operation Minimum) p.0 p.1)
number_of Increment args = given (one_of integer_of args) (λ n. in_range (n +ℤ pos 1))
number_of Decrement args = given (one_of integer_of args) (λ n. in_range (n -ℤ pos 1))
number_of Absolute args = given (one_of integer_of args) (λ n. in_range (pos (unsigned_abs n)))
number_of Floor args = given (divisible args) (λ p. in_range (floor_quotient p.0 p.1))
number_of Truncate args = given (divisible args) (λ p. in_range (truncate_quotient p.0 p.1))
number_of Modulus args = given (divisible args) (λ p. in_range (remainder floor_quotient p.0 p.1))
number_of Remainder args = given (divisible args) (λ p. in_range (remainder truncate_quotient p.0 p.1))
