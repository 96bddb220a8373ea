-- How functions take their arguments: first their number, then the leftmost of a wrong type.
use Rattle.std.specs.Prelude.{ℤ, List, [], ◌∷◌, Result, Ok, Err}
use Rattle.lisp_data.specs.Value.{Val, integer}
use Rattle.lisp_prims.specs.Fault.{Condition, program_error, type_error, given}

-- a value of any type
abbrev pub any : Val → Result Val Condition
any v = Ok v

abbrev pub integer_of : Val → Result ℤ Condition
integer_of (integer n) = Ok n
integer_of v = Err (type_error v)

-- any number of integers
abbrev pub integers_of : List Val → Result (List ℤ) Condition
integers_of [] = Ok []
integers_of (v ∷ vs) = given (integer_of v) (λ n. given (integers_of vs) (λ ns. Ok (n ∷ ns)))

-- at least one
abbrev pub some_integers_of : List Val → Result (ℤ × List ℤ) Condition
some_integers_of [] = Err program_error
some_integers_of (v ∷ vs) = given (integer_of v) (λ n. given (integers_of vs) (λ ns. Ok (n, ns)))

-- just one argument, read so
abbrev pub one_of : {A : Type 0} → (Val → Result A Condition) → List Val → Result A Condition
one_of read [] = Err program_error
one_of read (v ∷ []) = read v
one_of read (v ∷ w ∷ vs) = Err program_error

-- just two
abbrev pub two_of : {A B : Type 0} → (Val → Result A Condition) → (Val → Result B Condition) → List Val → Result (A × B) Condition
two_of read also [] = Err program_error
two_of read also (v ∷ []) = Err program_error
two_of read also (v ∷ w ∷ []) = given (read v) (λ a. given (also w) (λ b. Ok (a, b)))
two_of read also (v ∷ w ∷ x ∷ vs) = Err program_error
