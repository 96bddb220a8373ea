-- Lists (HyperSpec 14.2, 17.3).
use Rattle.std.specs.Prelude.{◌≤◌, ℕ, zero, suc, ℤ, pos, nat_le, ◌&&◌, if◌then◌else◌, List, [], ◌∷◌, length, reverse, Result, Ok, Err}
use Rattle.std.specs.Str.{chars}
use Rattle.lisp_data.specs.Value.{Val, integer, string, list, Vals, nil, cons, is_within_limits, length_of, nesting_in, elements}
use Rattle.lisp_data.specs.Limits.{most_elements, most_nesting}
use Rattle.lisp_prims.specs.Arguments.{any, one_of, two_of}
use Rattle.lisp_prims.specs.Fault.{Condition, program_error, type_error, unsupported, given}
use Rattle.lisp_prims.specs.Width.{in_range}
use Rattle.lisp_functions.specs.declared.lists.ListFunction.{ListFunction}
use Rattle.lisp_functions.specs.declared.lists.ListFunction.TheVariants.{Car, Cdr, Second, Third, Nth, Cons, List as Listing, ListStar, Append, Reverse}

abbrev pub list_of : Val → Result Vals Condition
list_of (list l) = Ok l
list_of v = Err (type_error v)

-- a last argument, which becomes the end of a list
abbrev pub end_of : Val → Result Vals Condition
end_of (list l) = Ok l
end_of v = Err unsupported

-- a position, from 0
abbrev pub position_of : Val → Result ℕ Condition
position_of (integer (pos n)) = Ok n
position_of v = Err (type_error v)

-- NIL stands for what is beyond the end
abbrev pub element_at : ℕ → Vals → Val
element_at n nil = list nil
element_at zero (cons v l) = v
element_at (suc n) (cons v l) = element_at n l

abbrev pub rest_of : Vals → Vals
rest_of nil = nil
rest_of (cons v l) = l

-- the elements of a list, or the characters of a string
abbrev pub size_of : Val → Result ℕ Condition
size_of (list l) = Ok (length_of l)
size_of (string s) = Ok (length (chars s))
size_of v = Err (type_error v)

abbrev pub length_from : List Val → Result ℤ Condition
length_from args = given (one_of size_of args) (λ n. in_range (pos n))

-- ---- lists that are made

-- one element more
abbrev pub consed : Val → Vals → Result Vals Condition
consed v l = if is_within_limits (cons v l) then Ok (cons v l) else Err unsupported

-- these elements before a list
abbrev pub put_before : List Val → Vals → Result Vals Condition
put_before [] l = Ok l
put_before (v ∷ vs) l = given (put_before vs l) (consed v)

-- the first values as elements before the last one
abbrev pub listed_onto_last : Val → List Val → Result Vals Condition
listed_onto_last v [] = end_of v
listed_onto_last v (w ∷ ws) = given (listed_onto_last w ws) (consed v)

-- the elements of the first lists before the last one
abbrev pub appended_onto_last : Val → List Val → Result Vals Condition
appended_onto_last v [] = end_of v
appended_onto_last v (w ∷ ws) =
    given (list_of v) (λ l. given (appended_onto_last w ws) (put_before (elements l)))

abbrev pub appended : List Val → Result Vals Condition
appended [] = Ok nil
appended (v ∷ vs) = appended_onto_last v vs

-- the length and the nesting of a list, where both are within the limits
abbrev pub sized : ℕ → ℕ → Result (ℕ × ℕ) Condition
sized length nesting =
    if nat_le length most_elements && nat_le nesting most_nesting then Ok (length, nesting) else Err unsupported

abbrev pub AreWithinLimits : ℕ × ℕ → Type 0
AreWithinLimits size = (size.0 ≤ most_elements) × (size.1 ≤ most_nesting)

abbrev pub size_in : Vals → Result (ℕ × ℕ) Condition
size_in l = Ok (length_of l, nesting_in l)

abbrev pub as_value : Vals → Result Val Condition
as_value l = Ok (list l)

abbrev pub list_star : List Val → Result Val Condition
list_star [] = Err program_error
list_star (v ∷ []) = Ok v
list_star (v ∷ w ∷ vs) = given (listed_onto_last v (w ∷ vs)) as_value

-- the functions that give a list or an element
abbrev pub list_value : ListFunction → List Val → Result Val Condition
list_value Car args = given (one_of list_of args) (λ l. Ok (element_at 0 l))
list_value Cdr args = given (one_of list_of args) (λ l. Ok (list (rest_of l)))
list_value Second args = given (one_of list_of args) (λ l. Ok (element_at 1 l))
list_value Third args = given (one_of list_of args) (λ l. Ok (element_at 2 l))
list_value Nth args = given (two_of position_of list_of args) (λ p. Ok (element_at p.0 p.1))
list_value Cons args = given (two_of any end_of args) (λ p. given (consed p.0 p.1) as_value)
list_value Listing args = given (put_before args nil) as_value
list_value ListStar args = list_star args
list_value Append args = given (appended args) as_value
list_value Reverse args = given (one_of list_of args) (λ l. given (put_before (reverse (elements l)) nil) as_value)
