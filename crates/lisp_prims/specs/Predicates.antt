-- Tests of values (HyperSpec 5.3, 10.2, 12.2, 14.2, 16.2).
use Rattle.std.specs.Prelude.{◌%◌, ℤ, pos, int_lt, unsigned_abs, Bool, true, false, not, ◌==◌, if◌then◌else◌, List, Result, Ok, Err}
use Rattle.std.specs.Ordering.{int_eq}
use Rattle.lisp_data.specs.Equality.{is_by_object}
use Rattle.lisp_data.specs.Keys.{same_value}
use Rattle.lisp_data.specs.Value.{Val, integer, symbol, string, list, nil, cons}
use Rattle.lisp_prims.specs.Arguments.{any, integer_of, one_of, two_of}
use Rattle.lisp_prims.specs.Fault.{Condition, unsupported, given}
use Rattle.lisp_functions.specs.declared.predicates.Predicate.{Predicate}
use Rattle.lisp_functions.specs.declared.predicates.Predicate.TheVariants.{Value, Integer, Eql, Equal}
use Rattle.lisp_functions.specs.declared.predicates.ValueTest.{ValueTest}
use Rattle.lisp_functions.specs.declared.predicates.ValueTest.TheVariants.{Null, Atom, Consp, Listp, Symbolp, Integerp, Stringp}
use Rattle.lisp_functions.specs.declared.predicates.IntegerTest.{IntegerTest}
use Rattle.lisp_functions.specs.declared.predicates.IntegerTest.TheVariants.{Zerop, Plusp, Minusp, Evenp, Oddp}

abbrev pub is_nil : Val → Bool
is_nil (list nil) = true
is_nil _ = false

abbrev pub is_cons : Val → Bool
is_cons (list (cons v l)) = true
is_cons _ = false

abbrev pub is_list : Val → Bool
is_list (list l) = true
is_list _ = false

-- NIL is one
abbrev pub is_symbol : Val → Bool
is_symbol (symbol s) = true
is_symbol (list nil) = true
is_symbol _ = false

abbrev pub is_integer : Val → Bool
is_integer (integer n) = true
is_integer _ = false

abbrev pub is_string : Val → Bool
is_string (string s) = true
is_string _ = false

abbrev pub is_even : ℤ → Bool
is_even n = unsigned_abs n % 2 == 0

-- a test of one value, and of one integer
abbrev pub of_value : (Val → Bool) → List Val → Result Bool Condition
of_value test args = given (one_of any args) (λ v. Ok (test v))

abbrev pub of_integer : (ℤ → Bool) → List Val → Result Bool Condition
of_integer test args = given (one_of integer_of args) (λ n. Ok (test n))

-- two strings and two non-empty lists have contents; whether they are one object a value does not tell
abbrev pub eql_of : Val × Val → Result Bool Condition
eql_of p = if is_by_object p.0 p.1 then Err unsupported else Ok (same_value p.0 p.1)

-- ---- the functions

abbrev pub holds_of : ValueTest → Val → Bool
holds_of Null v = is_nil v
holds_of Atom v = not (is_cons v)
holds_of Consp v = is_cons v
holds_of Listp v = is_list v
holds_of Symbolp v = is_symbol v
holds_of Integerp v = is_integer v
holds_of Stringp v = is_string v

abbrev pub holds_of_integer : IntegerTest → ℤ → Bool
holds_of_integer Zerop n = int_eq n (pos 0)
holds_of_integer Plusp n = int_lt (pos 0) n
holds_of_integer Minusp n = int_lt n (pos 0)
holds_of_integer Evenp n = is_even n
holds_of_integer Oddp n = not (is_even n)

abbrev pub truth_of : Predicate → List Val → Result Bool Condition
truth_of (Value t) args = of_value (holds_of t) args
truth_of (Integer t) args = of_integer (holds_of_integer t) args
truth_of Eql args = given (two_of any any args) eql_of
truth_of Equal args = given (two_of any any args) (λ p. Ok (same_value p.0 p.1))
