-- Small tokens and what they denote, a comment and where it ends: instances of the definitions.
use Rattle.std.specs.Prelude.{pos, true, [], codes, refl}
use Rattle.std.proofs.lemmas.Bool.{ltb-true}
use Rattle.lisp_data.specs.Datum.{integer, symbol}
use Rattle.lisp_tokens.specs.Fault.{bad_token}
use Rattle.lisp_tokens.specs.Gaps.{Closes, mark, nested, other}
use Rattle.lisp_tokens.specs.Reading.{named}
use Rattle.lisp_tokens.specs.Token.{Denotes, DenotesNone, class_of, is_integer, is_ratio, is_float, is_keyword}

-- ---- tokens

-- 12. is the integer 12, since a point may follow the digits
point_after_digits : Denotes (codes "12.") (integer (pos 12))
unfolding class_of is_integer
point_after_digits = (record { sfits = ltb-true _ _ refl }, refl)

-- 1+ is the symbol 1+: digits must follow a sign
sign_after_digit : Denotes (codes "1+") (named (codes "1+"))
unfolding class_of is_integer is_ratio is_float
sign_after_digit = refl

-- :key is the keyword KEY
colon_first : Denotes (codes ":key") (symbol (record { text = codes "KEY"; keyword = true }))
unfolding class_of is_integer is_ratio is_float is_keyword
colon_first = refl

-- 1/2 is a number of another type, so a bad token
ratio : DenotesNone (codes "1/2") bad_token
unfolding class_of is_integer is_ratio
ratio = refl

-- ---- comments

-- comments nest: that which begins as #|a #|b|# c|# ends at the second mark |#
comments_nest : Closes (codes "a #|b|# c|#") 11
comments_nest =
    let inner : Closes (codes "b|# c|#") 3 = other 98 _ 2 refl refl (mark (codes " c|#")) in
    let after : Closes (codes " c|#") 4 = other 32 _ 3 refl refl (other 99 _ 2 refl refl (mark [])) in
    other 97 _ 10 refl refl (other 32 _ 9 refl refl (nested _ 3 4 inner after))
