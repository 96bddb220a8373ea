-- Tokens: integers, keywords and symbols (HyperSpec 2.2, 2.3).
use Rattle.std.specs.Prelude.{◌≡◌, ℕ, ℤ, Bool, true, false, ◌==◌, ◌&&◌, ◌||◌, not, if◌then◌else◌, List, [], ◌∷◌, length, map, drop, take_while, FitsSigned}
use Rattle.std.specs.Int.{w64}
use Rattle.std.specs.Char.{to_ascii_uppercase, is_ascii_digit}
use Rattle.std.specs.List.{prefix_len, position_or_len, list_any, list_all, before_first, after_first}
use Rattle.std.specs.Str.Parse.{without_leading_sign, signed_digits_value}
use Rattle.lisp_data.specs.Datum.{Dat, integer, symbol}
use Rattle.lisp_tokens.specs.Characters.{is_token_char}
use Rattle.lisp_tokens.specs.Fault.{Kind, bad_token, bad_dot}
use Rattle.lisp_tokens.specs.declared.token.Class.{Class}
use Rattle.lisp_tokens.specs.declared.token.Class.TheVariants.{Integer, Dot, Keyword, Symbol, Bad}

-- the longest run of token characters at the front, and what follows it
abbrev pub run : List ℕ → List ℕ
run text = take_while is_token_char text

abbrev pub after_run : List ℕ → List ℕ
after_run text = drop (prefix_len is_token_char text) text

abbrev pub is_point : ℕ → Bool
is_point c = c == 46

abbrev pub is_slash : ℕ → Bool
is_slash c = c == 47

abbrev pub is_colon : ℕ → Bool
is_colon c = c == 58

-- the markers of an exponent: e s f d l E S F D L
abbrev pub is_marker : ℕ → Bool
is_marker c = list_any (λ m. m == c) (101 ∷ 115 ∷ 102 ∷ 100 ∷ 108 ∷ 69 ∷ 83 ∷ 70 ∷ 68 ∷ 76 ∷ [])

abbrev pub is_empty : List ℕ → Bool
is_empty text = length text == 0

abbrev pub all_digits : List ℕ → Bool
all_digits text = list_all is_ascii_digit text

-- at least one digit, and nothing else
abbrev pub is_digits : List ℕ → Bool
is_digits text = not (is_empty text) && all_digits text

-- an optional sign, digits, an optional point
unfoldable pub is_integer : List ℕ → Bool
is_integer token = let text = without_leading_sign token in
    is_digits (before_first is_point text) && is_empty (after_first is_point text)

-- an optional sign, digits, a slash, digits
unfoldable pub is_ratio : List ℕ → Bool
is_ratio token = let text = without_leading_sign token in
    is_digits (before_first is_slash text) && is_digits (after_first is_slash text)

-- what stands from the marker of an exponent on
abbrev pub exponent : List ℕ → List ℕ
exponent text = drop (position_or_len is_marker text) text

-- digits or none on both sides of an optional point: digits after it, or digits anywhere and an exponent
abbrev pub are_float_parts : List ℕ → List ℕ → List ℕ → Bool
are_float_parts whole fraction exponent =
    all_digits whole && all_digits fraction
    && (if is_empty exponent then not (is_empty fraction)
    else (not (is_empty whole) || not (is_empty fraction)) && is_digits (without_leading_sign (drop 1 exponent)))

-- an optional sign and those
unfoldable pub is_float : List ℕ → Bool
is_float token = let text = without_leading_sign token in
    let mantissa = before_first is_marker text in
    are_float_parts (before_first is_point mantissa) (after_first is_point mantissa) (exponent text)

-- a colon and at least one character, none of them a colon
unfoldable pub is_keyword : List ℕ → Bool
is_keyword [] = false
is_keyword (c ∷ name) = is_colon c && not (is_empty name) && not (list_any is_colon name)

-- the first line that fits
unfoldable pub class_of : List ℕ → Class
class_of token =
    if is_integer token then Integer
    else (if is_ratio token || is_float token then Bad
    else (if list_all is_point token then (if length token == 1 then Dot else Bad)
    else (if not (list_any is_colon token) then Symbol
    else (if is_keyword token then Keyword
    else Bad))))

-- the number of an integer's token
abbrev pub value : List ℕ → ℤ
value token = signed_digits_value 10 (before_first is_point token)

abbrev pub Means : Class → List ℕ → Dat → Type 0
Means Integer token d = FitsSigned w64 (value token) × (d ≡ integer (value token))
Means Keyword token d =
    d ≡ symbol (record { text = map to_ascii_uppercase (drop 1 token); keyword = true })
Means Symbol token d = d ≡ symbol (record { text = map to_ascii_uppercase token; keyword = false })
Means Dot token d = ⊥
Means Bad token d = ⊥

abbrev pub Refused : Class → List ℕ → Kind → Type 0
Refused Integer token kind = ¬ (FitsSigned w64 (value token)) × (kind ≡ bad_token)
Refused Keyword token kind = ⊥
Refused Symbol token kind = ⊥
Refused Dot token kind = kind ≡ bad_dot
Refused Bad token kind = kind ≡ bad_token

-- the datum that a token means, and the fault of one that means none
abbrev pub Denotes : List ℕ → Dat → Type 0
Denotes token d = Means (class_of token) token d

abbrev pub DenotesNone : List ℕ → Kind → Type 0
DenotesNone token kind = Refused (class_of token) token kind
