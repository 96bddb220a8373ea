-- The kinds of characters (HyperSpec 2.1.4).
use Rattle.std.specs.Prelude.{ℕ, Bool, false, ◌==◌, ◌&&◌, ◌||◌, not, List, [], ◌∷◌}
use Rattle.std.specs.Int.{is_in_range}
use Rattle.std.specs.List.{list_any}

-- space, tab, newline, return, page
abbrev pub is_blank : ℕ → Bool
is_blank b = b == 32 || b == 9 || b == 10 || b == 13 || b == 12

-- the macro characters " ' ( ) , ; ` and the escapes \ and |
abbrev pub macros_and_escapes : List ℕ
macros_and_escapes = 34 ∷ 39 ∷ 40 ∷ 41 ∷ 44 ∷ 59 ∷ 96 ∷ 92 ∷ 124 ∷ []

-- a character that may stand in a token: any other graphic one of ASCII
abbrev pub is_token_char : ℕ → Bool
is_token_char b = is_in_range 0x21 0x7E b && not (list_any (λ c. c == b) macros_and_escapes)

-- one that may begin a token: # may not
abbrev pub begins_token : ℕ → Bool
begins_token b = is_token_char b && not (b == 35)

-- one that begins a list or a prefix other than #': ( ' ` ,
abbrev pub opens : ℕ → Bool
opens b = b == 40 || b == 39 || b == 96 || b == 44

-- one that begins a datum or a fault of its own; any other begins nothing
abbrev pub begins_something : ℕ → Bool
begins_something b = is_token_char b || opens b || b == 41 || b == 34

-- that character stands at the front of the text
abbrev pub begins_with : ℕ → List ℕ → Bool
begins_with c [] = false
begins_with c (b ∷ text) = b == c

-- a character of a token stands there
abbrev pub goes_on : List ℕ → Bool
goes_on [] = false
goes_on (b ∷ text) = is_token_char b
