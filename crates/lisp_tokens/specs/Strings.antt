-- Strings (HyperSpec 2.4.5).
use Rattle.std.specs.Prelude.{ℕ, ◌+◌, Bool, true, false, ◌==◌, ◌&&◌, not, if◌then◌else◌, List, [], ◌∷◌, take, drop, encode_utf8_all}
use Rattle.std.specs.Str.{chars}

-- how many bytes stand before the closing quote, or the end. A backslash takes what follows it
abbrev pub body_len : Bool → List ℕ → ℕ
body_len taken [] = 0
body_len taken (b ∷ text) = if not taken && b == 34 then 0 else body_len (not taken && b == 92) text + 1

abbrev pub body : List ℕ → List ℕ
body text = take (body_len false text) text

abbrev pub after_body : List ℕ → List ℕ
after_body text = drop (body_len false text) text

-- the characters without each backslash that takes the next one
abbrev pub unescaped : Bool → List ℕ → List ℕ
unescaped taken [] = []
unescaped taken (c ∷ cs) = if not taken && c == 92 then unescaped true cs else c ∷ unescaped false cs

-- what a string of this body holds, in UTF-8
abbrev pub characters : List ℕ → List ℕ
characters text = encode_utf8_all (unescaped false (chars text))
