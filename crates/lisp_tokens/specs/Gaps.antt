-- The gaps between data: whitespace and comments (HyperSpec 2.1.4.7, 2.4.4, 2.4.8.19).
use Rattle.std.specs.Prelude.{◌≡◌, ℕ, ◌+◌, Bool, true, false, ◌==◌, ◌&&◌, ◌||◌, not, List, [], ◌∷◌, take, drop, take_while, IsUtf8}
use Rattle.std.specs.List.{prefix_len}
use Rattle.std.specs.Str.{IsValidUpTo}
use Rattle.lisp_tokens.specs.Characters.{is_blank, begins_with}
use Rattle.lisp_tokens.specs.Fault.{Kind, end_inside, not_text}

-- the mark #| stands at the front
abbrev pub opens_comment : List ℕ → Bool
opens_comment text = begins_with 35 text && begins_with 124 (drop 1 text)

-- the mark |# stands at the front
abbrev pub closes_comment : List ℕ → Bool
closes_comment text = begins_with 124 text && begins_with 35 (drop 1 text)

-- a blank, a semicolon or the mark #|
abbrev pub begins_gap : List ℕ → Bool
begins_gap [] = false
begins_gap (b ∷ text) = is_blank b || b == 59 || opens_comment (b ∷ text)

-- a byte other than a newline
abbrev pub is_in_line : ℕ → Bool
is_in_line b = not (b == 10)

-- the rest of the line, up to its newline or the end, and what follows
abbrev pub line : List ℕ → List ℕ
line text = take_while is_in_line text

abbrev pub after_line : List ℕ → List ℕ
after_line text = drop (prefix_len is_in_line text) text

-- what follows a mark #|, up to and with the mark |# that closes it, is so many bytes long. Such comments nest
pub data Closes : List ℕ → ℕ → Type 0 where
  mark : (text : List ℕ) → Closes (124 ∷ 35 ∷ text) 2
  nested : (text : List ℕ) (m n : ℕ) → Closes text m → Closes (drop m text) n → Closes (35 ∷ 124 ∷ text) (2 + (m + n))
  other : (b : ℕ) (text : List ℕ) (n : ℕ) → opens_comment (b ∷ text) ≡ false → closes_comment (b ∷ text) ≡ false → Closes text n → Closes (b ∷ text) (n + 1)

-- no mark closes it
abbrev pub Unclosed : List ℕ → Type 0
Unclosed text = (n : ℕ) → Closes text n → ⊥

-- all the gaps at the front of a text, and what follows them
pub data Gaps : List ℕ → List ℕ → Type 0 where
  no_more : (text : List ℕ) → begins_gap text ≡ false → Gaps text text
  blank : (b : ℕ) (text rest : List ℕ) → is_blank b ≡ true → Gaps text rest → Gaps (b ∷ text) rest
  comment : (text rest : List ℕ) → IsUtf8 (line text) → Gaps (after_line text) rest → Gaps (59 ∷ text) rest
  block : (text : List ℕ) (n : ℕ) (rest : List ℕ) → Closes text n → IsUtf8 (take n text) → Gaps (drop n text) rest → Gaps (35 ∷ 124 ∷ text) rest

-- a comment in those gaps is at fault: it is no text from `at` on, or it begins at `at` and the text ends inside it
pub data GapFails : List ℕ → Kind → List ℕ → Type 0 where
  here : (text : List ℕ) (n : ℕ) → IsValidUpTo (line text) n → GapFails (59 ∷ text) not_text (drop n text)
  in_block : (text : List ℕ) (m n : ℕ) → Closes text m → IsValidUpTo (take m text) n → GapFails (35 ∷ 124 ∷ text) not_text (drop n text)
  in_open_block : (text : List ℕ) (n : ℕ) → Unclosed text → IsValidUpTo text n → GapFails (35 ∷ 124 ∷ text) not_text (drop n text)
  open_block : (text : List ℕ) → Unclosed text → IsUtf8 text → GapFails (35 ∷ 124 ∷ text) end_inside (35 ∷ 124 ∷ text)
  after_blank : (b : ℕ) (text : List ℕ) (kind : Kind) (at : List ℕ) → is_blank b ≡ true → GapFails text kind at → GapFails (b ∷ text) kind at
  after_comment : (text : List ℕ) (kind : Kind) (at : List ℕ) → IsUtf8 (line text) → GapFails (after_line text) kind at → GapFails (59 ∷ text) kind at
  after_block : (text : List ℕ) (n : ℕ) (kind : Kind) (at : List ℕ) → Closes text n → IsUtf8 (take n text) → GapFails (drop n text) kind at → GapFails (35 ∷ 124 ∷ text) kind at
