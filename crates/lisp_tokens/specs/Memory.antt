-- Where reading takes memory.
use Rattle.std.specs.Prelude.{◌≡◌, ℕ, ◌-◌, ◌<◌, true, List, ◌∷◌, IsUtf8}
use Rattle.lisp_data.specs.Datum.{Dat, symbol}
use Rattle.lisp_data.specs.Name.{Name}
use Rattle.lisp_tokens.specs.Characters.{begins_token}
use Rattle.lisp_tokens.specs.Gaps.{Gaps}
use Rattle.lisp_tokens.specs.Prefix.{HasPrefix}
use Rattle.lisp_tokens.specs.Reading.{Spells}
use Rattle.lisp_tokens.specs.Strings.{body, after_body}
use Rattle.lisp_tokens.specs.Token.{run, Denotes}

-- what begins at the front of a text takes memory: a symbol, a string, a list with an element, a prefix with its
-- datum, or a list or a prefix whose first part takes some. An integer takes none, nor does () or a fault with no such
-- thing before it
pub data Takes : ℕ → List ℕ → Type 0 where
  a_name : (room b : ℕ) (text : List ℕ) (s : Name) → begins_token b ≡ true → Denotes (run (b ∷ text)) (symbol s) → Takes room (b ∷ text)
  a_string : (room : ℕ) (text rest : List ℕ) → IsUtf8 (body text) → after_body text ≡ 34 ∷ rest → Takes room (34 ∷ text)
  an_element : (room : ℕ) (text start : List ℕ) (d : Dat) (rest : List ℕ) → 0 < room → Gaps text start → Spells (room - 1) start d rest → Takes room (40 ∷ text)
  in_element : (room : ℕ) (text start : List ℕ) → 0 < room → Gaps text start → Takes (room - 1) start → Takes room (40 ∷ text)
  a_prefix : (room : ℕ) (text operator after start : List ℕ) (d : Dat) (rest : List ℕ) → 0 < room → HasPrefix text operator after → Gaps after start → Spells (room - 1) start d rest → Takes room text
  in_prefixed : (room : ℕ) (text operator after start : List ℕ) → 0 < room → HasPrefix text operator after → Gaps after start → Takes (room - 1) start → Takes room text
