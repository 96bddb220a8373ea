-- Prefixes: characters that stand for the name of an operator (HyperSpec 2.4.3, 2.4.6, 2.4.7, 2.4.8.2).
use Rattle.std.specs.Prelude.{◌≡◌, ℕ, Bool, false, ◌==◌, ◌||◌, List, [], ◌∷◌, codes}

-- @ or . at the front: after a comma they belong to it
abbrev pub extends_comma : List ℕ → Bool
extends_comma [] = false
extends_comma (b ∷ text) = b == 64 || b == 46

-- the prefix at the front of a text: its operator, and what follows it
pub data HasPrefix : List ℕ → List ℕ → List ℕ → Type 0 where
  quote : (text : List ℕ) → HasPrefix (39 ∷ text) (codes "QUOTE") text
  function : (text : List ℕ) → HasPrefix (35 ∷ 39 ∷ text) (codes "FUNCTION") text
  backquote : (text : List ℕ) → HasPrefix (96 ∷ text) (codes "QUASIQUOTE") text
  comma : (text : List ℕ) → extends_comma text ≡ false → HasPrefix (44 ∷ text) (codes "UNQUOTE") text
  splice : (text : List ℕ) → HasPrefix (44 ∷ 64 ∷ text) (codes "UNQUOTE-SPLICING") text
