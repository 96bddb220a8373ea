-- The names of symbols (HyperSpec 10.1, 11.1.2.3).
use Rattle.std.specs.Prelude.{ℕ, List, Bool, true, false, ◌&&◌}
use Rattle.std.specs.Str.{bytes_eq}

-- a symbol's name: its characters, already in upper case, and whether it is a keyword
pub record Name : Type 0 where
  pub text : List ℕ
  pub keyword : Bool

-- whether both are keywords, or neither is
abbrev pub same_kind : Bool → Bool → Bool
same_kind true true = true
same_kind false false = true
same_kind true false = false
same_kind false true = false

-- whether both are one name
abbrev pub same_name : Name → Name → Bool
same_name a b = same_kind a.keyword b.keyword && bytes_eq a.text b.text
