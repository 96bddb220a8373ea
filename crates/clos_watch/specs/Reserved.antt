-- A list, and how many more there is room for.
use Rattle.std.specs.Prelude.{ℕ, List}

pub record Places (T : Type 0) : Type 0 where
  pub items : List T
  pub room : ℕ
