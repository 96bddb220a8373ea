-- The numbers of classes, functions and methods.
use Rattle.std.specs.Prelude.{ℕ, List, Bool, nat_eq}
use lib.Pointwise.{pointwise}

-- whether both are the same numbers in the same order
abbrev pub same_numbers : List ℕ → List ℕ → Bool
same_numbers = pointwise nat_eq
