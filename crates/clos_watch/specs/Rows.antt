-- Rows of places.
use Rattle.std.specs.Prelude.{◌≡◌, ℕ, false, List, [], ◌∷◌}
use Rattle.clos_watch.specs.Watching.{has}

-- no place stands in the list twice
abbrev pub Once : List ℕ → Type 0
Once [] = Unit {0}
Once (x ∷ xs) = (has xs x ≡ false) × Once xs
