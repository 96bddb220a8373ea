-- Classes as they are noted in rows.
use Rattle.std.specs.Prelude.{◌≡◌, ℕ, true, List, [], slice_get, unwrap_or}
use Rattle.clos_precedence.specs.Precedence.{has}

-- those that are noted in a row
abbrev pub below_at : List (List ℕ) → ℕ → List ℕ
below_at rows n = unwrap_or (slice_get rows n) []

-- what was noted is noted still
abbrev pub Grows : List (List ℕ) → List (List ℕ) → Type 0
Grows old new = (m k : ℕ) → has (below_at old m) k ≡ true → has (below_at new m) k ≡ true
