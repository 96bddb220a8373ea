-- What dependents answer.
use Rattle.std.specs.Prelude.{ℕ, ℤ, int_lt, nat_le, Bool, not, ◌&&◌, if◌then◌else◌}

-- an answer within these bounds
abbrev pub is_within : ℤ → ℤ → ℤ → Bool
is_within lo hi n = not (int_lt n lo) && not (int_lt hi n)

abbrev pub least : ℕ → ℕ → ℕ
least m n = if nat_le m n then m else n
