-- What quotients leave (HyperSpec 12.2, functions FLOOR and TRUNCATE).
use Rattle.std.specs.Prelude.{◌≢◌, ◌<◌, ℤ, pos, negsuc, ◌≤ℤ◌, unsigned_abs}
use Rattle.lisp_prims.specs.Arithmetic.{floor_quotient, truncate_quotient, remainder}

-- a number is 0 or on the side of another
abbrev pub IsOnSideOf : ℤ → ℤ → Type 0
IsOnSideOf (pos n) r = pos 0 ≤ℤ r
IsOnSideOf (negsuc n) r = r ≤ℤ pos 0

-- a quotient rounded down leaves less than the divisor, on the divisor's side
abbrev pub RoundsDown : Type 0
RoundsDown =
    (n d : ℤ) → d ≢ pos 0 → (unsigned_abs (remainder floor_quotient n d) < unsigned_abs d) × IsOnSideOf d (remainder floor_quotient n d)

-- a quotient rounded to zero leaves less than the divisor, on the number's side
abbrev pub RoundsToZero : Type 0
RoundsToZero =
    (n d : ℤ) → d ≢ pos 0 → (unsigned_abs (remainder truncate_quotient n d) < unsigned_abs d) × IsOnSideOf n (remainder truncate_quotient n d)
