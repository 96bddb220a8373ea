-- What quotients leave.
use Rattle.std.proofs.Common.{◌≡◌, ◌≢◌, ◌⊎◌, inl, inr, ℕ, zero, suc, ◌<◌, ◌%◌, ℤ, pos, negsuc, neg_ℤ, ◌+ℤ◌, ◌<ℤ◌, true, false, not, refl, sym, subst, arith}
use Rattle.std.specs.Prelude.{int_rem, unsigned_abs}
use Rattle.std.specs.Ordering.{int_eq}
use Rattle.std.proofs.lemmas.Bool.{cases_eq, and_right, le-ltb}
use Rattle.std.proofs.lemmas.Int.{quot-rem, rem_below, ints}
use Rattle.std.proofs.lemmas.Nat.{mod_below}
use Rattle.lisp_prims.specs.Arithmetic.{is_rounded_up, floor_quotient, truncate_quotient, remainder}
use Rattle.lisp_prims.specs.Rounding.{IsOnSideOf, RoundsDown, RoundsToZero}
use Rattle.lisp_prims.proofs.OnQuotients.{modulus_up, modulus_exact, not_zero, not_zero-pos}

-- ---- rounded to zero

rest_is : (n d : ℤ) → int_rem n d ≡ remainder truncate_quotient n d
rest_is n d = omega (arith, ints, quot-rem n d)

some : (d : ℤ) → d ≢ pos 0 → 0 < unsigned_abs d
some (pos zero) other = absurd (other refl)
some (pos (suc d)) other = omega arith
some (negsuc d) other = omega arith

rest-side : (n d : ℤ) → IsOnSideOf n (int_rem n d)
rest-side (pos a) d = omega (arith, ints)
rest-side (negsuc a) d = omega (arith, ints)

pub rounds_to_zero : RoundsToZero
rounds_to_zero n d other =
    subst (λ (r : ℤ). (unsigned_abs r < unsigned_abs d) × IsOnSideOf n r) (rest_is n d) (rem_below n d (some d other), rest-side n d)

-- ---- rounded down

abbrev Leaves : ℤ → ℤ → Type 0
Leaves d r = (unsigned_abs r < unsigned_abs d) × IsOnSideOf d r

of_exact : (n d : ℤ) → d ≢ pos 0 → is_rounded_up n d ≡ false → Leaves d (int_rem n d) → Leaves d (remainder floor_quotient n d)
of_exact n d other up leaves = subst (Leaves d) (sym (modulus_exact n d other up)) leaves

of_up : (n d : ℤ) → d ≢ pos 0 → is_rounded_up n d ≡ true → Leaves d (int_rem n d +ℤ d) → Leaves d (remainder floor_quotient n d)
of_up n d other up leaves = subst (Leaves d) (sym (modulus_up n d other up)) leaves

abs-below : (z : ℤ) (m : ℕ) → neg_ℤ (pos m) <ℤ z → z <ℤ pos m → unsigned_abs z < m
abs-below (pos n) m above below = omega (arith, ints)
abs-below (negsuc n) m above below = omega (arith, ints)

some-left : (k : ℕ) → k ≢ 0 → 0 < k
some-left zero left = absurd (left refl)
some-left (suc k) left = omega arith

by_negative : (a b : ℕ) → (a % suc b ≡ 0) ⊎ (a % suc b ≢ 0) → Leaves (negsuc b) (remainder floor_quotient (pos a) (negsuc b))
by_negative a b (inl none) =
    of_exact (pos a) (negsuc b) (λ e. cc) (rw none refl) (rw none (omega arith, omega (arith, ints)))
by_negative a b (inr left) =
    let below : a % suc b < suc b = mod_below a (suc b) (omega arith) in
    of_up (pos a) (negsuc b) (λ e. cc) (rw (le-ltb a 0 (omega arith), not_zero-pos (a % suc b) left) refl) (abs-below (pos (a % suc b) +ℤ negsuc b) (suc b) (omega (arith, ints, some-left (a % suc b) left)) (omega (arith, ints)), omega (arith, ints))

of_negative : (a b : ℕ) → (suc a % suc b ≡ 0) ⊎ (suc a % suc b ≢ 0) → Leaves (pos (suc b)) (remainder floor_quotient (negsuc a) (pos (suc b)))
of_negative a b (inl none) =
    of_exact (negsuc a) (pos (suc b)) (λ e. absurd (omega (arith, ints))) (rw none refl) (rw none (omega arith, omega (arith, ints)))
of_negative a b (inr left) =
    let below : suc a % suc b < suc b = mod_below (suc a) (suc b) (omega arith) in
    of_up (negsuc a) (pos (suc b)) (λ e. absurd (omega (arith, ints))) (rw (le-ltb (suc b) 0 (omega arith), not_zero (suc a % suc b) left) refl) (abs-below (neg_ℤ (pos (suc a % suc b)) +ℤ pos (suc b)) (suc b) (omega (arith, ints)) (omega (arith, ints, some-left (suc a % suc b) left)), omega (arith, ints))

pub rounds_down : RoundsDown
rounds_down (pos a) (pos b) other =
    let up : is_rounded_up (pos a) (pos b) ≡ false = rw (le-ltb a 0 (omega arith), le-ltb b 0 (omega arith)) (and_right (not (int_eq (int_rem (pos a) (pos b)) (pos 0))) false refl) in
    of_exact (pos a) (pos b) other up (rem_below (pos a) (pos b) (some (pos b) other), omega (arith, ints))
rounds_down (pos a) (negsuc b) other = by_negative a b (cases_eq (a % suc b) 0)
rounds_down (negsuc a) (pos zero) other = absurd (other refl)
rounds_down (negsuc a) (pos (suc b)) other = of_negative a b (cases_eq (suc a % suc b) 0)
rounds_down (negsuc a) (negsuc b) other =
    let up : is_rounded_up (negsuc a) (negsuc b) ≡ false = and_right (not (int_eq (int_rem (negsuc a) (negsuc b)) (pos 0))) false refl in
    of_exact (negsuc a) (negsuc b) other up (rem_below (negsuc a) (negsuc b) (omega arith), omega (arith, ints))
