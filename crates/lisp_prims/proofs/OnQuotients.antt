-- Quotients rounded down, from those rounded to zero.
use Rattle.std.proofs.Common.{◌≡◌, ◌≢◌, ◌∙◌, ◌⊎◌, inl, inr, ℕ, zero, suc, ◌+◌, ◌*◌, ◌<◌, ◌/◌, ◌%◌, ℤ, pos, negsuc, neg_ℤ, ◌+ℤ◌, ◌-ℤ◌, ◌*ℤ◌, Bool, true, false, cond, not, ◌&&◌, refl, sym, ap, arith}
use Rattle.std.specs.Prelude.{int_div, int_rem, unsigned_abs}
use Rattle.std.specs.Ordering.{int_eq}
use Rattle.std.proofs.Math.Nat.{zero-div, zero-mod}
use Rattle.std.proofs.Math.IntN.{pred_ℤ, pred_ℤ-*ℤ, -ℤ_one}
use Rattle.std.proofs.lemmas.Bool.{cases_eq, and_right, le-ltb, false_from_ne_true}
use Rattle.std.proofs.lemmas.Bool.Decides.{Decides-int_eq}
use Rattle.std.proofs.lemmas.Int.{quot-rem, ints, to_z-of_z}
use Rattle.std.proofs.lemmas.Nat.{div-mul-add, mod-mul-add, mod_below, div-add-mod'}
use Rattle.std.proofs.Math.Nat.{suc-mul}
use Rattle.lisp_prims.specs.Arithmetic.{is_rounded_up, floor_quotient, remainder}

-- one more is a multiple, or lies in the same part
abbrev Next : ℕ → ℕ → Type 0
Next a m = ((suc a % m ≡ 0) × (suc a / m ≡ suc (a / m))) ⊎ ((suc a % m ≢ 0) × (suc a / m ≡ a / m))

next-whole : (a m : ℕ) → 0 < m → suc (a % m) ≡ m → Next a m
next-whole a m some end =
    let e : suc a ≡ suc (a / m) * m + 0 = omega (arith, div-add-mod' a m, suc-mul (a / m) m) in
    inl (ap (λ (k : ℕ). k % m) e ∙ mod-mul-add (suc (a / m)) m 0 some, ap (λ (k : ℕ). k / m) e ∙ div-mul-add (suc (a / m)) m 0 some)

next-part : (a m : ℕ) → 0 < m → suc (a % m) < m → Next a m
next-part a m some below =
    let e : suc a ≡ (a / m) * m + suc (a % m) = omega (arith, div-add-mod' a m) in
    let r : suc a % m ≡ suc (a % m) = ap (λ (k : ℕ). k % m) e ∙ mod-mul-add (a / m) m (suc (a % m)) below in
    inr ((λ none. absurd (omega arith)), ap (λ (k : ℕ). k / m) e ∙ div-mul-add (a / m) m (suc (a % m)) below)

next-by : (a m : ℕ) → 0 < m → (suc (a % m) ≡ m) ⊎ (suc (a % m) ≢ m) → Next a m
next-by a m some (inl end) = next-whole a m some end
next-by a m some (inr other) = next-part a m some (omega (arith, mod_below a m some))

next : (a m : ℕ) → 0 < m → Next a m
next a m some = next-by a m some (cases_eq (suc (a % m)) m)

abbrev Rounded : ℤ → ℤ → Bool → Type 0
Rounded n d up = floor_quotient n d ≡ cond up (int_div n d -ℤ pos 1) (int_div n d)

below : (k : ℕ) → neg_ℤ (pos k) -ℤ pos 1 ≡ negsuc k
below k = omega (arith, ints)

differ : (m n : ℤ) → m ≢ n → int_eq m n ≡ false
differ m n other = false_from_ne_true (int_eq m n) (λ e. other ((Decides-int_eq m n).0 e))

pub not_zero-pos : (r : ℕ) → r ≢ 0 → int_eq (pos r) (pos 0) ≡ false
not_zero-pos r some = differ (pos r) (pos 0) (λ e. some (ap unsigned_abs e))

pub not_zero : (r : ℕ) → r ≢ 0 → int_eq (neg_ℤ (pos r)) (pos 0) ≡ false
not_zero zero some = absurd (some refl)
not_zero (suc r) some = differ (negsuc r) (pos 0) (λ e. cc)

by_negative : (a b : ℕ) → Next a (suc b) → Rounded (pos (suc a)) (negsuc b) (not (int_eq (pos (suc a % suc b)) (pos 0)))
by_negative a b (inl whole) = rw (whole.0, whole.1) refl
by_negative a b (inr part) = rw (part.1, not_zero-pos (suc a % suc b) part.0) (sym (below (a / suc b)))

of_negative : (a b : ℕ) → Next a (suc b) → Rounded (negsuc a) (pos (suc b)) (not (int_eq (neg_ℤ (pos (suc a % suc b))) (pos 0)))
of_negative a b (inl whole) = rw (whole.0, whole.1) refl
of_negative a b (inr part) = rw (part.1, not_zero (suc a % suc b) part.0) (sym (below (a / suc b)))

and-true : (b : Bool) → (b && true) ≡ b
and-true true = refl
and-true false = refl

pub floor_is : (n d : ℤ) → d ≢ pos 0 → Rounded n d (is_rounded_up n d)
floor_is (pos a) (pos b) other =
    rw (le-ltb a 0 (omega arith), le-ltb b 0 (omega arith), and_right (not (int_eq (int_rem (pos a) (pos b)) (pos 0))) false refl) refl
floor_is (pos zero) (negsuc b) other = rw (zero-div (suc b), zero-mod (suc b)) refl
floor_is (pos (suc a)) (negsuc b) other =
    rw (le-ltb (suc a) 0 (omega arith), and-true (not (int_eq (pos (suc a % suc b)) (pos 0)))) (by_negative a b (next a (suc b) (omega arith)))
floor_is (negsuc a) (pos zero) other = absurd (other refl)
floor_is (negsuc a) (pos (suc b)) other =
    rw (le-ltb (suc b) 0 (omega arith), and-true (not (int_eq (neg_ℤ (pos (suc a % suc b))) (pos 0)))) (of_negative a b (next a (suc b) (omega arith)))
floor_is (negsuc a) (negsuc b) other = rw (and_right (not (int_eq (int_rem (negsuc a) (negsuc b)) (pos 0))) false refl) refl

-- the quotient rounded down, as it is found
pub floor_up : (n d : ℤ) → d ≢ pos 0 → is_rounded_up n d ≡ true → floor_quotient n d ≡ int_div n d -ℤ pos 1
floor_up n d other up = floor_is n d other ∙ ap (λ (b : Bool). cond b (int_div n d -ℤ pos 1) (int_div n d)) up

pub floor_exact : (n d : ℤ) → d ≢ pos 0 → is_rounded_up n d ≡ false → floor_quotient n d ≡ int_div n d
floor_exact n d other up = floor_is n d other ∙ ap (λ (b : Bool). cond b (int_div n d -ℤ pos 1) (int_div n d)) up

-- and what it leaves
pub modulus_up : (n d : ℤ) → d ≢ pos 0 → is_rounded_up n d ≡ true → remainder floor_quotient n d ≡ int_rem n d +ℤ d
modulus_up n d other up =
    let q : floor_quotient n d ≡ pred_ℤ (int_div n d) = floor_up n d other up ∙ -ℤ_one (int_div n d) in
    let product : floor_quotient n d *ℤ d ≡ int_div n d *ℤ d -ℤ d = ap (λ (k : ℤ). k *ℤ d) q ∙ pred_ℤ-*ℤ (int_div n d) d in
    omega (arith, ints, quot-rem n d)

pub modulus_exact : (n d : ℤ) → d ≢ pos 0 → is_rounded_up n d ≡ false → remainder floor_quotient n d ≡ int_rem n d
modulus_exact n d other up =
    let product : floor_quotient n d *ℤ d ≡ int_div n d *ℤ d = ap (λ (k : ℤ). k *ℤ d) (floor_exact n d other up) in
    omega (arith, ints, quot-rem n d)

pub ruleset rounding = (floor_up, floor_exact, to_z-of_z)
