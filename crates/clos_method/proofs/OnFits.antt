-- Steps of the loop that asks whether specializers fit.
use Rattle.std.proofs.Common.{◌≡◌, ℕ, zero, suc, ◌<◌, List, [], ◌∷◌, true, false, ◌&&◌, length, drop, get_or, refl, ap, ◌∙◌, sym, arith}
use Rattle.clos_method.specs.Applicable.{all_fit, fits}
use Rattle.clos_method.specs.ApplicableView.{fits_at}
use Rattle.clos_method.specs.Arguments.{Argument}
use Rattle.clos_method.specs.Specializer.{specializer_of, specializers_in}
use Rattle.clos_method.specs.declared.specializer.Specializer as code

past_all : (k : ℕ) (ss : List code.Specializer) (s : code.Specializer) → k < length ss → all_fit [] (specializers_in (drop k ss)) ≡ false
past_all k [] s p = absurd (omega (arith, p))
past_all zero (t ∷ ss) s p = refl
past_all (suc k) (t ∷ ss) s p = past_all k ss s (omega (arith, p))

-- where one does not fit, not all do
pub one_does_not : (args : List Argument) (ss : List code.Specializer) (k : ℕ) (s : code.Specializer) → k < length ss → s ≡ get_or ss k s → fits_at args k (specializer_of s) ≡ false
    → all_fit (drop k args) (specializers_in (drop k ss)) ≡ false
one_does_not args [] k s p e h = absurd (omega (arith, p))
one_does_not [] (t ∷ ss) zero s p e h = refl
one_does_not [] (t ∷ ss) (suc k) s p e h = past_all k ss s (omega (arith, p))
one_does_not (a ∷ args) (t ∷ ss) zero s p e h = ap (λ b. b && all_fit args (specializers_in ss)) (ap (λ u. fits a (specializer_of u)) (sym e) ∙ h)
one_does_not (a ∷ args) (t ∷ ss) (suc k) s p e h = one_does_not args ss k s (omega (arith, p)) e h

-- where one fits, all do where the others do
pub one_does : (args : List Argument) (ss : List code.Specializer) (k : ℕ) (s : code.Specializer) → k < length ss → s ≡ get_or ss k s → fits_at args k (specializer_of s) ≡ true
    → all_fit (drop (suc k) args) (specializers_in (drop (suc k) ss)) ≡ all_fit (drop k args) (specializers_in (drop k ss))
one_does args [] k s p e h = absurd (omega (arith, p))
one_does [] (t ∷ ss) k s p e h = cc
one_does (a ∷ args) (t ∷ ss) zero s p e h = ap (λ b. b && all_fit args (specializers_in ss)) (sym (ap (λ u. fits a (specializer_of u)) (sym e) ∙ h))
one_does (a ∷ args) (t ∷ ss) (suc k) s p e h = one_does args ss k s (omega (arith, p)) e h
