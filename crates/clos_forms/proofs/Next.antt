-- The next methods after the first.
use Rattle.std.proofs.Common.{◌≡◌, ℕ, zero, suc, ◌+◌, ◌≤◌, List, [], ◌∷◌, length, drop, refl, ap, sym, ◌∙◌, add-one}
use Rattle.std.specs.Prelude.{map}
use Rattle.std.proofs.lemmas.List.{drop_all}
use Rattle.clos_forms.specs.CallMethodView.{callable}
use Rattle.clos_forms.specs.declared.call_method.CalledMethod.{CalledMethod}

one_fewer : (ms : List CalledMethod) (n : ℕ) → map callable (drop (suc n) ms) ≡ drop 1 (map callable (drop n ms))
one_fewer [] zero = refl
one_fewer [] (suc n) = refl
one_fewer (m ∷ ms) zero = refl
one_fewer (m ∷ ms) (suc n) = one_fewer ms n

pub after_first : (ms : List CalledMethod) (n : ℕ) → map callable (drop (n + 1) ms) ≡ drop 1 (map callable (drop n ms))
after_first ms n = ap (λ k. map callable (drop k ms)) (add-one n) ∙ one_fewer ms n

pub none_left : (ms : List CalledMethod) (n : ℕ) → length ms ≤ n → [] ≡ map callable (drop n ms)
none_left ms n h = ap (map callable) (sym (drop_all n ms h))

pub none_after : (ms : List CalledMethod) (n : ℕ) → length ms ≤ n → [] ≡ drop 1 (map callable (drop n ms))
none_after ms n h = ap (λ l. drop 1 (map callable l)) (sym (drop_all n ms h))
