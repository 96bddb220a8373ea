-- The methods that were added, one after another: one that is among the others is kept, any other is left out.
use Rattle.std.proofs.Common.{◌≡◌, ◌+◌, ◌<◌, ℕ, zero, suc, List, [], ◌∷◌, ◌++◌, Bool, true, false, get_or, length, take, ap, ◌∙◌, arith}
use Rattle.std.specs.Prelude.{filter, if◌then◌else◌}
use Rattle.lisp_data.specs.declared.ids.MethodId.{MethodId}
use Rattle.clos_method.specs.MethodIds.{method_numbers}

-- this method alone, or none
abbrev one : Bool → ℕ → List ℕ
one b m = if b then m ∷ [] else []

one_more : (p : ℕ → Bool) (m : ℕ) (b : Bool) → p m ≡ b → filter p (m ∷ []) ≡ one b m
one_more p m b is = ap (λ c. if c then m ∷ [] else []) is

onto : (c : Bool) (m : ℕ) (xs ys zs : List ℕ) → xs ≡ ys ++ zs → (if c then m ∷ xs else xs) ≡ (if c then m ∷ ys else ys) ++ zs
onto true m xs ys zs is = ap (◌∷◌ m) is
onto false m xs ys zs is = is

pub next : (p : ℕ → Bool) (b : Bool) (added : List MethodId) (i : ℕ) (d : MethodId) → i < length added → p (get_or added i d).0 ≡ b → filter p (method_numbers (take (i + 1) added)) ≡ filter p (method_numbers (take i added)) ++ one b (get_or added i d).0
next p b [] i d lt is = absurd (omega (arith, lt))
next p b (m ∷ added) zero d lt is = one_more p m.0 b is
next p b (m ∷ added) (suc i) d lt is =
    let more : suc i + 1 ≡ suc (i + 1) = omega arith
    in ap (λ n. filter p (method_numbers (take n (m ∷ added)))) more
    ∙ onto (p m.0) m.0 (filter p (method_numbers (take (i + 1) added))) (filter p (method_numbers (take i added))) (one b (get_or added i d).0) (next p b added i d (omega (arith, lt)) is)
