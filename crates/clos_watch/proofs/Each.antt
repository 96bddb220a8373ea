-- One more notice, and the answer to it.
use Rattle.std.proofs.Common.{◌≡◌, ℤ, ◌+◌, ◌++◌, Bool, true, false, List, [], ◌∷◌, length, length-append, arith, ap, subst, sym, ◌∙◌}
use Rattle.std.specs.Prelude.{◌&&◌}
use Rattle.std.specs.List.{list_all}
use Rattle.clos_watch.specs.Answers.{is_within}

all_with : {A : Type 0} (p : A → Bool) (xs : List A) (x : A) → list_all p xs ≡ true → p x ≡ true → list_all p (xs ++ x ∷ []) ≡ true
all_with p [] x h e = ap (λ b. b && true) e
all_with p (y ∷ ys) x h e = by (p y) h (λ k. all_with p ys x k e)
  where
    by : (b : Bool) → (b && list_all p ys) ≡ true → (list_all p ys ≡ true → list_all p (ys ++ x ∷ []) ≡ true) → (b && list_all p (ys ++ x ∷ [])) ≡ true
    by true k r = r k
    by false k r = k

pub each_now : {N : Type 0} (lo hi : ℤ) (answers answers' : List ℤ) (heard heard' : List N) (answer : ℤ) (notice : N) → answers' ≡ answers ++ answer ∷ [] → heard' ≡ heard ++ notice ∷ []
    → (length answers ≡ length heard) × (list_all (is_within lo hi) answers ≡ true) → is_within lo hi answer ≡ true → (length answers' ≡ length heard') × (list_all (is_within lo hi) answers' ≡ true)
each_now lo hi answers answers' heard heard' answer notice a h e w =
    let p : length (answers ++ answer ∷ []) ≡ length answers + 1 = length-append answers (answer ∷ []) in
    let q : length (heard ++ notice ∷ []) ≡ length heard + 1 = length-append heard (notice ∷ []) in
    let l : length answers ≡ length heard = e.0 in
    let m : length (answers ++ answer ∷ []) ≡ length (heard ++ notice ∷ []) = omega (arith, p, q, l) in
    (ap length a ∙ m ∙ sym (ap length h), subst (λ v. list_all (is_within lo hi) v ≡ true) (sym a) (all_with (is_within lo hi) answers answer e.1 w))
