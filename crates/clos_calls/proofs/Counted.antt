-- Arguments after the first so many.
use Rattle.std.specs.Prelude.{◌+◌}
use Rattle.std.proofs.Common.{◌≡◌, ℕ, zero, suc, ◌-◌, ◌≤◌, List, [], ◌∷◌, map, drop, take, length, arith, refl, ap, ◌∙◌}
use Rattle.std.proofs.lemmas.List.{drop-drop, take_rest}

pub none_after : {A B : Type 0} (f : A → B) (n : ℕ) (xs : List A) → length xs ≤ n → [] ≡ drop n (map f xs)
none_after f zero [] h = refl
none_after f zero (x ∷ xs) h = absurd (omega (arith, h))
none_after f (suc n) [] h = refl
none_after f (suc n) (x ∷ xs) h = none_after f n xs (omega (arith, h))

others : {A B : Type 0} (f : A → B) (n : ℕ) (xs : List A) → map f (drop n xs) ≡ drop n (map f xs)
others f zero xs = refl
others f (suc n) [] = refl
others f (suc n) (x ∷ xs) = others f n xs

pub some_after : {A B : Type 0} (f : A → B) (n : ℕ) (xs : List A) → map f (take (length xs - n) (drop n xs)) ≡ drop n (map f xs)
some_after f n xs = ap (map f) (take_rest xs n) ∙ others f n xs

pub after_both : {A : Type 0} (m n : ℕ) (xs : List A) → drop n (drop m xs) ≡ drop (m + n) xs
after_both m n xs = drop-drop n m xs
