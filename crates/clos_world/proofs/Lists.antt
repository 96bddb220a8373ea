-- Lists of values.
use Rattle.std.proofs.Common.{◌≡◌, ℕ, ◌≤◌, List, [], ◌∷◌, ◌++◌, length, map, take, ap, ◌∙◌, sym}
use Rattle.std.specs.List.{take-map}
use Rattle.std.proofs.lemmas.List.{reverse-append, reverse-reverse, take_all}
use Rattle.lisp_data.specs.Value.{Val}
use Rattle.clos_world.specs.Values.{turned, last_first}

-- the last of some values before the others
pub last_before : (xs : List Val) (x : Val) → x ∷ xs ≡ last_first (xs ++ x ∷ [])
last_before xs x = sym (ap turned (reverse-append xs (x ∷ [])) ∙ ap (λ l. x ∷ l) (reverse-reverse xs))

-- so many of them, where there are no more
pub all_taken : {A B : Type 0} (f : A → B) (n : ℕ) (xs : List A) → length xs ≤ n → map f xs ≡ take n (map f xs)
all_taken f n xs h = ap (map f) (sym (take_all n xs h)) ∙ sym (take-map f n xs)

pub some_taken : {A B : Type 0} (f : A → B) (n : ℕ) (xs : List A) → map f (take n xs) ≡ take n (map f xs)
some_taken f n xs = sym (take-map f n xs)
