-- Lists of classes, the latest first.
use Rattle.std.proofs.Common.{◌≡◌, ℕ, zero, suc, ◌==◌, Option, Some, None, option_map, Bool, true, false, List, [], ◌∷◌, ◌++◌, ◌||◌, reverse, append_assoc, length, arith, refl, ap, sym, ◌∙◌}
use Rattle.std.specs.List.{list_any}
use Rattle.std.proofs.lemmas.List.{map-append, reverse-append}
use Rattle.lisp_data.specs.declared.ids.ClassId.{ClassId}
use Rattle.clos_precedence.specs.Precedence.{Supers, has, first_left, if_free, or_else, next_above, are_done, if_all_done, with_first, in_turn}
use Rattle.clos_precedence.specs.PrecedenceView.{numbers, latest_first}

pub or_false : (a : Bool) → (a || false) ≡ a
or_false true = refl
or_false false = refl

or_swapped : (a b c : Bool) → (b || (a || c)) ≡ (a || (b || c))
or_swapped true true c = refl
or_swapped true false c = refl
or_swapped false b c = refl

any_at_end : (p : ℕ → Bool) (xs : List ℕ) (x : ℕ) → list_any p (xs ++ x ∷ []) ≡ (p x || list_any p xs)
any_at_end p [] x = refl
any_at_end p (y ∷ ys) x = ap (λ b. p y || b) (any_at_end p ys x) ∙ or_swapped (p x) (p y) (list_any p ys)

pub latest : (cs : List ClassId) (c : ClassId) → latest_first (cs ++ c ∷ []) ≡ c.0 ∷ latest_first cs
latest cs c = ap reverse (map-append (λ k. k.0) cs (c ∷ [])) ∙ reverse-append (numbers cs) (c.0 ∷ [])

pub reversed_any : (p : ℕ → Bool) (xs : List ℕ) → list_any p (reverse xs) ≡ list_any p xs
reversed_any p [] = refl
reversed_any p (x ∷ xs) = ap (list_any p) (reverse-append (x ∷ []) xs) ∙ any_at_end p (reverse xs) x ∙ ap (λ b. p x || b) (reversed_any p xs)

put_first : (done : List ℕ) (x : ℕ) (xs : List ℕ) → reverse (x ∷ done) ++ xs ≡ reverse done ++ (x ∷ xs)
put_first done x xs = ap (λ l. l ++ xs) (reverse-append (x ∷ []) done) ∙ append_assoc (reverse done) (x ∷ []) xs

put_first_if : (done : List ℕ) (x : ℕ) (o : Option (List ℕ)) → option_map (λ xs. reverse (x ∷ done) ++ xs) o ≡ option_map (λ xs. reverse done ++ xs) (option_map (λ xs. x ∷ xs) o)
put_first_if done x None = refl
put_first_if done x (Some xs) = ap Some (put_first done x xs)

-- one more class in its turn
pub one_turn : (f : Supers) (all done : List ℕ) (x n m : ℕ) → n ≡ suc m → next_above f all done done ≡ Some x
    → option_map (λ xs. reverse (x ∷ done) ++ xs) (in_turn m f all (x ∷ done)) ≡ option_map (λ xs. reverse done ++ xs) (in_turn n f all done)
one_turn f all done x n m e h =
    put_first_if done x (in_turn m f all (x ∷ done))
    ∙ ap (option_map (λ xs. reverse done ++ xs))
    (sym (ap (λ k. in_turn k f all done) e ∙ ap (λ o. with_first o (if_all_done (are_done done all)) (λ y. in_turn m f all (y ∷ done))) h))

-- the last turn
pub no_turn : (f : Supers) (all done : List ℕ) (n : ℕ) → next_above f all done done ≡ None
    → option_map (λ xs. reverse done ++ xs) (if_all_done (are_done done all)) ≡ option_map (λ xs. reverse done ++ xs) (in_turn n f all done)
no_turn f all done zero h = refl
no_turn f all done (suc n) h = ap (option_map (λ xs. reverse done ++ xs)) (sym (ap (λ o. with_first o (if_all_done (are_done done all)) (λ y. in_turn n f all (y ∷ done))) h))

-- going back from the latest, one is found
pub one_above : (f : Supers) (all done : List ℕ) (rest earlier : List ClassId) (latest_one : ClassId) (x : ℕ) → rest ≡ earlier ++ latest_one ∷ [] → Some x ≡ if_free f all done (first_left done (f latest_one.0))
    → Some x ≡ next_above f all done (latest_first rest)
one_above f all done rest earlier k x e h =
    sym (ap (next_above f all done) (ap latest_first e ∙ latest earlier k) ∙ ap (λ o. or_else o (next_above f all done (latest_first earlier))) (sym h))

pub none_above : (f : Supers) (all done : List ℕ) (rest : List ClassId) → length rest ≡ 0 → None ≡ next_above f all done (latest_first rest)
none_above f all done [] h = refl
none_above f all done (c ∷ rest) h = absurd (omega (arith, h))

pub any_number : (cs : List ClassId) (x : ℕ) → list_any (λ c. c.0 == x) cs ≡ has (numbers cs) x
any_number [] x = refl
any_number (c ∷ cs) x = ap (λ v. (c.0 == x) || v) (any_number cs x)

pub both_or : (a b c : Bool) → (a || (b || c)) ≡ ((a || b) || c)
both_or true b c = refl
both_or false b c = refl

pub has_both : (xs ys : List ℕ) (x : ℕ) → has (xs ++ ys) x ≡ (has xs x || has ys x)
has_both [] ys x = refl
has_both (y ∷ xs) ys x = ap (λ v. (y == x) || v) (has_both xs ys x) ∙ both_or (y == x) (has xs x) (has ys x)

pub reversed : (family : List ℕ) (x : ℕ) → has (reverse family) x ≡ has family x
reversed family x = reversed_any (λ y. y == x) family
