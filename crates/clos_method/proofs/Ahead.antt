-- Numbers in lists, one ahead of another.
use Rattle.std.proofs.Common.{◌≡◌, ℕ, inl, inr, List, [], ◌∷◌, refl, sym, ◌∙◌, subst}
use Rattle.clos_method.specs.Laws.{IsMember, HasNoneTwice, StandsAhead}

pub is_first_in : (xs : List ℕ) (n m : ℕ) → StandsAhead xs n m → IsMember xs n
is_first_in [] n m h = h
is_first_in (x ∷ xs) n m (inl h) = inl h.0
is_first_in (x ∷ xs) n m (inr h) = inr (is_first_in xs n m h)

pub is_second_in : (xs : List ℕ) (n m : ℕ) → StandsAhead xs n m → IsMember xs m
is_second_in [] n m h = h
is_second_in (x ∷ xs) n m (inl h) = inr h.1
is_second_in (x ∷ xs) n m (inr h) = inr (is_second_in xs n m h)

pub member_along : (xs : List ℕ) (n m : ℕ) → n ≡ m → IsMember xs n → IsMember xs m
member_along xs n m e h = subst (λ k. IsMember xs k) e h

-- not both ahead of each other
pub not_both : (xs : List ℕ) (n m : ℕ) → HasNoneTwice xs → StandsAhead xs n m → StandsAhead xs m n → ⊥
not_both [] n m d h k = h
not_both (x ∷ xs) n m d (inl h) (inl k) = d.0 (member_along xs m x (sym k.0) h.1)
not_both (x ∷ xs) n m d (inl h) (inr k) = d.0 (member_along xs n x (sym h.0) (is_second_in xs m n k))
not_both (x ∷ xs) n m d (inr h) (inl k) = d.0 (member_along xs m x (sym k.0) (is_second_in xs n m h))
not_both (x ∷ xs) n m d (inr h) (inr k) = not_both xs n m d.1 h k

pub turned : (xs : List ℕ) (n m : ℕ) → n ≡ m → StandsAhead xs n m → StandsAhead xs m n
turned xs n m e h = subst (λ k. StandsAhead xs m k) (sym e) (subst (λ k. StandsAhead xs k m) e h)

-- of two in a list, which are one, or either is ahead
pub data Placing (xs : List ℕ) (n m : ℕ) : Type 0 where
  same_one : n ≡ m → Placing xs n m
  first_ahead : StandsAhead xs n m → Placing xs n m
  second_ahead : StandsAhead xs m n → Placing xs n m

one_further : (x : ℕ) (xs : List ℕ) (n m : ℕ) → Placing xs n m → Placing (x ∷ xs) n m
one_further x xs n m (same_one e) = same_one e
one_further x xs n m (first_ahead h) = first_ahead (inr h)
one_further x xs n m (second_ahead h) = second_ahead (inr h)

pub placing : (xs : List ℕ) (n m : ℕ) → IsMember xs n → IsMember xs m → Placing xs n m
placing [] n m h k = absurd h
placing (x ∷ xs) n m (inl h) (inl k) = same_one (sym h ∙ k)
placing (x ∷ xs) n m (inl h) (inr k) = first_ahead (inl (h, k))
placing (x ∷ xs) n m (inr h) (inl k) = second_ahead (inl (k, h))
placing (x ∷ xs) n m (inr h) (inr k) = one_further x xs n m (placing xs n m h k)

-- ---- lists of the same numbers, of which the same are ahead of one another

not_inside : (y : ℕ) (ys : List ℕ) (x : ℕ) → HasNoneTwice (y ∷ ys) → StandsAhead (y ∷ ys) x y → ⊥
not_inside y ys x d (inl h) = d.0 h.1
not_inside y ys x d (inr h) = d.0 (is_second_in ys x y h)

same_heads : (x : ℕ) (xs : List ℕ) (y : ℕ) (ys : List ℕ) → HasNoneTwice (y ∷ ys) → IsMember (x ∷ xs) y
    → ((n m : ℕ) → StandsAhead (x ∷ xs) n m → StandsAhead (y ∷ ys) n m) → x ≡ y
same_heads x xs y ys d (inl h) ahead = h
same_heads x xs y ys d (inr h) ahead = absurd (not_inside y ys x d (ahead x y (inl (refl, h))))

in_rest : (x y : ℕ) (xs ys : List ℕ) (n : ℕ) → x ≡ y → HasNoneTwice (x ∷ xs) → IsMember xs n → IsMember (y ∷ ys) n → IsMember ys n
in_rest x y xs ys n e d h (inl k) = absurd (d.0 (member_along xs n x (sym k ∙ sym e) h))
in_rest x y xs ys n e d h (inr k) = k

ahead_in_rest : (x y : ℕ) (xs ys : List ℕ) (n m : ℕ) → x ≡ y → HasNoneTwice (x ∷ xs) → StandsAhead xs n m → StandsAhead (y ∷ ys) n m → StandsAhead ys n m
ahead_in_rest x y xs ys n m e d h (inl k) = absurd (d.0 (member_along xs n x (sym k.0 ∙ sym e) (is_first_in xs n m h)))
ahead_in_rest x y xs ys n m e d h (inr k) = k

pub same_lists : (xs ys : List ℕ) → HasNoneTwice xs → HasNoneTwice ys → ((n : ℕ) → IsMember xs n → IsMember ys n) → ((n : ℕ) → IsMember ys n → IsMember xs n)
    → ((n m : ℕ) → StandsAhead xs n m → StandsAhead ys n m) → xs ≡ ys
same_lists [] [] d f there back ahead = refl
same_lists [] (y ∷ ys) d f there back ahead = absurd (back y (inl refl))
same_lists (x ∷ xs) [] d f there back ahead = absurd (there x (inl refl))
same_lists (x ∷ xs) (y ∷ ys) d f there back ahead =
    let e : x ≡ y = same_heads x xs y ys f (back y (inl refl)) ahead in
    let rest : xs ≡ ys =
    same_lists xs ys d.1 f.1 (λ n h. in_rest x y xs ys n e d h (there n (inr h))) (λ n h. in_rest y x ys xs n (sym e) f h (back n (inr h)))
    (λ n m h. ahead_in_rest x y xs ys n m e d h (ahead n m (inr h))) in
    λ i. e i ∷ rest i
