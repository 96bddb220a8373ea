-- Members of lists of numbers, each once.
use Rattle.std.proofs.Common.{◌≡◌, ℕ, zero, suc, ◌==◌, Bool, true, false, List, [], ◌∷◌, ◌++◌, inl, inr, length, ◌≤◌, ◌<◌, arith, refl, sym, subst, ap}
use Rattle.std.specs.Prelude.{◌⊎◌}
use Rattle.std.proofs.lemmas.Bool.{eqb-true, eqb-false, eq-eqb}
use Rattle.clos_precedence.specs.Precedence.{has}
use Rattle.clos_precedence.proofs.Truth.{or_left, or_right, either, nothing}
use Rattle.clos_precedence.proofs.NoList.{without, kept, length_removed}

-- no number stands in the list twice
abbrev pub Once : List ℕ → Type 0
Once [] = Unit {0}
Once (x ∷ xs) = (has xs x ≡ false) × Once xs

pub has_first : (x : ℕ) (xs : List ℕ) → has (x ∷ xs) x ≡ true
has_first x xs = or_left (x == x) (has xs x) (eq-eqb x x refl)

pub has_later : (x y : ℕ) (xs : List ℕ) → has xs y ≡ true → has (x ∷ xs) y ≡ true
has_later x y xs h = or_right (x == y) (has xs y) h

first_or_by : (x y : ℕ) (xs : List ℕ) → ((x == y) ≡ true) ⊎ (has xs y ≡ true) → (x ≡ y) ⊎ (has xs y ≡ true)
first_or_by x y xs (inl e) = inl (eqb-true x y e)
first_or_by x y xs (inr h) = inr h

-- a member of a list is its first, or one of the others
pub first_or_later : (x y : ℕ) (xs : List ℕ) → has (x ∷ xs) y ≡ true → (x ≡ y) ⊎ (has xs y ≡ true)
first_or_later x y xs h = first_or_by x y xs (either (x == y) (has xs y) h)

pub it_is : (x y : ℕ) (xs : List ℕ) → x ≡ y → has (x ∷ xs) y ≡ true
it_is x y xs e = subst (λ v. has (x ∷ xs) v ≡ true) e (has_first x xs)

or_else_by : {P : Type 0} (x y : ℕ) (ys : List ℕ) → (x ≡ y) ⊎ P → (P → has ys y ≡ true) → has (x ∷ ys) y ≡ true
or_else_by x y ys (inl e) r = it_is x y ys e
or_else_by x y ys (inr h) r = has_later x y ys (r h)

pub in_first : (xs ys : List ℕ) (y : ℕ) → has xs y ≡ true → has (xs ++ ys) y ≡ true
in_first [] ys y h = nothing h
in_first (x ∷ xs) ys y h = or_else_by x y (xs ++ ys) (first_or_later x y xs h) (λ k. in_first xs ys y k)

pub in_second : (xs ys : List ℕ) (y : ℕ) → has ys y ≡ true → has (xs ++ ys) y ≡ true
in_second [] ys y h = h
in_second (x ∷ xs) ys y h = has_later x y (xs ++ ys) (in_second xs ys y h)

first_too : (x y : ℕ) (xs ys : List ℕ) → (has xs y ≡ true) ⊎ (has ys y ≡ true) → (has (x ∷ xs) y ≡ true) ⊎ (has ys y ≡ true)
first_too x y xs ys (inl h) = inl (has_later x y xs h)
first_too x y xs ys (inr h) = inr h

in_either_by : (x : ℕ) (xs ys : List ℕ) (y : ℕ) → (x ≡ y) ⊎ (has (xs ++ ys) y ≡ true) → (has (xs ++ ys) y ≡ true → (has xs y ≡ true) ⊎ (has ys y ≡ true))
    → (has (x ∷ xs) y ≡ true) ⊎ (has ys y ≡ true)
in_either_by x xs ys y (inl e) r = inl (it_is x y xs e)
in_either_by x xs ys y (inr h) r = first_too x y xs ys (r h)

pub in_either : (xs ys : List ℕ) (y : ℕ) → has (xs ++ ys) y ≡ true → (has xs y ≡ true) ⊎ (has ys y ≡ true)
in_either [] ys y h = inr h
in_either (x ∷ xs) ys y h = in_either_by x xs ys y (first_or_later x y (xs ++ ys) h) (λ k. in_either xs ys y k)

pub differs : (x y : ℕ) (xs : List ℕ) (b : Bool) → (x == y) ≡ b → has xs x ≡ false → has xs y ≡ true → (x == y) ≡ false
differs x y xs true e n h = let p : has xs x ≡ true = subst (λ v. has xs v ≡ true) (sym (eqb-true x y e)) h in cc
differs x y xs false e n h = e

-- of a list whose numbers each stand once, and all in another, there are no more than of that
pub no_more : (xs ys : List ℕ) → Once xs → ((x : ℕ) → has xs x ≡ true → has ys x ≡ true) → length xs ≤ length ys
no_more [] ys o h = omega (arith)
no_more (x ∷ xs) ys o h =
    let p : length xs ≤ length (without x ys) = no_more xs (without x ys) o.1 (λ y k. kept x y ys (differs x y xs (x == y) refl o.0 k) (h y (has_later x y xs k))) in
    let q : length (without x ys) < length ys = length_removed x ys (h x (has_first x xs)) in
    omega (arith, p, q)

-- the numbers below this one
abbrev pub below : ℕ → List ℕ
below zero = []
below (suc n) = n ∷ below n

pub length_below : (n : ℕ) → length (below n) ≡ n
length_below zero = refl
length_below (suc n) = let p : length (below n) ≡ n = length_below n in cc

less_by : (n x : ℕ) → (n == x) ≡ false → x < suc n → x < n
less_by n x e h = omega (arith, h, eqb-false n x e)

is_below_by : (n x : ℕ) (b : Bool) → (n == x) ≡ b → x < suc n → (x < n → has (below n) x ≡ true) → has (n ∷ below n) x ≡ true
is_below_by n x true e h r = it_is n x (below n) (eqb-true n x e)
is_below_by n x false e h r = has_later n x (below n) (r (less_by n x e h))

pub is_below : (n x : ℕ) → x < n → has (below n) x ≡ true
is_below zero x h = absurd (omega (arith, h))
is_below (suc n) x h = is_below_by n x (n == x) refl h (λ k. is_below n x k)

-- what two numbers after these tell apart
pub apart : (m n : ℕ) (b : Bool) → (m == n) ≡ b → (suc m == suc n) ≡ false → (m == n) ≡ false
apart m n true e h = let p : m ≡ n = eqb-true m n e in let q : (suc m == suc n) ≡ true = eq-eqb (suc m) (suc n) (ap suc p) in cc
apart m n false e h = e
