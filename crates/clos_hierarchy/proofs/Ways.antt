-- Ways up from class to class: a class is told to be above itself exactly where it is its own superclass.
use Rattle.std.proofs.Common.{◌≡◌, ℕ, zero, suc, Bool, true, false, List, [], ◌∷◌, Option, Some, None, inl, inr, length, ◌<◌, ◌≤◌, arith, refl, sym, subst, ap}
use Rattle.std.specs.Prelude.{◌⊎◌, nat_lt, position, option_to_list}
use Rattle.std.specs.List.{position_or_len}
use Rattle.std.proofs.lemmas.Bool.{ltb-true}
use Rattle.lisp_data.specs.Name.{Name, same_name}
use Rattle.clos_precedence.specs.Precedence.{has}
use Rattle.clos_hierarchy.specs.Classes.{Classes, named, defined, names_above, superclasses, one_up, is_met, is_circular}
use Rattle.clos_hierarchy.specs.Ways.{Series, IsSuperclass, FindsCircles}
use Rattle.clos_precedence.proofs.Truth.{or_left, or_right, either, nothing}
use Rattle.clos_precedence.proofs.Members.{Once, has_first, has_later, first_or_later, in_first, in_second, in_either, no_more, below, length_below, is_below}

-- ---- one step up

up_to_by : (cs : Classes) (z : ℕ) (zs : List ℕ) (x y : ℕ) → (z ≡ x) ⊎ (has zs x ≡ true) → has (superclasses cs x) y ≡ true → (has zs x ≡ true → has (one_up cs zs) y ≡ true)
    → has (one_up cs (z ∷ zs)) y ≡ true
up_to_by cs z zs x y (inl e) k r = in_first (superclasses cs z) (one_up cs zs) y (subst (λ v. has (superclasses cs v) y ≡ true) (sym e) k)
up_to_by cs z zs x y (inr h) k r = in_second (superclasses cs z) (one_up cs zs) y (r h)

up_to : (cs : Classes) (xs : List ℕ) (x y : ℕ) → has xs x ≡ true → has (superclasses cs x) y ≡ true → has (one_up cs xs) y ≡ true
up_to cs [] x y h k = nothing h
up_to cs (z ∷ zs) x y h k = up_to_by cs z zs x y (first_or_later z x zs h) k (λ e. up_to cs zs x y e k)

-- ---- superclasses are classes

found_before : (p : Name → Bool) (xs : List Name) (i : ℕ) (b : Bool) → nat_lt (position_or_len p xs) (length xs) ≡ b → position p xs ≡ Some i → i < length xs
found_before p xs i true e h =
    let l : position_or_len p xs < length xs = ltb-true (position_or_len p xs) (length xs) e in
    let q : position_or_len p xs ≡ i = cc in omega (arith, l, q)
found_before p xs i false e h = cc

pub named_below : (cs : Classes) (x : Name) (i : ℕ) → named cs x ≡ Some i → i < length cs.names
named_below cs x i h = found_before (λ n. same_name x n) cs.names i (nat_lt (position_or_len (λ n. same_name x n) cs.names) (length cs.names)) refl h

one_by : (j i : ℕ) → (j ≡ i) ⊎ (has [] i ≡ true) → Some j ≡ Some i
one_by j i (inl e) = ap Some e
one_by j i (inr h) = nothing h

pub one_of : (o : Option ℕ) (i : ℕ) → has (option_to_list o) i ≡ true → o ≡ Some i
one_of None i h = nothing h
one_of (Some j) i h = one_by j i (first_or_later j i [] h)

defined_by : (cs : Classes) (x : Name) (xs : List Name) (i : ℕ) → (has (option_to_list (named cs x)) i ≡ true) ⊎ (has (defined cs xs) i ≡ true) → (has (defined cs xs) i ≡ true → i < length cs.names)
    → i < length cs.names
defined_by cs x xs i (inl h) r = named_below cs x i (one_of (named cs x) i h)
defined_by cs x xs i (inr h) r = r h

defined_below : (cs : Classes) (xs : List Name) (i : ℕ) → has (defined cs xs) i ≡ true → i < length cs.names
defined_below cs [] i h = nothing h
defined_below cs (x ∷ xs) i h = defined_by cs x xs i (in_either (option_to_list (named cs x)) (defined cs xs) i h) (λ k. defined_below cs xs i k)

pub superclass_below : (cs : Classes) (n i : ℕ) → has (superclasses cs n) i ≡ true → i < length cs.names
superclass_below cs n i h = defined_below cs (names_above cs n) i h

members_by : (cs : Classes) (n y x : ℕ) (ys : List ℕ) → has (superclasses cs n) y ≡ true → (y ≡ x) ⊎ (has ys x ≡ true) → (has ys x ≡ true → x < length cs.names) → x < length cs.names
members_by cs n y x ys h (inl e) r = subst (λ v. v < length cs.names) e (superclass_below cs n y h)
members_by cs n y x ys h (inr g) r = r g

pub members_below : (cs : Classes) (n : ℕ) (xs : List ℕ) (m x : ℕ) → Series cs n xs m → has xs x ≡ true → x < length cs.names
members_below cs n [] m x s h = nothing h
members_below cs n (y ∷ ys) m x s h = members_by cs n y x ys s.0 (first_or_later y x ys h) (λ k. members_below cs y ys m x s.1 k)

pub end_below : (cs : Classes) (n : ℕ) (xs : List ℕ) (m : ℕ) → Series cs n xs m → m < length cs.names
end_below cs n [] m s = superclass_below cs n m s
end_below cs n (y ∷ ys) m s = end_below cs y ys m s.1

-- ---- no class is needed twice

-- a series in which n is not, and no class twice
abbrev Straight : Classes → ℕ → ℕ → Type 0
Straight cs n m = (xs : List ℕ) × Series cs n xs m × Once (n ∷ xs)

cut_by : (cs : Classes) (x n m : ℕ) (xs : List ℕ) → Series cs x xs m → Once (x ∷ xs) → (x ≡ n) ⊎ (has xs n ≡ true) → (has xs n ≡ true → Straight cs n m) → Straight cs n m
cut_by cs x n m xs s o (inl e) r = subst (λ v. Straight cs v m) e (xs, s, o)
cut_by cs x n m xs s o (inr h) r = r h

-- what comes after a class that is met again
cut : (cs : Classes) (k n m : ℕ) (xs : List ℕ) → Series cs k xs m → Once xs → has xs n ≡ true → Straight cs n m
cut cs k n m [] s o h = nothing h
cut cs k n m (x ∷ xs) s o h = cut_by cs x n m xs s.1 o (first_or_later x n xs h) (λ e. cut cs x n m xs s.1 o.1 e)

straight_by : (cs : Classes) (n x m : ℕ) (p : Straight cs x m) (b : Bool) → has (superclasses cs n) x ≡ true → has (x ∷ p.0) n ≡ b → Straight cs n m
straight_by cs n x m p true h e = cut cs n n m (x ∷ p.0) (h, p.1) p.2 e
straight_by cs n x m p false h e = (x ∷ p.0, (h, p.1), (e, p.2))

straight : (cs : Classes) (n : ℕ) (xs : List ℕ) (m : ℕ) → Series cs n xs m → Straight cs n m
straight cs n [] m s = ([], s, (refl, tt))
straight cs n (x ∷ xs) m s =
    let p : Straight cs x m = straight cs x xs m s.1 in straight_by cs n x m p (has (x ∷ p.0) n) s.0 refl

own_by : (cs : Classes) (n : ℕ) (xs : List ℕ) (x : ℕ) → Series cs n xs n → (n ≡ x) ⊎ (has xs x ≡ true) → x < length cs.names
own_by cs n xs x s (inl e) = subst (λ v. v < length cs.names) e (end_below cs n xs n s)
own_by cs n xs x s (inr h) = members_below cs n xs n x s h

-- a class that is its own superclass is so by fewer classes than there are
short : (cs : Classes) (n : ℕ) (xs : List ℕ) → Series cs n xs n → Once (n ∷ xs) → length xs < length cs.names
short cs n xs s o =
    let p : length (n ∷ xs) ≤ length (below (length cs.names)) = no_more (n ∷ xs) (below (length cs.names)) o (λ x h. is_below (length cs.names) x (own_by cs n xs x s (first_or_later n x xs h))) in
    let q : length (below (length cs.names)) ≡ length cs.names = length_below (length cs.names) in
    omega (arith, p, q)

-- ---- one step up after another

met : (cs : Classes) (n x : ℕ) (ys xs : List ℕ) (k : ℕ) → has xs x ≡ true → Series cs x ys n → length ys < k → is_met k cs n xs ≡ true
met cs n x ys xs zero h s l = absurd (omega (arith, l))
met cs n x [] xs (suc k) h s l = or_left (has (one_up cs xs) n) (is_met k cs n (one_up cs xs)) (up_to cs xs x n h s)
met cs n x (y ∷ ys) xs (suc k) h s l =
    or_right (has (one_up cs xs) n) (is_met k cs n (one_up cs xs)) (met cs n y ys (one_up cs xs) k (up_to cs xs x y h s.0) s.1 (omega (arith, l)))

-- it is a direct superclass of one of these
abbrev Over : Classes → List ℕ → ℕ → Type 0
Over cs xs y = (x : ℕ) × (has xs x ≡ true) × (has (superclasses cs x) y ≡ true)

over_by : (cs : Classes) (x : ℕ) (xs : List ℕ) (y : ℕ) → (has (superclasses cs x) y ≡ true) ⊎ (has (one_up cs xs) y ≡ true) → (has (one_up cs xs) y ≡ true → Over cs xs y) → Over cs (x ∷ xs) y
over_by cs x xs y (inl h) r = (x, has_first x xs, h)
over_by cs x xs y (inr h) r = let p : Over cs xs y = r h in (p.0, has_later x p.0 xs p.1, p.2)

over : (cs : Classes) (xs : List ℕ) (y : ℕ) → has (one_up cs xs) y ≡ true → Over cs xs y
over cs [] y h = nothing h
over cs (x ∷ xs) y h = over_by cs x xs y (in_either (superclasses cs x) (one_up cs xs) y h) (λ e. over cs xs y e)

-- it is a superclass of one of these
abbrev Above : Classes → List ℕ → ℕ → Type 0
Above cs xs n = (x : ℕ) × (has xs x ≡ true) × IsSuperclass cs x n

above_by : (k : ℕ) (cs : Classes) (n : ℕ) (xs : List ℕ) → (has (one_up cs xs) n ≡ true) ⊎ (is_met k cs n (one_up cs xs) ≡ true) → (is_met k cs n (one_up cs xs) ≡ true → Above cs (one_up cs xs) n)
    → Above cs xs n
above_by k cs n xs (inl h) r = let p : Over cs xs n = over cs xs n h in (p.0, p.1, ([], p.2))
above_by k cs n xs (inr h) r =
    let q : Above cs (one_up cs xs) n = r h in
    let p : Over cs xs q.0 = over cs xs q.0 q.1 in (p.0, p.1, (q.0 ∷ q.2.0, (p.2, q.2.1)))

above : (k : ℕ) (cs : Classes) (n : ℕ) (xs : List ℕ) → is_met k cs n xs ≡ true → Above cs xs n
above zero cs n xs h = nothing h
above (suc k) cs n xs h = above_by k cs n xs (either (has (one_up cs xs) n) (is_met k cs n (one_up cs xs)) h) (λ e. above k cs n (one_up cs xs) e)

of_one : (cs : Classes) (n x : ℕ) → (n ≡ x) ⊎ (has [] x ≡ true) → IsSuperclass cs x n → IsSuperclass cs n n
of_one cs n x (inl e) s = subst (λ v. IsSuperclass cs v n) (sym e) s
of_one cs n x (inr h) s = nothing h

pub own_superclass : (cs : Classes) (n : ℕ) → is_circular cs n ≡ true → IsSuperclass cs n n
own_superclass cs n h = let p : Above cs (n ∷ []) n = above (length cs.names) cs n (n ∷ []) h in of_one cs n p.0 (first_or_later n p.0 [] p.1) p.2

pub is_circle : (cs : Classes) (n : ℕ) → IsSuperclass cs n n → is_circular cs n ≡ true
is_circle cs n q =
    let p : Straight cs n n = straight cs n q.0 n q.1 in met cs n n p.0 (n ∷ []) (length cs.names) (has_first n []) p.1 (short cs n p.0 p.1 p.2)

pub finds_circles : FindsCircles
finds_circles cs n = (own_superclass cs n, is_circle cs n)
