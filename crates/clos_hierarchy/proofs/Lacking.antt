-- A class is told to be lacking exactly where it or one of its superclasses has no base.
use Rattle.std.proofs.Common.{◌≡◌, ℕ, zero, suc, ◌+◌, Bool, true, false, List, [], ◌∷◌, Option, Some, None, inl, inr, length, ◌<◌, ◌≤◌, arith, refl, sym, subst, ap, ◌∙◌}
use Rattle.std.specs.Prelude.{◌⊎◌, if◌then◌else◌}
use Rattle.clos_precedence.specs.Precedence.{Supers, has, precedence_list}
use Rattle.clos_hierarchy.specs.Classes.{Classes, Listing, lacking, broken, listed, joined, all_above, listed_if, in_order, found, superclasses, is_based, listing_within, listing}
use Rattle.clos_hierarchy.specs.Ways.{Series, IsSuperclass, IsSelfOrAbove, HasNoBase, FindsLacking}
use Rattle.clos_precedence.proofs.Truth.{nothing}
use Rattle.clos_precedence.proofs.Members.{Once, has_first, has_later, first_or_later, no_more, below, length_below, is_below}
use Rattle.clos_hierarchy.proofs.Rounds.{joined_lacking}
use Rattle.clos_hierarchy.proofs.Change.{based_below}
use Rattle.clos_hierarchy.proofs.Ways.{members_below}

-- ---- without a base, a class and all below it are lacking

above_lacks_by : (of : ℕ → Listing) (z : ℕ) (zs : List ℕ) (x : ℕ) → of x ≡ lacking → (z ≡ x) ⊎ (has zs x ≡ true) → (has zs x ≡ true → all_above of zs ≡ lacking) → all_above of (z ∷ zs) ≡ lacking
above_lacks_by of z zs x h (inl e) r = ap (λ v. joined v (all_above of zs)) (subst (λ v. of v ≡ lacking) (sym e) h)
above_lacks_by of z zs x h (inr g) r = ap (λ v. joined (of z) v) (r g) ∙ joined_lacking (of z)

above_lacks : (of : ℕ → Listing) (xs : List ℕ) (x : ℕ) → has xs x ≡ true → of x ≡ lacking → all_above of xs ≡ lacking
above_lacks of [] x h k = nothing h
above_lacks of (z ∷ zs) x h k = above_lacks_by of z zs x k (first_or_later z x zs h) (λ e. above_lacks of zs x e k)

ordered_lacks : (f : Supers) (n : ℕ) (b : Bool) (a : Listing) → a ≡ lacking → (if b then in_order f n a else lacking) ≡ lacking
ordered_lacks f n true a e = ap (λ v. in_order f n v) e
ordered_lacks f n false a e = refl

pub found_lacks : (cs : Classes) (of : ℕ → Listing) (n x : ℕ) → has (superclasses cs n) x ≡ true → of x ≡ lacking → found cs of n ≡ lacking
found_lacks cs of n x h k =
    ordered_lacks (superclasses cs) n (is_based cs n) (all_above of (superclasses cs n)) (above_lacks of (superclasses cs n) x h k)

pub no_base : (cs : Classes) (k n : ℕ) → is_based cs n ≡ false → listing_within k cs n ≡ lacking
no_base cs zero n h = refl
no_base cs (suc k) n h =
    ap (λ v. if v then in_order (superclasses cs) n (all_above (λ m. listing_within k cs m) (superclasses cs n)) else lacking) h

above_no_base : (cs : Classes) (k n m : ℕ) (xs : List ℕ) → Series cs n xs m → is_based cs m ≡ false → listing_within k cs n ≡ lacking
above_no_base cs zero n m xs s h = refl
above_no_base cs (suc k) n m [] s h = found_lacks cs (λ j. listing_within k cs j) n m s (no_base cs k m h)
above_no_base cs (suc k) n m (x ∷ xs) s h = found_lacks cs (λ j. listing_within k cs j) n x s.0 (above_no_base cs k x m xs s.1 h)

under_circle : (cs : Classes) (k n m : ℕ) (xs ys : List ℕ) → Series cs n xs m → Series cs m ys m → listing_within k cs n ≡ lacking
under_circle cs zero n m xs ys s c = refl
under_circle cs (suc k) n m [] ys s c = found_lacks cs (λ j. listing_within k cs j) n m s (under_circle cs k m m ys ys c c)
under_circle cs (suc k) n m (x ∷ xs) ys s c = found_lacks cs (λ j. listing_within k cs j) n x s.0 (under_circle cs k x m xs ys s.1 c)

lacks : (cs : Classes) (k n m : ℕ) → IsSelfOrAbove cs n m → HasNoBase cs m → listing_within k cs n ≡ lacking
lacks cs k n m (inl e) (inl h) = subst (λ v. listing_within k cs v ≡ lacking) (sym e) (no_base cs k m h)
lacks cs k n m (inl e) (inr c) = subst (λ v. listing_within k cs v ≡ lacking) (sym e) (under_circle cs k m m c.0 c.0 c.1 c.1)
lacks cs k n m (inr s) (inl h) = above_no_base cs k n m s.0 s.1 h
lacks cs k n m (inr s) (inr c) = under_circle cs k n m s.0 c.0 s.1 c.1

-- ---- a way up with a class twice goes round

abbrev NoBase : Classes → ℕ → Type 0
NoBase cs n = (m : ℕ) × IsSelfOrAbove cs n m × HasNoBase cs m

pub one_more : (cs : Classes) (n x m : ℕ) → has (superclasses cs n) x ≡ true → IsSelfOrAbove cs x m → IsSelfOrAbove cs n m
one_more cs n x m h (inl e) = inr ([], subst (λ v. has (superclasses cs n) v ≡ true) e h)
one_more cs n x m h (inr s) = inr (x ∷ s.0, (h, s.1))

no_base_above : (cs : Classes) (n x : ℕ) → has (superclasses cs n) x ≡ true → NoBase cs x → NoBase cs n
no_base_above cs n x h q = (q.0, one_more cs n x q.0 h q.1, q.2)

up_to_by : (cs : Classes) (n x : ℕ) (xs : List ℕ) (z : ℕ) → has (superclasses cs n) x ≡ true → (x ≡ z) ⊎ (has xs z ≡ true) → (has xs z ≡ true → IsSuperclass cs x z) → IsSuperclass cs n z
up_to_by cs n x xs z h (inl e) r = ([], subst (λ v. has (superclasses cs n) v ≡ true) e h)
up_to_by cs n x xs z h (inr g) r = let p : IsSuperclass cs x z = r g in (x ∷ p.0, (h, p.1))

pub up_to : (cs : Classes) (n : ℕ) (xs : List ℕ) (m z : ℕ) → Series cs n xs m → has xs z ≡ true → IsSuperclass cs n z
up_to cs n [] m z s h = nothing h
up_to cs n (x ∷ xs) m z s h = up_to_by cs n x xs z s.0 (first_or_later x z xs h) (λ e. up_to cs x xs m z s.1 e)

round_by : (cs : Classes) (n x : ℕ) (xs : List ℕ) (m : ℕ) (b : Bool) → Series cs n (x ∷ xs) m → Once (x ∷ xs) ⊎ NoBase cs x → has (x ∷ xs) n ≡ b → Once (n ∷ (x ∷ xs)) ⊎ NoBase cs n
round_by cs n x xs m b s (inr q) e = inr (no_base_above cs n x s.0 q)
round_by cs n x xs m true s (inl o) e = inr (n, inl refl, inr (up_to cs n (x ∷ xs) m n s e))
round_by cs n x xs m false s (inl o) e = inl (e, o)

round : (cs : Classes) (n : ℕ) (xs : List ℕ) (m : ℕ) → Series cs n xs m → Once (n ∷ xs) ⊎ NoBase cs n
round cs n [] m s = inl (refl, tt)
round cs n (x ∷ xs) m s = round_by cs n x xs m (has (x ∷ xs) n) s (round cs x xs m s.1) refl

-- ---- where a class is lacking, one way up ends or goes round

abbrev Lacks : (ℕ → Listing) → List ℕ → Type 0
Lacks of xs = (x : ℕ) × (has xs x ≡ true) × (of x ≡ lacking)

which_by : (of : ℕ → Listing) (x : ℕ) (xs : List ℕ) (a rest : Listing) → of x ≡ a → joined a rest ≡ lacking → (rest ≡ lacking → Lacks of xs) → Lacks of (x ∷ xs)
which_by of x xs lacking rest e h r = (x, has_first x xs, e)
which_by of x xs broken lacking e h r = let p : Lacks of xs = r refl in (p.0, has_later x p.0 xs p.1, p.2)
which_by of x xs broken broken e h r = cc
which_by of x xs broken (listed l) e h r = cc
which_by of x xs (listed l) lacking e h r = let p : Lacks of xs = r refl in (p.0, has_later x p.0 xs p.1, p.2)
which_by of x xs (listed l) broken e h r = cc
which_by of x xs (listed l) (listed m) e h r = cc

which : (of : ℕ → Listing) (xs : List ℕ) → all_above of xs ≡ lacking → Lacks of xs
which of [] h = cc
which of (x ∷ xs) h = which_by of x xs (of x) (all_above of xs) refl h (λ e. which of xs e)

never_lacks : {A : Type 0} (o : Option (List ℕ)) → listed_if o ≡ lacking → A
never_lacks None h = cc
never_lacks (Some l) h = cc

by_superclass : (f : Supers) (n : ℕ) (a : Listing) → in_order f n a ≡ lacking → a ≡ lacking
by_superclass f n lacking h = refl
by_superclass f n broken h = h
by_superclass f n (listed l) h = never_lacks (precedence_list f n (n ∷ l)) h

-- a series of so many
abbrev Long : Classes → ℕ → ℕ → Type 0
Long cs n k = (m : ℕ) × (xs : List ℕ) × Series cs n xs m × (length xs ≡ k)

ends_by : (cs : Classes) (n : ℕ) (of : ℕ → Listing) (k : ℕ) (b : Bool) → is_based cs n ≡ b → (if b then in_order (superclasses cs) n (all_above of (superclasses cs n)) else lacking) ≡ lacking
    → ((x : ℕ) → has (superclasses cs n) x ≡ true → of x ≡ lacking → NoBase cs n ⊎ Long cs n k) → NoBase cs n ⊎ Long cs n k
ends_by cs n of k true e h r =
    let p : Lacks of (superclasses cs n) = which of (superclasses cs n) (by_superclass (superclasses cs) n (all_above of (superclasses cs n)) h) in r p.0 p.1 p.2
ends_by cs n of k false e h r = inl (n, inl refl, inl e)

longer : (cs : Classes) (n x k : ℕ) → has (superclasses cs n) x ≡ true → NoBase cs x ⊎ Long cs x k → NoBase cs n ⊎ Long cs n (suc k)
longer cs n x k h (inl q) = inl (no_base_above cs n x h q)
longer cs n x k h (inr p) = inr (p.0, x ∷ p.1, (h, p.2), ap suc p.3)

ends : (cs : Classes) (k n : ℕ) → listing_within (suc k) cs n ≡ lacking → NoBase cs n ⊎ Long cs n k
ends cs zero n h = ends_by cs n (λ m. listing_within zero cs m) zero (is_based cs n) refl h (λ x g e. inr (x, [], g, refl))
ends cs (suc k) n h = ends_by cs n (λ m. listing_within (suc k) cs m) (suc k) (is_based cs n) refl h (λ x g e. longer cs n x k g (ends cs k x e))

members_by : (cs : Classes) (n : ℕ) (xs : List ℕ) (m x : ℕ) → n < length cs.names → Series cs n xs m → (n ≡ x) ⊎ (has xs x ≡ true) → x < length cs.names
members_by cs n xs m x b s (inl e) = subst (λ v. v < length cs.names) e b
members_by cs n xs m x b s (inr h) = members_below cs n xs m x s h

not_longer : (cs : Classes) (n : ℕ) (xs : List ℕ) (m : ℕ) → n < length cs.names → Series cs n xs m → Once (n ∷ xs) → length xs < length cs.names
not_longer cs n xs m b s o =
    let p : length (n ∷ xs) ≤ length (below (length cs.names)) = no_more (n ∷ xs) (below (length cs.names)) o (λ x h. is_below (length cs.names) x (members_by cs n xs m x b s (first_or_later n x xs h))) in
    let q : length (below (length cs.names)) ≡ length cs.names = length_below (length cs.names) in
    omega (arith, p, q)

goes_round : (cs : Classes) (n : ℕ) (xs : List ℕ) (m : ℕ) → n < length cs.names → length cs.names ≤ length xs → Series cs n xs m → Once (n ∷ xs) ⊎ NoBase cs n → NoBase cs n
goes_round cs n xs m b l s (inl o) = let p : length xs < length cs.names = not_longer cs n xs m b s o in absurd (omega (arith, l, p))
goes_round cs n xs m b l s (inr q) = q

long_goes_round : (cs : Classes) (k n : ℕ) → n < length cs.names → length cs.names ≤ k → NoBase cs n ⊎ Long cs n k → NoBase cs n
long_goes_round cs k n b l (inl q) = q
long_goes_round cs k n b l (inr p) = let e : length p.1 ≡ k = p.3 in goes_round cs n p.1 p.0 b (omega (arith, l, e)) p.2 (round cs n p.1 p.0 p.2)

enough : (cs : Classes) (k n : ℕ) → n < length cs.names → length cs.names < k → listing_within k cs n ≡ lacking → NoBase cs n
enough cs zero n b l h = absurd (omega (arith, l))
enough cs (suc k) n b l h = long_goes_round cs k n b (omega (arith, l)) (ends cs k n h)

lacking_by : (cs : Classes) (n : ℕ) (b : Bool) → is_based cs n ≡ b → listing cs n ≡ lacking → NoBase cs n
lacking_by cs n true e h =
    let p : n < length cs.names = (based_below cs n e).0 in enough cs (length cs.names + length cs.names) n p (omega (arith, p)) h
lacking_by cs n false e h = (n, inl refl, inl e)

pub finds_lacking : FindsLacking
finds_lacking cs n = (lacking_by cs n (is_based cs n) refl, λ q. lacks cs (length cs.names + length cs.names) n q.0 q.1 q.2)
