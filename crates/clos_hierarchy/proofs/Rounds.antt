-- Listings that are found round after round.
use Rattle.std.proofs.Common.{◌≡◌, ℕ, zero, suc, Bool, true, false, List, [], ◌∷◌, inl, inr, ◌≤◌, arith, refl, sym, subst, ap}
use Rattle.std.specs.Prelude.{if◌then◌else◌}
use Rattle.clos_precedence.specs.Precedence.{Supers}
use Rattle.clos_hierarchy.specs.Classes.{Classes, Listing, lacking, broken, listed, joined, all_above, in_order, found, superclasses, is_based, listing_within}
use Rattle.clos_hierarchy.specs.inner.Kept.{More, Sound}

pub more_through : (a b c : Listing) → More a b → More b c → More a c
more_through a b c (inl e) h = inl e
more_through a b c (inr e) h = subst (λ v. More v c) (sym e) h

pub joined_lacking : (a : Listing) → joined a lacking ≡ lacking
joined_lacking lacking = refl
joined_lacking broken = refl
joined_lacking (listed l) = refl

pub more_joined : (a b c d : Listing) → More a c → More b d → More (joined a b) (joined c d)
more_joined a b c d (inl e) h = inl (ap (λ v. joined v b) e)
more_joined a b c d (inr e) (inl h) = inl (let p : joined a b ≡ joined a lacking = ap (λ v. joined a v) h in let q : joined a lacking ≡ lacking = joined_lacking a in cc)
more_joined a b c d (inr e) (inr h) = inr cc

pub more_above : (of to : ℕ → Listing) (xs : List ℕ) → ((m : ℕ) → More (of m) (to m)) → More (all_above of xs) (all_above to xs)
more_above of to [] h = inr refl
more_above of to (x ∷ xs) h = more_joined (of x) (all_above of xs) (to x) (all_above to xs) (h x) (more_above of to xs h)

pub more_ordered : (f : Supers) (n : ℕ) (a b : Listing) → More a b → More (in_order f n a) (in_order f n b)
more_ordered f n a b (inl e) = inl (ap (λ v. in_order f n v) e)
more_ordered f n a b (inr e) = inr (ap (λ v. in_order f n v) e)

more_based : (b : Bool) (x y : Listing) → More x y → More (if b then x else lacking) (if b then y else lacking)
more_based true x y h = h
more_based false x y h = inl refl

-- where more is said of the superclasses, more is found
pub more_found : (cs : Classes) (of to : ℕ → Listing) (n : ℕ) → ((m : ℕ) → More (of m) (to m)) → More (found cs of n) (found cs to n)
more_found cs of to n h =
    more_based (is_based cs n) (in_order (superclasses cs) n (all_above of (superclasses cs n))) (in_order (superclasses cs) n (all_above to (superclasses cs n)))
    (more_ordered (superclasses cs) n (all_above of (superclasses cs n)) (all_above to (superclasses cs n)) (more_above of to (superclasses cs n) h))

pub more_next : (cs : Classes) (k n : ℕ) → More (listing_within k cs n) (listing_within (suc k) cs n)
more_next cs zero n = inl refl
more_next cs (suc k) n = more_found cs (λ m. listing_within k cs m) (λ m. listing_within (suc k) cs m) n (λ m. more_next cs k m)

pub more_rounds : (cs : Classes) (k j n : ℕ) → k ≤ j → More (listing_within k cs n) (listing_within j cs n)
more_rounds cs zero j n h = inl refl
more_rounds cs (suc k) zero n h = absurd (omega (arith, h))
more_rounds cs (suc k) (suc j) n h = more_found cs (λ m. listing_within k cs m) (λ m. listing_within j cs m) n (λ m. more_rounds cs k j m (omega (arith, h)))

-- each listing is the one that is found from all
abbrev pub Settled : Classes → (ℕ → Listing) → Type 0
Settled cs of = (n : ℕ) → of n ≡ found cs of n

-- what is found in rounds is settled
pub more_settled : (cs : Classes) (of : ℕ → Listing) (k n : ℕ) → Settled cs of → More (listing_within k cs n) (of n)
more_settled cs of zero n s = inl refl
more_settled cs of (suc k) n s =
    subst (λ v. More (listing_within (suc k) cs n) v) (sym (s n)) (more_found cs (λ m. listing_within k cs m) of n (λ m. more_settled cs of k m s))

-- each list is the one that is found from all
abbrev pub Holds : Classes → (ℕ → Listing) → Type 0
Holds cs of = (n : ℕ) (l : List ℕ) → of n ≡ listed l → found cs of n ≡ listed l

holds_by : (a b : Listing) (l : List ℕ) → More a b → a ≡ listed l → b ≡ listed l
holds_by a b l (inl e) h = cc
holds_by a b l (inr e) h = cc

pub sound_holds : (cs : Classes) (of : ℕ → Listing) → Sound cs of → Holds cs of
sound_holds cs of s n l h = holds_by (of n) (found cs of n) l (s n) h

pub settled_sound : (cs : Classes) (of : ℕ → Listing) → Settled cs of → Sound cs of
settled_sound cs of s n = inr (s n)
