-- One listing after another is found, until no more are.
use Rattle.std.proofs.Common.{◌≡◌, ℕ, suc, ◌==◌, Bool, true, false, List, inl, inr, length, ◌≤◌, arith, refl, sym, subst}
use Rattle.std.proofs.lemmas.Bool.{eqb-true}
use Rattle.clos_hierarchy.specs.Classes.{Classes, Listing, lacking, broken, listed, found, listing_within}
use Rattle.clos_hierarchy.proofs.Rounds.{more_through, more_found, more_rounds, Settled, more_settled, Holds}
use Rattle.clos_hierarchy.specs.inner.Kept.{More, Sound, AreWhole}
use Rattle.clos_hierarchy.specs.Ways.{IsWhole}
use Rattle.clos_hierarchy.proofs.Families.{whole_found}
use Rattle.clos_hierarchy.proofs.Enough.{listed_within, length_listed}

-- the same, but for this class, of which nothing was said and what is found is said now
pub record Fills (cs : Classes) (of to : ℕ → Listing) (m : ℕ) : Type 0 where
  pub was : of m ≡ lacking
  pub is : to m ≡ found cs of m
  pub others : (n : ℕ) → (m == n) ≡ false → to n ≡ of n

fills_more_by : (cs : Classes) (of to : ℕ → Listing) (m n : ℕ) (b : Bool) → Fills cs of to m → (m == n) ≡ b → More (of n) (to n)
fills_more_by cs of to m n true f e = inl (subst (λ v. of v ≡ lacking) (eqb-true m n e) f.was)
fills_more_by cs of to m n false f e = inr (sym (f.others n e))

pub fills_more : (cs : Classes) (of to : ℕ → Listing) (m n : ℕ) → Fills cs of to m → More (of n) (to n)
fills_more cs of to m n f = fills_more_by cs of to m n (m == n) f refl

fill_sound_by : (cs : Classes) (of to : ℕ → Listing) (m n : ℕ) (b : Bool) → Fills cs of to m → Sound cs of → (m == n) ≡ b → More (to n) (found cs of n)
fill_sound_by cs of to m n true f s e = inr (subst (λ v. to v ≡ found cs of v) (eqb-true m n e) f.is)
fill_sound_by cs of to m n false f s e = subst (λ v. More v (found cs of n)) (sym (f.others n e)) (s n)

pub fill_sound : (cs : Classes) (of to : ℕ → Listing) (m : ℕ) → Fills cs of to m → Sound cs of → Sound cs to
fill_sound cs of to m f s n =
    more_through (to n) (found cs of n) (found cs to n) (fill_sound_by cs of to m n (m == n) f s refl) (more_found cs of to n (λ k. fills_more cs of to m k f))

fill_whole_by : (cs : Classes) (of to : ℕ → Listing) (m n : ℕ) (l : List ℕ) (b : Bool) → Fills cs of to m → AreWhole cs of → (m == n) ≡ b → to n ≡ listed l → IsWhole cs n l
fill_whole_by cs of to m n l true f w e h =
    let p : m ≡ n = eqb-true m n e in
    let q : to n ≡ found cs of n = subst (λ v. to v ≡ found cs of v) p f.is in whole_found cs of n l w cc
fill_whole_by cs of to m n l false f w e h = let p : to n ≡ of n = f.others n e in w n l cc

pub fill_whole : (cs : Classes) (of to : ℕ → Listing) (m : ℕ) → Fills cs of to m → AreWhole cs of → AreWhole cs to
fill_whole cs of to m f w n l h = fill_whole_by cs of to m n l (m == n) f w refl h

-- all is found in so many rounds
abbrev pub Reached : Classes → (ℕ → Listing) → ℕ → Type 0
Reached cs of k = (n : ℕ) → More (of n) (listing_within k cs n)

fill_reached_by : (cs : Classes) (of to : ℕ → Listing) (m k n : ℕ) (b : Bool) → Fills cs of to m → Reached cs of k → (m == n) ≡ b → More (to n) (listing_within (suc k) cs n)
fill_reached_by cs of to m k n true f r e =
    let q : to n ≡ found cs of n = subst (λ v. to v ≡ found cs of v) (eqb-true m n e) f.is in
    subst (λ v. More v (listing_within (suc k) cs n)) (sym q) (more_found cs of (λ s. listing_within k cs s) n r)
fill_reached_by cs of to m k n false f r e =
    subst (λ v. More v (listing_within (suc k) cs n)) (sym (f.others n e)) (more_through (of n) (listing_within k cs n) (listing_within (suc k) cs n) (r n) (more_rounds cs k (suc k) n (omega (arith))))

pub fill_reached : (cs : Classes) (of to : ℕ → Listing) (m k : ℕ) → Fills cs of to m → Reached cs of k → Reached cs to (suc k)
fill_reached cs of to m k f r n = fill_reached_by cs of to m k n (m == n) f r refl

-- lists that hold are found in as many rounds as there are classes
start_by : (cs : Classes) (of : ℕ → Listing) (n : ℕ) (a : Listing) → Holds cs of → AreWhole cs of → ((k : ℕ) → of k ≡ broken → broken ≡ lacking) → of n ≡ a → More a (listing_within (length cs.names) cs n)
start_by cs of n lacking t w b h = inl refl
start_by cs of n broken t w b h = inl (b n h)
start_by cs of n (listed l) t w b h = inr (sym (listed_within cs of (length cs.names) n l t w h (length_listed cs of n l t w h)))

pub start_reached : (cs : Classes) (of : ℕ → Listing) → Holds cs of → AreWhole cs of → ((k : ℕ) → of k ≡ broken → broken ≡ lacking) → Reached cs of (length cs.names)
start_reached cs of t w b n = start_by cs of n (of n) t w b refl

-- where no more is found, all is settled
settle_by : (a b : Listing) → More a b → (a ≡ lacking → b ≡ lacking) → a ≡ b
settle_by a b (inl e) r = let p : b ≡ lacking = r e in cc
settle_by a b (inr e) r = e

pub settle : (cs : Classes) (of : ℕ → Listing) → Sound cs of → ((n : ℕ) → of n ≡ lacking → found cs of n ≡ lacking) → Settled cs of
settle cs of s h n = settle_by (of n) (found cs of n) (s n) (h n)

same_both : (a b : Listing) → More a b → More b a → a ≡ b
same_both a b (inl e) (inl h) = cc
same_both a b (inl e) (inr h) = sym h
same_both a b (inr e) h = e

pub is_listing : (cs : Classes) (of : ℕ → Listing) (k j n : ℕ) → Settled cs of → Reached cs of k → k ≤ j → of n ≡ listing_within j cs n
is_listing cs of k j n s r h =
    same_both (of n) (listing_within j cs n) (more_through (of n) (listing_within k cs n) (listing_within j cs n) (r n) (more_rounds cs k j n h)) (more_settled cs of j n s)
