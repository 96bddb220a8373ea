-- What is found by what is kept.
use Rattle.std.proofs.Common.{◌≡◌, ℕ, ◌==◌, Bool, true, false, List, [], ◌∷◌, ◌++◌, inl, inr, refl, sym, subst, ap}
use Rattle.std.specs.Prelude.{◌||◌, ◌⊎◌}
use Rattle.std.proofs.lemmas.Bool.{eqb-true, eq-eqb}
use Rattle.clos_precedence.specs.Precedence.{has, IsFamily}
use Rattle.clos_hierarchy.specs.Classes.{Classes, Listing, lacking, broken, listed, joined, all_above, listed_if, in_order, found, superclasses, is_based, is_lacking, is_broken, list_in}
use Rattle.clos_hierarchy.specs.inner.Finding.{any_lacking, any_broken, together}
use Rattle.clos_hierarchy.specs.declared.kept.Kept.{Kept}
use Rattle.clos_hierarchy.specs.inner.KeptView.{listing_at, kept_above, kept_at, above_by}
use Rattle.clos_hierarchy.specs.inner.Kept.{Keeps, ListWithin}
use Rattle.clos_precedence.proofs.Truth.{neither}
use Rattle.clos_precedence.proofs.Members.{first_or_later}
use Rattle.clos_hierarchy.proofs.Families.{From, from_above, over_all}
use Rattle.clos_precedence.proofs.SameOrder.{same_order}

-- ---- the lists of the superclasses, together

lacking_by : (a : Listing) (b : Bool) (rest : Listing) → (is_lacking a || b) ≡ true → (b ≡ true → rest ≡ lacking) → joined a rest ≡ lacking
lacking_by lacking b rest h r = refl
lacking_by broken b rest h r = let p : rest ≡ lacking = r h in let q : joined broken lacking ≡ lacking = refl in cc
lacking_by (listed l) b rest h r = let p : rest ≡ lacking = r h in let q : joined (listed l) lacking ≡ lacking = refl in cc

pub some_lack : (of : ℕ → Listing) (xs : List ℕ) → any_lacking of xs ≡ true → all_above of xs ≡ lacking
some_lack of [] h = cc
some_lack of (x ∷ xs) h = lacking_by (of x) (any_lacking of xs) (all_above of xs) h (λ e. some_lack of xs e)

listed_by : (a rest : Listing) (l : List ℕ) → is_lacking a ≡ false → is_broken a ≡ false → rest ≡ listed l → joined a rest ≡ listed (list_in a ++ l)
listed_by lacking rest l h k e = cc
listed_by broken rest l h k e = cc
listed_by (listed m) rest l h k e = let q : joined (listed m) (listed l) ≡ listed (m ++ l) = refl in cc

pub all_are : (of : ℕ → Listing) (xs : List ℕ) → any_lacking of xs ≡ false → any_broken of xs ≡ false → all_above of xs ≡ listed (together of xs)
all_are of [] h k = refl
all_are of (x ∷ xs) h k =
    let p : (is_lacking (of x) ≡ false) × (any_lacking of xs ≡ false) = neither (is_lacking (of x)) (any_lacking of xs) h in
    let q : (is_broken (of x) ≡ false) × (any_broken of xs ≡ false) = neither (is_broken (of x)) (any_broken of xs) k in
    listed_by (of x) (all_above of xs) (together of xs) p.0 q.0 (all_are of xs p.1 q.1)

broken_first : (a rest : Listing) (b : Bool) → is_lacking a ≡ false → (b ≡ true → rest ≡ broken) → (b ≡ false → (l : List ℕ) × (rest ≡ listed l)) → (is_broken a || b) ≡ true → joined a rest ≡ broken
broken_first lacking rest b h r s k = cc
broken_first broken rest true h r s k = let p : rest ≡ broken = r refl in let q : joined broken broken ≡ broken = refl in cc
broken_first broken rest false h r s k = let p : (l : List ℕ) × (rest ≡ listed l) = s refl in let e : rest ≡ listed p.0 = p.1 in let q : joined broken (listed p.0) ≡ broken = refl in cc
broken_first (listed m) rest b h r s k = let p : rest ≡ broken = r k in let q : joined (listed m) broken ≡ broken = refl in cc

pub some_broken : (of : ℕ → Listing) (xs : List ℕ) → any_lacking of xs ≡ false → any_broken of xs ≡ true → all_above of xs ≡ broken
some_broken of [] h k = cc
some_broken of (x ∷ xs) h k =
    let p : (is_lacking (of x) ≡ false) × (any_lacking of xs ≡ false) = neither (is_lacking (of x)) (any_lacking of xs) h in
    broken_first (of x) (all_above of xs) (any_broken of xs) p.0 (λ e. some_broken of xs p.1 e) (λ e. (together of xs, all_are of xs p.1 e)) k

-- ---- by the superclasses that are kept

kept_by : (ks : List Kept) (n k : ℕ) (xs ys : List ℕ) (b : Bool) → (k == n) ≡ b → (n ≡ k → xs ≡ ys) → kept_above (kept_at ks k) ≡ ys → above_by ks n xs k ≡ ys
kept_by ks n k xs ys true e r h = let p : xs ≡ ys = r (sym (eqb-true k n e)) in cc
kept_by ks n k xs ys false e r h = cc

own_by : (ks : List Kept) (n : ℕ) (xs : List ℕ) → above_by ks n xs n ≡ xs
own_by ks n xs = let p : (n == n) ≡ true = eq-eqb n n refl in cc

pub agree_by : (cs : Classes) (ks : List Kept) (n k : ℕ) (above : List ℕ) → Keeps cs ks → all_above (listing_at ks) (superclasses cs n) ≡ listed above → (n ≡ k) ⊎ (has above k ≡ true)
    → superclasses cs k ≡ above_by ks n (superclasses cs n) k
agree_by cs ks n k above m h (inl e) = subst (λ v. superclasses cs v ≡ above_by ks n (superclasses cs n) v) e (sym (own_by ks n (superclasses cs n)))
agree_by cs ks n k above m h (inr g) =
    let p : From (listing_at ks) (superclasses cs n) k = from_above (listing_at ks) (superclasses cs n) above k h g in
    let q : ListWithin (listing_at ks) k p.list = m.nested p.by p.list k p.has_list p.member in
    sym (kept_by ks n k (superclasses cs n) (superclasses cs k) (k == n) refl (λ e. ap (λ v. superclasses cs v) e) (m.above k q.0 q.1))

ordered_same : (cs : Classes) (ks : List Kept) (n : ℕ) (a : Listing) → Keeps cs ks → is_based cs n ≡ true → all_above (listing_at ks) (superclasses cs n) ≡ a
    → in_order (above_by ks n (superclasses cs n)) n a ≡ in_order (superclasses cs) n a
ordered_same cs ks n lacking m b h = refl
ordered_same cs ks n broken m b h = refl
ordered_same cs ks n (listed above) m b h =
    let g : IsFamily (superclasses cs) n (n ∷ above) = over_all cs (listing_at ks) n above m.whole h in
    ap listed_if (sym (same_order (superclasses cs) (above_by ks n (superclasses cs n)) n (n ∷ above) (λ k i. agree_by cs ks n k above m h (first_or_later n k above i)) g.upward g.self))

pub found_based : (cs : Classes) (of : ℕ → Listing) (n : ℕ) (a : Listing) → is_based cs n ≡ true → a ≡ in_order (superclasses cs) n (all_above of (superclasses cs n)) → a ≡ found cs of n
found_based cs of n a b e = cc

-- what is found by the superclasses that are kept is what the definitions say
pub finds_based : (cs : Classes) (ks : List Kept) (n : ℕ) (a : Listing) → is_based cs n ≡ true → a ≡ in_order (above_by ks n (superclasses cs n)) n (all_above (listing_at ks) (superclasses cs n)) → Keeps cs ks
    → a ≡ found cs (listing_at ks) n
finds_based cs ks n a b e m =
    let p : in_order (above_by ks n (superclasses cs n)) n (all_above (listing_at ks) (superclasses cs n)) ≡ in_order (superclasses cs) n (all_above (listing_at ks) (superclasses cs n)) =
    ordered_same cs ks n (all_above (listing_at ks) (superclasses cs n)) m b refl in
    found_based cs (listing_at ks) n a b cc
