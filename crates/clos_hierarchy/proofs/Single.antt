-- A class with one direct superclass stands before that one's class precedence list.
use Rattle.std.proofs.Common.{◌≡◌, ℕ, Bool, true, false, List, [], ◌∷◌, ◌++◌, Option, Some, None, length, ◌<◌, refl, sym, subst, ap}
use Rattle.std.specs.Prelude.{nat_lt, if◌then◌else◌}
use Rattle.std.proofs.lemmas.Bool.{lt-ltb}
use Rattle.std.proofs.lemmas.List.{append-nil}
use Rattle.clos_precedence.specs.Precedence.{Supers, precedence_list, IsPrecedenceList, IsFamily, Tells}
use Rattle.clos_hierarchy.specs.Classes.{Classes, Listing, listed, joined, all_above, listed_if, in_order, found, names_above, are_defined, superclasses, is_based}
use Rattle.clos_hierarchy.specs.declared.kept.Kept.{Kept}
use Rattle.clos_hierarchy.specs.inner.KeptView.{listing_at, above_by}
use Rattle.clos_hierarchy.specs.inner.Kept.{Keeps, IsSingle}
use Rattle.clos_precedence.proofs.Truth.{both}
use Rattle.clos_precedence.proofs.OneSuperclass.{one_superclass}
use Rattle.clos_precedence.proofs.OnPrecedence.{tells}
use Rattle.clos_hierarchy.proofs.Families.{over_all}
use Rattle.clos_hierarchy.proofs.Rounds.{sound_holds}
use Rattle.clos_hierarchy.proofs.Found.{finds_based}
use Rattle.clos_hierarchy.proofs.Turned.{own_list}

only_by : (f : Supers) (all l : List ℕ) (o : Option (List ℕ)) → IsPrecedenceList f all l → Tells f all o → o ≡ Some l
only_by f all l None p t = absurd (t.0 l p)
only_by f all l (Some m) p t = ap Some (sym (t.1 l p))

-- the list that fits is found
pub is_found : (f : Supers) (c : ℕ) (all l : List ℕ) → IsFamily f c all → IsPrecedenceList f all l → precedence_list f c all ≡ Some l
is_found f c all l m p = only_by f all l (precedence_list f c all) p (tells f c all (precedence_list f c all) refl m)

single_above : (of : ℕ → Listing) (s : ℕ) (l : List ℕ) → of s ≡ listed l → all_above of (s ∷ []) ≡ listed l
single_above of s l h =
    let p : joined (listed l) (listed []) ≡ listed (l ++ []) = refl in
    let q : l ++ [] ≡ l = append-nil l in cc

single_found : (cs : Classes) (ks : List Kept) (n : ℕ) (a : Listing) (l : List ℕ) → is_based cs n ≡ true → IsSingle (listing_at ks) n (superclasses cs n) l → a ≡ listed (n ∷ l) → Keeps cs ks
    → a ≡ found cs (listing_at ks) n
single_found cs ks n a l b i e k =
    let s : ℕ = i.0 in
    let o : superclasses cs n ≡ s ∷ [] = i.1 in
    let all : all_above (listing_at ks) (superclasses cs n) ≡ listed l = subst (λ v. all_above (listing_at ks) v ≡ listed l) (sym o) (single_above (listing_at ks) s l i.2) in
    let m : IsFamily (superclasses cs) n (n ∷ l) = over_all cs (listing_at ks) n l k.whole all in
    let p : IsPrecedenceList (superclasses cs) l l = own_list cs (listing_at ks) s l (sound_holds cs (listing_at ks) k.sound) k.whole i.2 in
    let q : IsPrecedenceList (superclasses cs) (n ∷ l) (n ∷ l) = one_superclass (superclasses cs) n s l l (k.whole s l i.2).family o i.3 p in
    let r : precedence_list (superclasses cs) n (n ∷ l) ≡ Some (n ∷ l) = is_found (superclasses cs) n (n ∷ l) (n ∷ l) m q in
    let g : in_order (superclasses cs) n (all_above (listing_at ks) (superclasses cs n)) ≡ listed_if (precedence_list (superclasses cs) n (n ∷ l)) = ap (λ v. in_order (superclasses cs) n v) all in cc

pub one_based : (ks : List Kept) (n : ℕ) (a : Listing) (l xs : List ℕ) → IsSingle (listing_at ks) n xs l → a ≡ listed (n ∷ l) → (cs : Classes) → is_based cs n ≡ true → xs ≡ superclasses cs n → Keeps cs ks
    → a ≡ found cs (listing_at ks) n
one_based ks n a l xs i e cs b h k = single_found cs ks n a l b (subst (λ v. IsSingle (listing_at ks) n v l) h i) e k

pub over_based : (ks : List Kept) (n : ℕ) (a : Listing) (xs : List ℕ) → a ≡ in_order (above_by ks n xs) n (all_above (listing_at ks) xs) → (cs : Classes) → is_based cs n ≡ true → xs ≡ superclasses cs n → Keeps cs ks
    → a ≡ found cs (listing_at ks) n
over_based ks n a xs e cs b h k = finds_based cs ks n a b (subst (λ v. a ≡ in_order (above_by ks n v) n (all_above (listing_at ks) v)) h e) k

one_by : (cs : Classes) (n : ℕ) (xs : List ℕ) (b : Bool) → are_defined cs (names_above cs n) ≡ b → Some xs ≡ (if b then Some (superclasses cs n) else None) → (b ≡ true) × (xs ≡ superclasses cs n)
one_by cs n xs true e h = (refl, cc)
one_by cs n xs false e h = cc

-- what is found of a class in the table, whose direct superclasses are all defined
pub found_based : (cs : Classes) (ks : List Kept) (n : ℕ) (a : Listing) (xs : List ℕ) → n < length cs.names → Some xs ≡ (if are_defined cs (names_above cs n) then Some (superclasses cs n) else None)
    → ((ds : Classes) → is_based ds n ≡ true → xs ≡ superclasses ds n → Keeps ds ks → a ≡ found ds (listing_at ks) n) → Keeps cs ks → a ≡ found cs (listing_at ks) n
found_based cs ks n a xs h d r k =
    let p : (are_defined cs (names_above cs n) ≡ true) × (xs ≡ superclasses cs n) = one_by cs n xs (are_defined cs (names_above cs n)) refl d in
    r cs (both (nat_lt n (length cs.names)) (are_defined cs (names_above cs n)) (lt-ltb n (length cs.names) h) p.0) p.1 k
