-- What is found of a class over its family, however that is listed.
use Rattle.std.proofs.Common.{◌≡◌, ℕ, true, false, List, [], ◌∷◌, length, reverse, arith, sym, subst, ap, ◌∙◌}
use Rattle.std.specs.Prelude.{◌||◌}
use Rattle.lisp_data.specs.declared.ids.ClassId.{ClassId}
use Rattle.clos_precedence.specs.Precedence.{has, precedence_list, IsFamily}
use Rattle.clos_hierarchy.specs.Classes.{Classes, Listing, lacking, broken, listed, all_above, listed_if, in_order, found, superclasses, is_based}
use Rattle.clos_hierarchy.specs.inner.Finding.{any_lacking, any_broken, together}
use Rattle.clos_hierarchy.specs.declared.kept.Kept.{Kept}
use Rattle.clos_precedence.specs.PrecedenceView.{numbers}
use Rattle.clos_hierarchy.specs.inner.KeptView.{listing_at, above_by}
use Rattle.clos_hierarchy.specs.inner.Kept.{Keeps}
use Rattle.clos_precedence.proofs.Lists.{or_false, reversed}
use Rattle.clos_precedence.proofs.Members.{first_or_later}
use Rattle.clos_precedence.proofs.SameOrder.{same_order}
use Rattle.clos_hierarchy.proofs.Families.{over_all}
use Rattle.clos_precedence.proofs.SameMembers.{Same, same_family, same_members}
use Rattle.clos_hierarchy.proofs.Found.{some_lack, some_broken, all_are, agree_by, found_based}
use Rattle.clos_hierarchy.proofs.Single.{over_based}

-- ---- the family of a class, each member once

pub family_end : (of : ℕ → Listing) (left : List ClassId) (items family all : List ℕ) → length left ≡ 0 → items ≡ reverse family
    → ((x : ℕ) → (has family x || has (together of (numbers left)) x) ≡ has all x) → (x : ℕ) → has items x ≡ has all x
family_end of [] items family all n e h x = ap (λ l. has l x) e ∙ (reversed family x ∙ (sym (or_false (has family x)) ∙ h x))
family_end of (c ∷ left) items family all n e h x = absurd (omega (arith, n))

-- ---- what is found over such a family

pub lacking_based : (ks : List Kept) (n : ℕ) (a : Listing) (xs : List ℕ) → any_lacking (listing_at ks) xs ≡ true → a ≡ lacking → (cs : Classes) → is_based cs n ≡ true → xs ≡ superclasses cs n → Keeps cs ks
    → a ≡ found cs (listing_at ks) n
lacking_based ks n a xs h e = over_based ks n a xs (e ∙ ap (in_order (above_by ks n xs) n) (sym (some_lack (listing_at ks) xs h)))

pub broken_based : (ks : List Kept) (n : ℕ) (a : Listing) (xs : List ℕ) → any_lacking (listing_at ks) xs ≡ false → any_broken (listing_at ks) xs ≡ true → a ≡ broken
    → (cs : Classes) → is_based cs n ≡ true → xs ≡ superclasses cs n → Keeps cs ks → a ≡ found cs (listing_at ks) n
broken_based ks n a xs h g e = over_based ks n a xs (e ∙ ap (in_order (above_by ks n xs) n) (sym (some_broken (listing_at ks) xs h g)))

over_family : (cs : Classes) (ks : List Kept) (n : ℕ) (above family : List ℕ) → Same family (n ∷ above) → all_above (listing_at ks) (superclasses cs n) ≡ listed above → Keeps cs ks
    → precedence_list (above_by ks n (superclasses cs n)) n family ≡ precedence_list (superclasses cs) n (n ∷ above)
over_family cs ks n above family s h k =
    let m : IsFamily (superclasses cs) n (n ∷ above) = over_all cs (listing_at ks) n above k.whole h in
    let g : IsFamily (superclasses cs) n family = same_family (superclasses cs) n (n ∷ above) family (λ x. sym (s x)) m in
    sym (same_order (superclasses cs) (above_by ks n (superclasses cs n)) n family (λ j i. agree_by cs ks n j above k h (first_or_later n j above (sym (s j) ∙ i))) g.upward g.self)
    ∙ same_members (superclasses cs) n family (n ∷ above) s g

own_family : (cs : Classes) (ks : List Kept) (n : ℕ) (a : Listing) (family : List ℕ) → any_lacking (listing_at ks) (superclasses cs n) ≡ false → any_broken (listing_at ks) (superclasses cs n) ≡ false
    → Same family (n ∷ together (listing_at ks) (superclasses cs n)) → a ≡ listed_if (precedence_list (above_by ks n (superclasses cs n)) n family) → is_based cs n ≡ true → Keeps cs ks
    → a ≡ found cs (listing_at ks) n
own_family cs ks n a family h g s e b k =
    let all : all_above (listing_at ks) (superclasses cs n) ≡ listed (together (listing_at ks) (superclasses cs n)) = all_are (listing_at ks) (superclasses cs n) h g in
    found_based cs (listing_at ks) n a b
    (e ∙ (ap listed_if (over_family cs ks n (together (listing_at ks) (superclasses cs n)) family s all k) ∙ ap (in_order (superclasses cs) n) (sym all)))

pub family_based : (ks : List Kept) (n : ℕ) (a : Listing) (xs family : List ℕ) → any_lacking (listing_at ks) xs ≡ false → any_broken (listing_at ks) xs ≡ false → Same family (n ∷ together (listing_at ks) xs)
    → a ≡ listed_if (precedence_list (above_by ks n xs) n family) → (cs : Classes) → is_based cs n ≡ true → xs ≡ superclasses cs n → Keeps cs ks → a ≡ found cs (listing_at ks) n
family_based ks n a xs family h g s e cs b d k =
    own_family cs ks n a family (subst (λ v. any_lacking (listing_at ks) v ≡ false) d h) (subst (λ v. any_broken (listing_at ks) v ≡ false) d g)
    (subst (λ v. Same family (n ∷ together (listing_at ks) v)) d s) (subst (λ v. a ≡ listed_if (precedence_list (above_by ks n v) n family)) d e) b k
