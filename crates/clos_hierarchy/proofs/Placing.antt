-- A class that was just defined is placed.
use Rattle.std.proofs.Common.{◌≡◌, ℕ, zero, suc, ◌==◌, Bool, true, false, List, [], ◌∷◌, Some, length, refl, sym, subst, ap, ◌∙◌}
use Rattle.std.specs.Prelude.{not}
use Rattle.lisp_data.specs.Numbers.{same_numbers}
use Rattle.std.proofs.lemmas.Bool.{eq-eqb}
use Rattle.lisp_data.specs.Name.{Name}
use Rattle.lisp_data.specs.declared.ids.ClassId.{ClassId}
use Rattle.clos_precedence.specs.Precedence.{has}
use Rattle.clos_precedence.specs.PrecedenceView.{numbers}
use Rattle.clos_hierarchy.specs.Classes.{Classes, Listing, lacking, broken, listed, is_circular, listing}
use Rattle.clos_hierarchy.specs.declared.kept.Kept.{Kept}
use Rattle.clos_hierarchy.specs.inner.Exchange.{Replaces}
use Rattle.clos_hierarchy.specs.inner.KeptView.{kept_at, listing_at, listing_of}
use Rattle.clos_hierarchy.specs.inner.Kept.{Knows}
use Rattle.clos_hierarchy.specs.inner.Touched.{others_among}
use Rattle.clos_hierarchy.specs.Table.{superclass_cycle, misplaced, out_of_order, changed, changed_among, is_other}
use Rattle.clos_hierarchy.proofs.Others.{picked_all}

pub circular : (to : Classes) (n : ℕ) (name : Name) (whole : Bool) → is_circular to n ≡ true → misplaced to n name whole ≡ Some superclass_cycle
circular to n name whole h = cc

pub out_of_order_then : (to : Classes) (n : ℕ) (name : Name) (whole : Bool) → is_circular to n ≡ false → misplaced to n name whole ≡ out_of_order to n name whole
out_of_order_then to n name whole h = cc

pub same_changes : (n : ℕ) (of to was now : ℕ → Listing) → ((k : ℕ) → of k ≡ was k) → ((k : ℕ) → to k ≡ now k) → changed_among n of to ≡ changed_among n was now
same_changes zero of to was now a b = refl
same_changes (suc n) of to was now a b =
    let p : changed_among n of to ≡ changed_among n was now = same_changes n of to was now a b in
    let q : of n ≡ was n = a n in
    let r : to n ≡ now n = b n in cc

same_list : (l : List ℕ) → same_numbers l l ≡ true
same_list [] = refl
same_list (x ∷ xs) = let p : (x == x) ≡ true = eq-eqb x x refl in let q : same_numbers xs xs ≡ true = same_list xs in cc

other_self : (a : Listing) → is_other a a ≡ false
other_self lacking = refl
other_self broken = refl
other_self (listed l) = ap not (same_list l)

-- they are those whose lists differ in what is kept
pub changed_is : (cs to : Classes) (ks new : List Kept) → Knows cs ks → Knows to new → changed_among (length new) (listing_at ks) (listing_at new) ≡ changed cs to
changed_is cs to ks new k m =
    let p : changed_among (length new) (listing_at ks) (listing_at new) ≡ changed_among (length new) (λ n. listing cs n) (λ n. listing to n) =
    same_changes (length new) (listing_at ks) (listing_at new) (λ n. listing cs n) (λ n. listing to n) k.same m.same in
    subst (λ v. changed_among (length new) (listing_at ks) (listing_at new) ≡ changed_among v (λ n. listing cs n) (λ n. listing to n)) m.length p

is_touched_by : (ks now : List Kept) (ps : List ℕ) (n : ℕ) (b : Bool) → has ps n ≡ b → ((m : ℕ) → has ps m ≡ false → kept_at now m ≡ kept_at ks m) → is_other (listing_at ks n) (listing_at now n) ≡ true → b ≡ true
is_touched_by ks now ps n true e o h = refl
is_touched_by ks now ps n false e o h = sym (other_self (listing_at ks n)) ∙ ap (λ k. is_other (listing_at ks n) (listing_of k)) (sym (o n e)) ∙ h

-- ... and they are picked among those that are touched
pub changed_of : (places : List ClassId) (c : ℕ) (olds ks now : List Kept) (xs : List ℕ) → Replaces (numbers places) c olds ks now → xs ≡ others_among places olds now → (cs to : Classes) → Knows cs ks → Knows to now
    → xs ≡ changed cs to
changed_of places c olds ks now xs r e cs to k m =
    e ∙ ap (λ os. others_among places os now) r.taken
    ∙ picked_all ks now places (length now) r.ordered r.within (λ n l h. is_touched_by ks now (numbers places) n (has (numbers places) n) refl r.others h)
    ∙ changed_is cs to ks now k m
