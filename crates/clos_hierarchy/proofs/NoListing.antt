-- Where there is no list of a class, some classes come before one another in a circle.
use Rattle.std.proofs.Common.{◌≡◌, ℕ, zero, suc, ◌+◌, Bool, true, false, List, [], ◌∷◌, Option, Some, None, length, refl}
use Rattle.std.specs.Prelude.{if◌then◌else◌}
use Rattle.clos_precedence.specs.Precedence.{Supers, has, precedence_list, IsFamily, Circle, Tells}
use Rattle.clos_hierarchy.specs.Classes.{Classes, Listing, lacking, broken, listed, joined, all_above, listed_if, in_order, superclasses, is_based, listing_within, listing}
use Rattle.clos_hierarchy.specs.inner.Kept.{AreWhole}
use Rattle.clos_hierarchy.specs.TableView.{HasCircle}
use Rattle.clos_precedence.proofs.Members.{has_first, has_later}
use Rattle.clos_precedence.proofs.OnPrecedence.{tells}
use Rattle.clos_hierarchy.proofs.Families.{over_all, whole_found}

-- what is found in rounds is whole
pub rounds_whole : (cs : Classes) (k : ℕ) → AreWhole cs (λ n. listing_within k cs n)
rounds_whole cs zero n l h = cc
rounds_whole cs (suc k) n l h = whole_found cs (λ m. listing_within k cs m) n l (rounds_whole cs k) h

-- one of these has no list
abbrev Broken : (ℕ → Listing) → List ℕ → Type 0
Broken of xs = (s : ℕ) × (has xs s ≡ true) × (of s ≡ broken)

broken_by : (of : ℕ → Listing) (x : ℕ) (xs : List ℕ) (a rest : Listing) → of x ≡ a → joined a rest ≡ broken → (rest ≡ broken → Broken of xs) → Broken of (x ∷ xs)
broken_by of x xs lacking rest e h r = cc
broken_by of x xs broken rest e h r = (x, has_first x xs, e)
broken_by of x xs (listed l) lacking e h r = cc
broken_by of x xs (listed l) broken e h r = let p : Broken of xs = r refl in (p.0, has_later x p.0 xs p.1, p.2)
broken_by of x xs (listed l) (listed m) e h r = cc

some_broken : (of : ℕ → Listing) (xs : List ℕ) → all_above of xs ≡ broken → Broken of xs
some_broken of [] h = cc
some_broken of (x ∷ xs) h = broken_by of x xs (of x) (all_above of xs) refl h (λ e. some_broken of xs e)

none_listed : (o : Option (List ℕ)) → listed_if o ≡ broken → o ≡ None
none_listed None h = refl
none_listed (Some l) h = cc

none_tells : (f : Supers) (all : List ℕ) (o : Option (List ℕ)) → o ≡ None → Tells f all o → Circle f all
none_tells f all None h t = t.1
none_tells f all (Some l) h t = cc

circle_ordered : (cs : Classes) (k n : ℕ) (a : Listing) → all_above (λ m. listing_within k cs m) (superclasses cs n) ≡ a → in_order (superclasses cs) n a ≡ broken
    → ((s : ℕ) → listing_within k cs s ≡ broken → HasCircle cs) → HasCircle cs
circle_ordered cs k n lacking e h r = cc
circle_ordered cs k n broken e h r = let p : Broken (λ m. listing_within k cs m) (superclasses cs n) = some_broken (λ m. listing_within k cs m) (superclasses cs n) e in r p.0 p.2
circle_ordered cs k n (listed l) e h r =
    let m : IsFamily (superclasses cs) n (n ∷ l) = over_all cs (λ j. listing_within k cs j) n l (rounds_whole cs k) e in
    let o : precedence_list (superclasses cs) n (n ∷ l) ≡ None = none_listed (precedence_list (superclasses cs) n (n ∷ l)) h in
    (n, n ∷ l, m, none_tells (superclasses cs) (n ∷ l) (precedence_list (superclasses cs) n (n ∷ l)) o (tells (superclasses cs) n (n ∷ l) (precedence_list (superclasses cs) n (n ∷ l)) refl m))

circle_based : (cs : Classes) (k n : ℕ) (b : Bool) → (if b then in_order (superclasses cs) n (all_above (λ m. listing_within k cs m) (superclasses cs n)) else lacking) ≡ broken
    → ((s : ℕ) → listing_within k cs s ≡ broken → HasCircle cs) → HasCircle cs
circle_based cs k n true h r = circle_ordered cs k n (all_above (λ m. listing_within k cs m) (superclasses cs n)) refl h r
circle_based cs k n false h r = cc

circle_within : (cs : Classes) (k n : ℕ) → listing_within k cs n ≡ broken → HasCircle cs
circle_within cs zero n h = cc
circle_within cs (suc k) n h = circle_based cs k n (is_based cs n) h (λ s e. circle_within cs k s e)

pub circle : (cs : Classes) (n : ℕ) → listing cs n ≡ broken → HasCircle cs
circle cs n h = circle_within cs (length cs.names + length cs.names) n h
