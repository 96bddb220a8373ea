-- A class precedence list has just the class and its superclasses.
use Rattle.std.proofs.Common.{◌≡◌, ◌↔◌, ℕ, zero, suc, ◌+◌, true, List, [], ◌∷◌, inl, inr, length, subst}
use Rattle.std.specs.Prelude.{◌⊎◌}
use Rattle.clos_precedence.specs.Precedence.{has, IsPrecedenceList}
use Rattle.clos_hierarchy.specs.Classes.{Classes, listed, superclasses, listing_within, listing}
use Rattle.clos_hierarchy.specs.Ways.{Series, IsSelfOrAbove, IsWhole}
use Rattle.clos_precedence.proofs.InTurn.{found_is_one}
use Rattle.clos_precedence.proofs.Members.{first_or_later}
use Rattle.clos_precedence.proofs.Depth.{none_done}
use Rattle.clos_hierarchy.proofs.Families.{Base, base_of, From, from_above, over}
use Rattle.clos_hierarchy.proofs.NoListing.{rounds_whole}
use Rattle.clos_hierarchy.proofs.Lacking.{one_more}

member_by : (cs : Classes) (k n : ℕ) (above : List ℕ) (m : ℕ) → (n ≡ m) ⊎ (has above m ≡ true) → (has above m ≡ true → From (λ j. listing_within k cs j) (superclasses cs n) m)
    → ((s : ℕ) (l : List ℕ) → listing_within k cs s ≡ listed l → has l m ≡ true → IsSelfOrAbove cs s m) → IsSelfOrAbove cs n m
member_by cs k n above m (inl e) r s = inl e
member_by cs k n above m (inr h) r s =
    let p : From (λ j. listing_within k cs j) (superclasses cs n) m = r h in one_more cs n p.by m p.among (s p.by p.list p.has_list p.member)

-- each member of a list is the class or above it
member : (cs : Classes) (k n : ℕ) (l : List ℕ) (m : ℕ) → listing_within k cs n ≡ listed l → has l m ≡ true → IsSelfOrAbove cs n m
member cs zero n l m h g = cc
member cs (suc k) n l m h g =
    let b : Base cs (λ j. listing_within k cs j) n l = base_of cs (λ j. listing_within k cs j) n l h in
    let p : IsPrecedenceList (superclasses cs) (n ∷ b.above) l = found_is_one (superclasses cs) n (n ∷ b.above) l (over cs (λ j. listing_within k cs j) n l b (rounds_whole cs k)) b.ordered in
    member_by cs k n b.above m (first_or_later n m b.above (none_done (superclasses cs) (n ∷ b.above) [] l m p.0 g).1)
    (λ e. from_above (λ j. listing_within k cs j) (superclasses cs n) b.above m b.all e) (λ s j e i. member cs k s j m e i)

up : (cs : Classes) (n : ℕ) (l : List ℕ) (x : ℕ) (xs : List ℕ) (m : ℕ) → IsWhole cs n l → has l x ≡ true → Series cs x xs m → has l m ≡ true
up cs n l x [] m w h s = w.family.upward x m h s
up cs n l x (y ∷ ys) m w h s = up cs n l y ys m w (w.family.upward x y h s.0) s.1

-- each class above it is a member
above_by : (cs : Classes) (n : ℕ) (l : List ℕ) (m : ℕ) → IsWhole cs n l → IsSelfOrAbove cs n m → has l m ≡ true
above_by cs n l m w (inl e) = subst (λ v. has l v ≡ true) e w.family.self
above_by cs n l m w (inr s) = up cs n l n s.0 m w w.family.self s.1

pub members : (cs : Classes) (n : ℕ) (l : List ℕ) → listing cs n ≡ listed l → (m : ℕ) → (has l m ≡ true) ↔ IsSelfOrAbove cs n m
members cs n l h m =
    (member cs (length cs.names + length cs.names) n l m h, above_by cs n l m (rounds_whole cs (length cs.names + length cs.names) n l h))

pub whole_list : (cs : Classes) (n : ℕ) (l : List ℕ) → listing cs n ≡ listed l → IsWhole cs n l
whole_list cs n l h = rounds_whole cs (length cs.names + length cs.names) n l h
