-- One class changes, or comes last: the lists that don't have it stay.
use Rattle.std.proofs.Common.{◌≡◌, ℕ, ◌==◌, Bool, true, false, List, [], ◌∷◌, Option, Some, None, inl, inr, length, ◌≤◌, ◌<◌, arith, refl, sym, subst}
use Rattle.std.specs.Prelude.{nat_lt, is_some, if◌then◌else◌}
use Rattle.std.proofs.lemmas.Bool.{ltb-true, lt-ltb}
use Rattle.lisp_data.specs.Name.{Name}
use Rattle.clos_precedence.specs.Precedence.{has, precedence_list, IsFamily}
use Rattle.clos_hierarchy.specs.Classes.{Classes, Listing, lacking, broken, listed, all_above, in_order, found, named, names_above, defined, are_defined, superclasses, is_based}
use Rattle.clos_precedence.proofs.Truth.{and_left, and_right, both}
use Rattle.clos_precedence.proofs.InTurn.{found_is_one}
use Rattle.clos_precedence.proofs.Members.{has_later, differs}
use Rattle.clos_hierarchy.proofs.Rounds.{Holds}
use Rattle.clos_hierarchy.specs.inner.Kept.{Changes, without, More, Sound, AreWhole, Within, ListWithin}
use Rattle.clos_hierarchy.specs.Ways.{IsWhole}
use Rattle.clos_hierarchy.proofs.Families.{each_above, Base, base_of, Under, over, listed_same}
use Rattle.clos_hierarchy.proofs.Enough.{same_above}
use Rattle.clos_precedence.proofs.SameOrder.{same_order}

is_some_same : (o p : Option ℕ) → is_some o ≡ true → ((i : ℕ) → o ≡ Some i → p ≡ Some i) → p ≡ o
is_some_same None p h r = cc
is_some_same (Some i) p h r = r i refl

pub same_defined : (cs to : Classes) (c : ℕ) (xs : List Name) → Changes cs to c → are_defined cs xs ≡ true → (defined to xs ≡ defined cs xs) × (are_defined to xs ≡ true)
same_defined cs to c [] m h = (refl, refl)
same_defined cs to c (x ∷ xs) m h =
    let p : (defined to xs ≡ defined cs xs) × (are_defined to xs ≡ true) = same_defined cs to c xs m (and_right (is_some (named cs x)) (are_defined cs xs) h) in
    let i : is_some (named cs x) ≡ true = and_left (is_some (named cs x)) (are_defined cs xs) h in
    let q : named to x ≡ named cs x = is_some_same (named cs x) (named to x) i (λ j e. m.numbers x j e) in
    let a : defined to xs ≡ defined cs xs = p.0 in
    let b : are_defined to xs ≡ true = p.1 in
    let k : is_some (named to x) ≡ true = subst (λ v. is_some v ≡ true) (sym q) i in
    (cc, both (is_some (named to x)) (are_defined to xs) k b)

pub based_below : (cs : Classes) (k : ℕ) → is_based cs k ≡ true → (k < length cs.names) × (are_defined cs (names_above cs k) ≡ true)
based_below cs k h = (
  ltb-true k (length cs.names) (and_left (nat_lt k (length cs.names)) (are_defined cs (names_above cs k)) h),
  and_right (nat_lt k (length cs.names)) (are_defined cs (names_above cs k)) h,
)

pub still_based : (cs to : Classes) (c k : ℕ) → Changes cs to c → (c == k) ≡ false → is_based cs k ≡ true → (superclasses to k ≡ superclasses cs k) × (is_based to k ≡ true)
still_based cs to c k m d h =
    let p : (k < length cs.names) × (are_defined cs (names_above cs k) ≡ true) = based_below cs k h in
    let e : names_above to k ≡ names_above cs k = m.rows k d in
    let q : (defined to (names_above cs k) ≡ defined cs (names_above cs k)) × (are_defined to (names_above cs k) ≡ true) = same_defined cs to c (names_above cs k) m p.1 in
    let l : length cs.names ≤ length to.names = m.more in
    let b : k < length cs.names = p.0 in (
      subst (λ v. defined to v ≡ defined cs (names_above cs k)) (sym e) q.0,
      both (nat_lt k (length to.names)) (are_defined to (names_above to k)) (lt-ltb k (length to.names) (omega (arith, l, b))) (subst (λ v. are_defined to v ≡ true) (sym e) q.1),
    )

pub is_kept : (c : ℕ) (l : List ℕ) → has l c ≡ false → without c (listed l) ≡ listed l
is_kept c l h = cc

pub record Stays (of : Listing) (c : ℕ) (l : List ℕ) : Type 0 where
  pub was : of ≡ listed l
  pub without : has l c ≡ false

stays_by : (c : ℕ) (k l : List ℕ) (b : Bool) → has k c ≡ b → (if b then lacking else listed k) ≡ listed l → Stays (listed k) c l
stays_by c k l true e h = cc
stays_by c k l false e h = let p : k ≡ l = listed_same k l h in record { was = h; without = subst (λ v. has v c ≡ false) p e }

pub stays : (of : Listing) (c : ℕ) (l : List ℕ) → without c of ≡ listed l → Stays of c l
stays lacking c l h = cc
stays broken c l h = cc
stays (listed k) c l h = stays_by c k l (has k c) refl h

-- all of a list that has not this class are others, and so are their superclasses
pub others : (c : ℕ) (l : List ℕ) (k : ℕ) → has l c ≡ false → has l k ≡ true → (c == k) ≡ false
others c l k n h = differs c k l (c == k) refl n h

pub within_without : (c : ℕ) (m l : List ℕ) (b : Bool) → has m c ≡ b → Within m l → has l c ≡ false → has m c ≡ false
within_without c m l true e w n = let p : has l c ≡ true = w c e in cc
within_without c m l false e w n = e

-- the list of a class that stays is found again
pub found_again : (cs to : Classes) (c : ℕ) (of : ℕ → Listing) (n : ℕ) (l : List ℕ) → Changes cs to c → Holds cs of → AreWhole cs of → of n ≡ listed l → has l c ≡ false
    → found to (λ m. without c (of m)) n ≡ listed l
found_again cs to c of n l m t w h d =
    let b : Base cs of n l = base_of cs of n l (t n l h) in
    let whole : IsWhole cs n l = w n l h in
    let g : IsFamily (superclasses cs) n (n ∷ b.above) = over cs of n l b w in
    let cover : Within (n ∷ b.above) l = (found_is_one (superclasses cs) n (n ∷ b.above) l g b.ordered).1 in
    let own : (superclasses to n ≡ superclasses cs n) × (is_based to n ≡ true) = still_based cs to c n m (others c l n d whole.family.self) b.based in
    let same : all_above (λ s. without c (of s)) (superclasses cs n) ≡ all_above of (superclasses cs n) =
    same_above (λ s. without c (of s)) of (superclasses cs n) (λ s i.
    let q : ListWithin of s b.above = each_above of (superclasses cs n) b.above s b.all i in
    let e : of s ≡ listed q.0 = q.1 in
    let k : without c (listed q.0) ≡ listed q.0 = is_kept c q.0 (within_without c q.0 l (has q.0 c) refl (λ x j. cover x (has_later n x b.above (q.2 x j))) d) in cc) in
    let order : precedence_list (superclasses cs) n (n ∷ b.above) ≡ precedence_list (superclasses to) n (n ∷ b.above) =
    same_order (superclasses cs) (superclasses to) n (n ∷ b.above) (λ k i. sym (still_based cs to c k m (others c l k d (cover k i)) (whole.based k (cover k i))).0) g.upward g.self in
    let all : all_above of (superclasses cs n) ≡ listed b.above = b.all in
    let one : precedence_list (superclasses cs) n (n ∷ b.above) ≡ Some l = b.ordered in
    let e : superclasses to n ≡ superclasses cs n = own.0 in
    let i : is_based to n ≡ true = own.1 in
    let a : all_above (λ s. without c (of s)) (superclasses to n) ≡ listed b.above = subst (λ v. all_above (λ s. without c (of s)) v ≡ listed b.above) (sym e) cc in
    let o : in_order (superclasses to) n (all_above (λ s. without c (of s)) (superclasses to n)) ≡ listed l = subst (λ v. in_order (superclasses to) n v ≡ listed l) (sym a) cc in cc

never_by : (c : ℕ) (l : List ℕ) (b : Bool) → has l c ≡ b → (if b then lacking else listed l) ≡ broken → broken ≡ lacking
never_by c l true e h = sym h
never_by c l false e h = cc

never : (c : ℕ) (a : Listing) → without c a ≡ broken → broken ≡ lacking
never c lacking h = sym h
never c broken h = sym h
never c (listed l) h = never_by c l (has l c) refl h

sound_by : (cs to : Classes) (c : ℕ) (of : ℕ → Listing) (n : ℕ) (a : Listing) → Changes cs to c → Holds cs of → AreWhole cs of → without c (of n) ≡ a → More a (found to (λ m. without c (of m)) n)
sound_by cs to c of n lacking m t w h = inl refl
sound_by cs to c of n broken m t w h = inl (never c (of n) h)
sound_by cs to c of n (listed l) m t w h =
    let p : Stays (of n) c l = stays (of n) c l h in inr (sym (found_again cs to c of n l m t w p.was p.without))

-- what is kept is sound after the change
pub kept_sound : (cs to : Classes) (c : ℕ) (of : ℕ → Listing) → Changes cs to c → Holds cs of → AreWhole cs of → Sound to (λ m. without c (of m))
kept_sound cs to c of m t w n = sound_by cs to c of n (without c (of n)) m t w refl

moved_below : (cs to : Classes) (c n y : ℕ) (l : List ℕ) → ((k : ℕ) → has l k ≡ true → superclasses to k ≡ superclasses cs k) → Under (superclasses cs) n l y → Under (superclasses to) n l y
moved_below cs to c n y l e (inl h) = inl h
moved_below cs to c n y l e (inr q) = inr (q.0, q.1, subst (λ v. has v y ≡ true) (sym (e q.0 q.1)) q.2)

pub kept_whole : (cs to : Classes) (c : ℕ) (of : ℕ → Listing) → Changes cs to c → AreWhole cs of → AreWhole to (λ m. without c (of m))
kept_whole cs to c of m w n l h =
    let p : Stays (of n) c l = stays (of n) c l h in
    let whole : IsWhole cs n l = w n l p.was in
    let e : (k : ℕ) → has l k ≡ true → (superclasses to k ≡ superclasses cs k) × (is_based to k ≡ true) =
    λ k i. still_based cs to c k m (others c l k p.without i) (whole.based k i) in
    record {
      family = record {
        self = whole.family.self;
        upward = λ k x i j. whole.family.upward k x i (subst (λ v. has v x ≡ true) (e k i).0 j);
        below = λ y i. moved_below cs to c n y l (λ k j. (e k j).0) (whole.family.below y i);
      };
      based = λ x i. (e x i).1;
    }
