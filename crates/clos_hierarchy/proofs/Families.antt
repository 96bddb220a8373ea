-- What is found of a class, and of the classes above it.
use Rattle.std.proofs.Common.{◌≡◌, ℕ, Bool, true, false, List, [], ◌∷◌, ◌++◌, Option, Some, None, inl, inr, refl, sym, subst, ap}
use Rattle.std.specs.Prelude.{◌⊎◌, if◌then◌else◌}
use Rattle.clos_precedence.specs.Precedence.{Supers, has, IsPrecedenceList, precedence_list, IsFamily}
use Rattle.clos_hierarchy.specs.Classes.{Classes, Listing, lacking, broken, listed, joined, all_above, listed_if, in_order, found, superclasses, is_based}
use Rattle.clos_hierarchy.specs.inner.Kept.{AreWhole, Within, ListWithin}
use Rattle.clos_hierarchy.specs.Ways.{IsWhole}
use Rattle.clos_precedence.proofs.Truth.{nothing}
use Rattle.clos_precedence.proofs.InTurn.{found_is_one}
use Rattle.clos_precedence.proofs.Members.{has_first, has_later, first_or_later, in_first, in_second, in_either}
use Rattle.clos_precedence.proofs.Depth.{none_done}

-- ---- the lists of the superclasses

pub record Parts (a b : Listing) (l : List ℕ) : Type 0 where
  pub first : List ℕ
  pub others : List ℕ
  pub is_first : a ≡ listed first
  pub are_others : b ≡ listed others
  pub together : first ++ others ≡ l

pub listed_same : (l m : List ℕ) → listed l ≡ listed m → l ≡ m
listed_same l m h = cc

pub parts : (a b : Listing) (l : List ℕ) → joined a b ≡ listed l → Parts a b l
parts lacking b l h = cc
parts broken lacking l h = cc
parts broken broken l h = cc
parts broken (listed m) l h = cc
parts (listed k) lacking l h = cc
parts (listed k) broken l h = cc
parts (listed k) (listed m) l h = record { first = k; others = m; is_first = refl; are_others = refl; together = listed_same (k ++ m) l h }

each_by : (of : ℕ → Listing) (x s : ℕ) (xs l : List ℕ) (p : Parts (of x) (all_above of xs) l) → (x ≡ s) ⊎ (has xs s ≡ true) → (has xs s ≡ true → ListWithin of s p.others) → ListWithin of s l
each_by of x s xs l p (inl e) r =
    subst (λ v. ListWithin of v l) e (p.first, p.is_first, λ y h. subst (λ v. has v y ≡ true) p.together (in_first p.first p.others y h))
each_by of x s xs l p (inr h) r =
    let q : ListWithin of s p.others = r h in
    (q.0, q.1, λ y k. subst (λ v. has v y ≡ true) p.together (in_second p.first p.others y (q.2 y k)))

-- each superclass has its list among them
pub each_above : (of : ℕ → Listing) (xs l : List ℕ) (s : ℕ) → all_above of xs ≡ listed l → has xs s ≡ true → ListWithin of s l
each_above of [] l s h k = nothing k
each_above of (x ∷ xs) l s h k =
    let p : Parts (of x) (all_above of xs) l = parts (of x) (all_above of xs) l h in
    each_by of x s xs l p (first_or_later x s xs k) (λ e. each_above of xs p.others s p.are_others e)

-- a member of the list of a superclass
pub record From (of : ℕ → Listing) (xs : List ℕ) (y : ℕ) : Type 0 where
  pub by : ℕ
  pub among : has xs by ≡ true
  pub list : List ℕ
  pub has_list : of by ≡ listed list
  pub member : has list y ≡ true

from_later : (of : ℕ → Listing) (x : ℕ) (xs : List ℕ) (y : ℕ) → From of xs y → From of (x ∷ xs) y
from_later of x xs y p = record { by = p.by; among = has_later x p.by xs p.among; list = p.list; has_list = p.has_list; member = p.member }

from_by : (of : ℕ → Listing) (x y : ℕ) (xs l : List ℕ) (p : Parts (of x) (all_above of xs) l) → (has p.first y ≡ true) ⊎ (has p.others y ≡ true) → (has p.others y ≡ true → From of xs y) → From of (x ∷ xs) y
from_by of x y xs l p (inl h) r = record { by = x; among = has_first x xs; list = p.first; has_list = p.is_first; member = h }
from_by of x y xs l p (inr h) r = from_later of x xs y (r h)

pub from_above : (of : ℕ → Listing) (xs l : List ℕ) (y : ℕ) → all_above of xs ≡ listed l → has l y ≡ true → From of xs y
from_above of [] l y h k = let p : has [] y ≡ true = subst (λ v. has v y ≡ true) (sym (listed_same [] l h)) k in nothing p
from_above of (x ∷ xs) l y h k =
    let p : Parts (of x) (all_above of xs) l = parts (of x) (all_above of xs) l h in
    from_by of x y xs l p (in_either p.first p.others y (subst (λ v. has v y ≡ true) (sym p.together) k)) (λ e. from_above of xs p.others y p.are_others e)

-- ---- what is found

pub record Base (cs : Classes) (of : ℕ → Listing) (n : ℕ) (l : List ℕ) : Type 0 where
  pub based : is_based cs n ≡ true
  pub above : List ℕ
  pub all : all_above of (superclasses cs n) ≡ listed above
  pub ordered : precedence_list (superclasses cs) n (n ∷ above) ≡ Some l

some_listed : (o : Option (List ℕ)) (l : List ℕ) → listed_if o ≡ listed l → o ≡ Some l
some_listed None l h = cc
some_listed (Some m) l h = ap Some (listed_same m l h)

base_ordered : (cs : Classes) (of : ℕ → Listing) (n : ℕ) (l : List ℕ) (a : Listing) → is_based cs n ≡ true → all_above of (superclasses cs n) ≡ a
    → in_order (superclasses cs) n a ≡ listed l → Base cs of n l
base_ordered cs of n l lacking b e h = cc
base_ordered cs of n l broken b e h = cc
base_ordered cs of n l (listed m) b e h =
    record { based = b; above = m; all = e; ordered = some_listed (precedence_list (superclasses cs) n (n ∷ m)) l h }

base_by : (cs : Classes) (of : ℕ → Listing) (n : ℕ) (l : List ℕ) (b : Bool) → is_based cs n ≡ b
    → (if b then in_order (superclasses cs) n (all_above of (superclasses cs n)) else lacking) ≡ listed l → Base cs of n l
base_by cs of n l true e h = base_ordered cs of n l (all_above of (superclasses cs n)) e refl h
base_by cs of n l false e h = cc

pub base_of : (cs : Classes) (of : ℕ → Listing) (n : ℕ) (l : List ℕ) → found cs of n ≡ listed l → Base cs of n l
base_of cs of n l h = base_by cs of n l (is_based cs n) refl h

-- ---- families

over_upward_by : (cs : Classes) (of : ℕ → Listing) (n : ℕ) (above : List ℕ) (k x : ℕ) → AreWhole cs of → all_above of (superclasses cs n) ≡ listed above → (n ≡ k) ⊎ (has above k ≡ true)
    → has (superclasses cs k) x ≡ true → has above x ≡ true
over_upward_by cs of n above k x w a (inl e) h =
    let p : ListWithin of x above = each_above of (superclasses cs n) above x a (subst (λ v. has (superclasses cs v) x ≡ true) (sym e) h) in
    p.2 x (w x p.0 p.1).family.self
over_upward_by cs of n above k x w a (inr g) h =
    let p : From of (superclasses cs n) k = from_above of (superclasses cs n) above k a g in
    let q : ListWithin of p.by above = each_above of (superclasses cs n) above p.by a p.among in
    let e : p.list ≡ q.0 = listed_same p.list q.0 (let i : of p.by ≡ listed p.list = p.has_list in let j : of p.by ≡ listed q.0 = q.1 in cc) in
    q.2 x (subst (λ v. has v x ≡ true) e ((w p.by p.list p.has_list).family.upward k x p.member h))

abbrev pub Under : Supers → ℕ → List ℕ → ℕ → Type 0
Under f c all y = (y ≡ c) ⊎ ((k : ℕ) × (has all k ≡ true) × (has (f k) y ≡ true))

over_below_from : (cs : Classes) (n y s : ℕ) (ls above : List ℕ) → has (superclasses cs n) s ≡ true → Within ls above → Under (superclasses cs) s ls y → Under (superclasses cs) n (n ∷ above) y
over_below_from cs n y s ls above h w (inl e) = inr (n, has_first n above, subst (λ v. has (superclasses cs n) v ≡ true) (sym e) h)
over_below_from cs n y s ls above h w (inr q) = inr (q.0, has_later n q.0 above (w q.0 q.1), q.2)

over_below_by : (cs : Classes) (of : ℕ → Listing) (n : ℕ) (above : List ℕ) (y : ℕ) → AreWhole cs of → all_above of (superclasses cs n) ≡ listed above → (n ≡ y) ⊎ (has above y ≡ true)
    → Under (superclasses cs) n (n ∷ above) y
over_below_by cs of n above y w a (inl e) = inl (sym e)
over_below_by cs of n above y w a (inr g) =
    let p : From of (superclasses cs n) y = from_above of (superclasses cs n) above y a g in
    let q : ListWithin of p.by above = each_above of (superclasses cs n) above p.by a p.among in
    let e : p.list ≡ q.0 = listed_same p.list q.0 (let i : of p.by ≡ listed p.list = p.has_list in let j : of p.by ≡ listed q.0 = q.1 in cc) in
    over_below_from cs n y p.by p.list above p.among (λ x h. q.2 x (subst (λ v. has v x ≡ true) e h)) ((w p.by p.list p.has_list).family.below y p.member)

-- a class before all above it
pub over_all : (cs : Classes) (of : ℕ → Listing) (n : ℕ) (above : List ℕ) → AreWhole cs of → all_above of (superclasses cs n) ≡ listed above → IsFamily (superclasses cs) n (n ∷ above)
over_all cs of n above w a = record {
  self = has_first n above;
  upward = λ k x h g. has_later n x above (over_upward_by cs of n above k x w a (first_or_later n k above h) g);
  below = λ y h. over_below_by cs of n above y w a (first_or_later n y above h);
}

pub over : (cs : Classes) (of : ℕ → Listing) (n : ℕ) (l : List ℕ) (b : Base cs of n l) → AreWhole cs of → IsFamily (superclasses cs) n (n ∷ b.above)
over cs of n l b w = over_all cs of n b.above w b.all

over_based_by : (cs : Classes) (of : ℕ → Listing) (n : ℕ) (l : List ℕ) (b : Base cs of n l) (x : ℕ) → AreWhole cs of → (n ≡ x) ⊎ (has b.above x ≡ true) → is_based cs x ≡ true
over_based_by cs of n l b x w (inl e) = subst (λ v. is_based cs v ≡ true) e b.based
over_based_by cs of n l b x w (inr g) =
    let p : From of (superclasses cs n) x = from_above of (superclasses cs n) b.above x b.all g in (w p.by p.list p.has_list).based x p.member

below_moved : (f : Supers) (c y : ℕ) (all l : List ℕ) → Within all l → Under f c all y → Under f c l y
below_moved f c y all l w (inl e) = inl e
below_moved f c y all l w (inr q) = inr (q.0, w q.0 q.1, q.2)

-- the same family in another order
pub same_family : (f : Supers) (c : ℕ) (all l : List ℕ) → IsFamily f c all → Within all l → Within l all → IsFamily f c l
same_family f c all l m w v = record {
  self = w c m.self;
  upward = λ k x h g. w x (m.upward k x (v k h) g);
  below = λ y h. below_moved f c y all l w (m.below y (v y h));
}

-- what is found over whole families is whole
pub whole_found : (cs : Classes) (of : ℕ → Listing) (n : ℕ) (l : List ℕ) → AreWhole cs of → found cs of n ≡ listed l → IsWhole cs n l
whole_found cs of n l w h =
    let b : Base cs of n l = base_of cs of n l h in
    let m : IsFamily (superclasses cs) n (n ∷ b.above) = over cs of n l b w in
    let p : IsPrecedenceList (superclasses cs) (n ∷ b.above) l = found_is_one (superclasses cs) n (n ∷ b.above) l m b.ordered in
    let v : Within l (n ∷ b.above) = λ x k. (none_done (superclasses cs) (n ∷ b.above) [] l x p.0 k).1 in
    record { family = same_family (superclasses cs) n (n ∷ b.above) l m p.1 v; based = λ x k. over_based_by cs of n l b x w (first_or_later n x b.above (v x k)) }
