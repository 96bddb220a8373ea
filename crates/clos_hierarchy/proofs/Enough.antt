-- In as many rounds as there are classes, each list is found.
use Rattle.std.proofs.Common.{◌≡◌, ℕ, zero, suc, ◌==◌, Bool, true, false, List, [], ◌∷◌, Some, None, inl, inr, length, ◌≤◌, ◌<◌, arith, refl, sym, subst, ap}
use Rattle.std.specs.Prelude.{not, ◌||◌, ◌⊎◌, nat_lt, if◌then◌else◌, option_map}
use Rattle.std.proofs.lemmas.Bool.{ltb-true}
use Rattle.clos_precedence.specs.Precedence.{Supers, has, are_before_done, is_free, IsPrecedenceList, precedence_list, IsFamily, in_turn}
use Rattle.clos_hierarchy.specs.Classes.{Classes, Listing, lacking, listed, all_above, in_order, found, names_above, are_defined, superclasses, is_based, listing_within}
use Rattle.clos_precedence.proofs.Truth.{and_left, and_right, after_first, nothing}
use Rattle.clos_precedence.proofs.Next.{free_at}
use Rattle.clos_precedence.proofs.InTurn.{found_is_one}
use Rattle.clos_precedence.proofs.Circle.{no_member}
use Rattle.clos_precedence.proofs.Members.{Once, has_first, has_later, it_is, first_or_later, no_more, below, length_below, is_below}
use Rattle.clos_hierarchy.proofs.Rounds.{Holds}
use Rattle.clos_precedence.proofs.Depth.{each_once}
use Rattle.clos_hierarchy.specs.inner.Kept.{AreWhole, Within, ListWithin}
use Rattle.clos_hierarchy.proofs.Families.{each_above, Base, base_of, Under, over, listed_same}

-- ---- no superclass has the class above it

none_before_by : (x z : ℕ) (zs : List ℕ) (b : Bool) → (z == x) ≡ b → (not (z == x) || false) ≡ true → has (z ∷ zs) x ≡ true → (has zs x ≡ true → false ≡ true) → false ≡ true
none_before_by x z zs true e h k r = cc
none_before_by x z zs false e h k r = r (after_first (z == x) (has zs x) e k)

pub none_before : (x p : ℕ) (zs : List ℕ) → are_before_done [] x p zs ≡ true → has zs x ≡ true → false ≡ true
none_before x p [] h k = k
none_before x p (z ∷ zs) h k = none_before_by x z zs (z == x) refl (and_left (not (z == x) || false) (are_before_done [] x z zs) h) k (λ e. none_before x z zs (and_right (not (z == x) || false) (are_before_done [] x z zs) h) e)

free_start : (f : Supers) (c : ℕ) (all l : List ℕ) (b : Bool) → is_free f all [] c ≡ b → (if b then option_map (λ xs. c ∷ xs) (in_turn (length all) f all (c ∷ [])) else None) ≡ Some l
    → is_free f all [] c ≡ true
free_start f c all l true e h = e
free_start f c all l false e h = cc

pub starts_free : (f : Supers) (c : ℕ) (all l : List ℕ) → precedence_list f c all ≡ Some l → is_free f all [] c ≡ true
starts_free f c all l h = free_start f c all l (is_free f all [] c) refl h

pub not_above_by : (f : Supers) (n s : ℕ) (ls all : List ℕ) → is_free f all [] n ≡ true → has all n ≡ true → has (f n) s ≡ true → Within ls all → Under f s ls n → false ≡ true
not_above_by f n s ls all g a h w (inl e) = none_before n n (f n) (free_at f all [] n n g a) (subst (λ v. has (f n) v ≡ true) (sym e) h)
not_above_by f n s ls all g a h w (inr q) = none_before n q.0 (f q.0) (free_at f all [] n q.0 g (w q.0 q.1)) q.2

apart_by : (ls : List ℕ) (n : ℕ) (b : Bool) → has ls n ≡ b → (has ls n ≡ true → false ≡ true) → has ls n ≡ false
apart_by ls n true e r = nothing (r e)
apart_by ls n false e r = e

within_more : (n : ℕ) (ls above : List ℕ) (x : ℕ) → Within ls above → (n ≡ x) ⊎ (has ls x ≡ true) → has (n ∷ above) x ≡ true
within_more n ls above x v (inl e) = it_is n x above e
within_more n ls above x v (inr h) = has_later n x above (v x h)

pub once_listed : (cs : Classes) (of : ℕ → Listing) (n : ℕ) (l : List ℕ) → Holds cs of → AreWhole cs of → of n ≡ listed l → Once l
once_listed cs of n l t w h =
    let b : Base cs of n l = base_of cs of n l (t n l h) in
    each_once (superclasses cs) (n ∷ b.above) [] l (found_is_one (superclasses cs) n (n ∷ b.above) l (over cs of n l b w) b.ordered).0

-- the list of a superclass is shorter
pub shorter : (cs : Classes) (of : ℕ → Listing) (n : ℕ) (l : List ℕ) (s : ℕ) (ls : List ℕ) → Holds cs of → AreWhole cs of → of n ≡ listed l → has (superclasses cs n) s ≡ true → of s ≡ listed ls
    → length ls < length l
shorter cs of n l s ls t w h k g =
    let b : Base cs of n l = base_of cs of n l (t n l h) in
    let m : IsFamily (superclasses cs) n (n ∷ b.above) = over cs of n l b w in
    let p : IsPrecedenceList (superclasses cs) (n ∷ b.above) l = found_is_one (superclasses cs) n (n ∷ b.above) l m b.ordered in
    let q : ListWithin of s b.above = each_above of (superclasses cs n) b.above s b.all k in
    let e : q.0 ≡ ls = listed_same q.0 ls (let a : of s ≡ listed q.0 = q.1 in cc) in
    let v : Within ls b.above = λ x j. q.2 x (subst (λ u. has u x ≡ true) (sym e) j) in
    let a : has ls n ≡ false =
    apart_by ls n (has ls n) refl (λ j. not_above_by (superclasses cs) n s ls (n ∷ b.above) (starts_free (superclasses cs) n (n ∷ b.above) l b.ordered) (has_first n b.above) k
    (λ x i. has_later n x b.above (v x i)) ((w s ls g).family.below n j)) in
    let o : Once ls = once_listed cs of s ls t w g in
    let d : length (n ∷ ls) ≤ length l = no_more (n ∷ ls) l (a, o) (λ x j. p.1 x (within_more n ls b.above x v (first_or_later n x ls j))) in
    omega (arith, d)

-- ---- rounds

pub same_above : (of to : ℕ → Listing) (xs : List ℕ) → ((s : ℕ) → has xs s ≡ true → of s ≡ to s) → all_above of xs ≡ all_above to xs
same_above of to [] h = refl
same_above of to (x ∷ xs) h =
    let p : of x ≡ to x = h x (has_first x xs) in
    let q : all_above of xs ≡ all_above to xs = same_above of to xs (λ s k. h s (has_later x s xs k)) in cc

-- what is found of a class depends on its superclasses alone
pub same_found : (cs : Classes) (of to : ℕ → Listing) (n : ℕ) → ((s : ℕ) → has (superclasses cs n) s ≡ true → of s ≡ to s) → found cs of n ≡ found cs to n
same_found cs of to n h =
    ap (λ v. if is_based cs n then in_order (superclasses cs) n v else lacking) (same_above of to (superclasses cs n) h)

superclass_within : (cs : Classes) (of : ℕ → Listing) (k n : ℕ) (l : List ℕ) (s : ℕ) → Base cs of n l → Holds cs of → AreWhole cs of → of n ≡ listed l → length l ≤ suc k
    → has (superclasses cs n) s ≡ true → ((ls : List ℕ) → of s ≡ listed ls → length ls ≤ k → listing_within k cs s ≡ listed ls) → listing_within k cs s ≡ of s
superclass_within cs of k n l s b t w h d g r =
    let q : ListWithin of s b.above = each_above of (superclasses cs n) b.above s b.all g in
    let i : length q.0 < length l = shorter cs of n l s q.0 t w h g q.1 in
    let e : listing_within k cs s ≡ listed q.0 = r q.0 q.1 (omega (arith, i, d)) in
    let a : of s ≡ listed q.0 = q.1 in cc

pub listed_within : (cs : Classes) (of : ℕ → Listing) (k n : ℕ) (l : List ℕ) → Holds cs of → AreWhole cs of → of n ≡ listed l → length l ≤ k → listing_within k cs n ≡ listed l
listed_within cs of zero n l t w h d = nothing (no_member l n (w n l h).family.self d)
listed_within cs of (suc k) n l t w h d =
    let b : Base cs of n l = base_of cs of n l (t n l h) in
    let p : found cs (λ m. listing_within k cs m) n ≡ found cs of n =
    same_found cs (λ m. listing_within k cs m) of n (λ s g. superclass_within cs of k n l s b t w h d g (λ ls i j. listed_within cs of k s ls t w i j)) in
    let e : found cs of n ≡ listed l = t n l h in cc

pub length_listed : (cs : Classes) (of : ℕ → Listing) (n : ℕ) (l : List ℕ) → Holds cs of → AreWhole cs of → of n ≡ listed l → length l ≤ length cs.names
length_listed cs of n l t w h =
    let p : length l ≤ length (below (length cs.names)) =
    no_more l (below (length cs.names)) (once_listed cs of n l t w h) (λ x g. is_below (length cs.names) x (ltb-true x (length cs.names) (and_left (nat_lt x (length cs.names)) (are_defined cs (names_above cs x)) ((w n l h).based x g)))) in
    let q : length (below (length cs.names)) ≡ length cs.names = length_below (length cs.names) in
    omega (arith, p, q)
