-- One more class of which something is found.
use Rattle.std.proofs.Common.{◌≡◌, ℕ, zero, suc, ◌==◌, ◌+◌, Bool, true, false, List, [], ◌∷◌, inl, inr, length, ◌<◌, ◌≤◌, arith, refl, sym, subst, ap, ◌∙◌}
use Rattle.std.specs.Prelude.{◌⊎◌, nat_lt, slice_set, if◌then◌else◌}
use Rattle.std.proofs.lemmas.Bool.{eqb-true, ltb-true}
use Rattle.clos_precedence.specs.Precedence.{has, IsPrecedenceList}
use Rattle.clos_hierarchy.specs.Classes.{Classes, Listing, lacking, broken, listed, found, superclasses, is_lacking}
use Rattle.clos_hierarchy.specs.declared.kept.Kept.{Kept}
use Rattle.clos_hierarchy.specs.inner.KeptView.{listing_of, listing_at, kept_at}
use Rattle.clos_hierarchy.specs.inner.Kept.{More, AreWhole, AreNested, IsAbove, AreAbove, Within, ListWithin, Keeps, lacking_in, Adds, Progress, Ends, Knows, Filled}
use Rattle.clos_precedence.proofs.Members.{has_later, first_or_later, apart}
use Rattle.clos_hierarchy.proofs.Families.{Base, base_of, From, from_above, each_above, over, listed_same}
use Rattle.clos_precedence.proofs.InTurn.{found_is_one}
use Rattle.clos_precedence.proofs.Depth.{none_done}
use Rattle.clos_hierarchy.proofs.OneMore.{Fills, fills_more, fill_sound, fill_whole, fill_reached, settle, is_listing}
use Rattle.clos_hierarchy.proofs.Rounds.{more_through, Settled}

-- ---- what is kept, with one place set

pub set_same : (ks : List Kept) (m : ℕ) (v : Kept) → m < length ks → kept_at (slice_set ks m v) m ≡ v
set_same [] m v h = absurd (omega (arith, h))
set_same (k ∷ ks) zero v h = refl
set_same (k ∷ ks) (suc m) v h = set_same ks m v (omega (arith, h))

pub set_other : (ks : List Kept) (m n : ℕ) (v : Kept) → (m == n) ≡ false → kept_at (slice_set ks m v) n ≡ kept_at ks n
set_other [] m n v h = refl
set_other (k ∷ ks) zero zero v h = cc
set_other (k ∷ ks) zero (suc n) v h = refl
set_other (k ∷ ks) (suc m) zero v h = refl
set_other (k ∷ ks) (suc m) (suc n) v h = set_other ks m n v (apart m n (m == n) refl h)

one_less : (b : Bool) (n : ℕ) → b ≡ true → (if b then 1 else 0) + n ≡ suc n
one_less true n h = omega (arith)
one_less false n h = cc

none_less : (b : Bool) (n : ℕ) → b ≡ false → (if b then 1 else 0) + n ≡ n
none_less true n h = cc
none_less false n h = omega (arith)

more_each : (a b c : ℕ) → suc b ≡ c → suc (a + b) ≡ a + c
more_each a b c h = omega (arith, h)

pub fewer_lack : (ks : List Kept) (m : ℕ) (v : Kept) → m < length ks → is_lacking (listing_at ks m) ≡ true → is_lacking (listing_of v) ≡ false → suc (lacking_in (slice_set ks m v)) ≡ lacking_in ks
fewer_lack [] m v h l n = absurd (omega (arith, h))
fewer_lack (k ∷ ks) zero v h l n =
    let p : (if is_lacking (listing_of k) then 1 else 0) + lacking_in ks ≡ suc (lacking_in ks) = one_less (is_lacking (listing_of k)) (lacking_in ks) l in
    let q : (if is_lacking (listing_of v) then 1 else 0) + lacking_in ks ≡ lacking_in ks = none_less (is_lacking (listing_of v)) (lacking_in ks) n in cc
fewer_lack (k ∷ ks) (suc m) v h l n =
    let p : suc (lacking_in (slice_set ks m v)) ≡ lacking_in ks = fewer_lack ks m v (omega (arith, h)) l n in
    more_each (if is_lacking (listing_of k) then 1 else 0) (lacking_in (slice_set ks m v)) (lacking_in ks) p

-- ---- nested lists

nested_from : (of : ℕ → Listing) (n x : ℕ) (l above : List ℕ) (xs : List ℕ) → AreNested of → Within above l → From of xs x → ((s : ℕ) → has xs s ≡ true → ListWithin of s above) → ListWithin of x l
nested_from of n x l above xs m w p q =
    let i : ListWithin of x p.list = m p.by p.list x p.has_list p.member in
    let j : ListWithin of p.by above = q p.by p.among in
    let e : p.list ≡ j.0 = listed_same p.list j.0 (let a : of p.by ≡ listed p.list = p.has_list in let b : of p.by ≡ listed j.0 = j.1 in cc) in
    (i.0, i.1, λ y k. w y (j.2 y (subst (λ v. has v y ≡ true) e (i.2 y k))))

later_list : (of to : ℕ → Listing) (x : ℕ) (l : List ℕ) (a : Listing) → More (of x) (to x) → ListWithin of x l → ListWithin to x l
later_list of to x l a (inl e) p = let q : of x ≡ listed p.0 = p.1 in cc
later_list of to x l a (inr e) p = (p.0, (let q : of x ≡ listed p.0 = p.1 in cc), p.2)

nested_new_by : (cs : Classes) (of to : ℕ → Listing) (n x : ℕ) (l : List ℕ) (b : Base cs of n l) → AreNested of → ((k : ℕ) → More (of k) (to k)) → Within b.above l → to n ≡ listed l
    → (n ≡ x) ⊎ (has b.above x ≡ true) → ListWithin to x l
nested_new_by cs of to n x l b m f w h (inl e) = (l, subst (λ v. to v ≡ listed l) e h, λ y k. k)
nested_new_by cs of to n x l b m f w h (inr g) =
    later_list of to x l lacking (f x) (nested_from of n x l b.above (superclasses cs n) m w (from_above of (superclasses cs n) b.above x b.all g) (λ s i. each_above of (superclasses cs n) b.above s b.all i))

nested_by : (cs : Classes) (of to : ℕ → Listing) (m n x : ℕ) (l : List ℕ) (b : Bool) → Fills cs of to m → AreWhole cs of → AreNested of → (m == n) ≡ b → to n ≡ listed l → has l x ≡ true → ListWithin to x l
nested_by cs of to m n x l true f w i e h g =
    let q : to n ≡ found cs of n = subst (λ v. to v ≡ found cs of v) (eqb-true m n e) f.is in
    let b : Base cs of n l = base_of cs of n l cc in
    let p : IsPrecedenceList (superclasses cs) (n ∷ b.above) l = found_is_one (superclasses cs) n (n ∷ b.above) l (over cs of n l b w) b.ordered in
    nested_new_by cs of to n x l b i (λ k. fills_more cs of to m k f) (λ y k. p.1 y (has_later n y b.above k)) h (first_or_later n x b.above (none_done (superclasses cs) (n ∷ b.above) [] l x p.0 g).1)
nested_by cs of to m n x l false f w i e h g =
    let p : to n ≡ of n = f.others n e in
    let q : of n ≡ listed l = sym p ∙ h in
    later_list of to x l lacking (fills_more cs of to m x f) (i n l x q g)

pub fill_nested : (cs : Classes) (of to : ℕ → Listing) (m : ℕ) → Fills cs of to m → AreWhole cs of → AreNested of → AreNested to
fill_nested cs of to m f w i n l x h g = nested_by cs of to m n x l (m == n) f w i refl h g

-- ---- all of it

pub it_lacks : (a : Listing) → is_lacking a ≡ true → a ≡ lacking
it_lacks lacking h = refl
it_lacks broken h = cc
it_lacks (listed l) h = cc

pub same_length : (ks : List Kept) (m : ℕ) (v : Kept) → length (slice_set ks m v) ≡ length ks
same_length [] m v = refl
same_length (k ∷ ks) zero v = refl
same_length (k ∷ ks) (suc m) v = ap suc (same_length ks m v)

fills : (cs : Classes) (ks : List Kept) (m : ℕ) (v : Kept) → m < length ks → is_lacking (listing_at ks m) ≡ true → listing_of v ≡ found cs (listing_at ks) m
    → Fills cs (listing_at ks) (listing_at (slice_set ks m v)) m
fills cs ks m v h l e = record {
  was = it_lacks (listing_at ks m) l;
  is = ap listing_of (set_same ks m v h) ∙ e;
  others = λ n d. ap listing_of (set_other ks m n v d);
}

above_by_fill : (cs : Classes) (ks : List Kept) (m n : ℕ) (v : Kept) (b : Bool) → (m == n) ≡ b → m < length ks → IsAbove v (superclasses cs m) → AreAbove cs ks → IsAbove (kept_at (slice_set ks m v) n) (superclasses cs n)
above_by_fill cs ks m n v true e h a r =
    let p : m ≡ n = eqb-true m n e in
    subst (λ u. IsAbove (kept_at (slice_set ks m v) u) (superclasses cs u)) p (subst (λ u. IsAbove u (superclasses cs m)) (sym (set_same ks m v h)) a)
above_by_fill cs ks m n v false e h a r = subst (λ u. IsAbove u (superclasses cs n)) (sym (set_other ks m n v e)) (r n)

pub keeps_filled : (cs : Classes) (ks : List Kept) (m : ℕ) (v : Kept) → m < length ks → is_lacking (listing_at ks m) ≡ true → listing_of v ≡ found cs (listing_at ks) m → IsAbove v (superclasses cs m)
    → Keeps cs ks → Keeps cs (slice_set ks m v)
keeps_filled cs ks m v h l e a p =
    let f : Fills cs (listing_at ks) (listing_at (slice_set ks m v)) m = fills cs ks m v h l e in
    record {
      sound = fill_sound cs (listing_at ks) (listing_at (slice_set ks m v)) m f p.sound;
      whole = fill_whole cs (listing_at ks) (listing_at (slice_set ks m v)) m f p.whole;
      nested = fill_nested cs (listing_at ks) (listing_at (slice_set ks m v)) m f p.whole p.nested;
      above = λ n. above_by_fill cs ks m n v (m == n) refl h a p.above;
    }

pub progress_filled : (cs : Classes) (ks : List Kept) (m : ℕ) (v : Kept) → m < length ks → is_lacking (listing_at ks m) ≡ true → is_lacking (listing_of v) ≡ false
    → (Keeps cs ks → listing_of v ≡ found cs (listing_at ks) m) → IsAbove v (superclasses cs m) → Progress cs ks → Progress cs (slice_set ks m v)
progress_filled cs ks m v h l n r a p =
    let e : listing_of v ≡ found cs (listing_at ks) m = r p.keeps in
    let c : suc (lacking_in (slice_set ks m v)) ≡ lacking_in ks = fewer_lack ks m v h l n in
    let o : p.rounds + lacking_in ks ≤ length cs.names + length cs.names = p.room in
    record {
      keeps = keeps_filled cs ks m v h l e a p.keeps;
      rounds = suc p.rounds;
      reached = fill_reached cs (listing_at ks) (listing_at (slice_set ks m v)) m p.rounds (fills cs ks m v h l e) p.reached;
      room = omega (arith, c, o);
      length = same_length ks m v ∙ p.length;
    }

filled_by : (ks : List Kept) (m n : ℕ) (v : Kept) (b : Bool) → (m == n) ≡ b → is_lacking (listing_at ks m) ≡ true → More (listing_at ks n) (listing_at (slice_set ks m v) n)
filled_by ks m n v true e l = inl (subst (λ u. listing_at ks u ≡ lacking) (eqb-true m n e) (it_lacks (listing_at ks m) l))
filled_by ks m n v false e l = inr (sym (ap listing_of (set_other ks m n v e)))

pub filled_adds : (ks : List Kept) (m : ℕ) (v : Kept) → is_lacking (listing_at ks m) ≡ true → Adds ks (slice_set ks m v)
filled_adds ks m v l n = filled_by ks m n v (m == n) refl l

pub adds_through : (old mid new : List Kept) → Adds old mid → Adds mid new → Adds old new
adds_through old mid new f g n = more_through (listing_at old n) (listing_at mid n) (listing_at new n) (f n) (g n)

pub adds_none : (cs : Classes) (old new : List Kept) (b : Bool) (E : Type 0) → Filled b cs old new E → Adds old new
adds_none cs old new true E f = f.3
adds_none cs old new false E f = λ n. inr (ap (λ v. listing_at v n) (sym f.0))

pub adds_all : (ks : List Kept) → Adds ks ks
adds_all ks n = inr refl

-- ---- no more is found

no_class : (cs : Classes) (of : ℕ → Listing) (n : ℕ) → nat_lt n (length cs.names) ≡ false → found cs of n ≡ lacking
no_class cs of n h = cc

ended_by : (cs : Classes) (ks : List Kept) (n : ℕ) (b : Bool) → nat_lt n (length cs.names) ≡ b → ((k : ℕ) → k < length cs.names → Ends cs ks k) → Ends cs ks n
ended_by cs ks n true e h = h n (ltb-true n (length cs.names) e)
ended_by cs ks n false e h = λ k. no_class cs (listing_at ks) n e

pub knows : (cs : Classes) (ks : List Kept) → Progress cs ks → ((k : ℕ) → k < length cs.names → Ends cs ks k) → Knows cs ks
knows cs ks p h =
    let s : Settled cs (listing_at ks) = settle cs (listing_at ks) p.keeps.sound (λ n. ended_by cs ks n (nat_lt n (length cs.names)) refl h) in
    let r : p.rounds + lacking_in ks ≤ length cs.names + length cs.names = p.room in
    record {
      keeps = p.keeps;
      same = λ n. is_listing cs (listing_at ks) p.rounds (length cs.names + length cs.names) n s p.reached (omega (arith, r));
      length = p.length;
    }

found_lacks : (a b : Listing) → a ≡ b → is_lacking a ≡ true → b ≡ lacking
found_lacks a b e h = let p : a ≡ lacking = it_lacks a h in cc

pub nothing_found : (cs : Classes) (ks : List Kept) (m : ℕ) (v : Kept) → (Keeps cs ks → listing_of v ≡ found cs (listing_at ks) m) → is_lacking (listing_of v) ≡ true → Keeps cs ks → Ends cs ks m
nothing_found cs ks m v r h k e = found_lacks (listing_of v) (found cs (listing_at ks) m) (r k) h
