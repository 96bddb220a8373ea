-- What is kept where a class is placed, and where it is not.
use Rattle.std.proofs.Common.{None, ◌≡◌, ◌⊎◌, inl, inr, ℕ, zero, suc, take, ◌==◌, ◌+◌, ◌<◌, ◌≤◌, Bool, true, false, true≢false, List, [], ◌∷◌, ◌++◌, length, length-append, map, arith, refl, ap, sym, subst, ◌∙◌}
use Rattle.std.specs.Prelude.{◌||◌, nat_lt, vec_len, if◌then◌else◌}
use Rattle.std.specs.List.{list_any}
use Rattle.std.proofs.lemmas.Bool.{eqb-true, le-ltb, lt-ltb, ltb-false, ltb-true}
use Rattle.std.specs.declared.alloc.Global.{Global}
use Rattle.std.specs.declared.vec.Vec.{Vec}
use Rattle.lisp_data.specs.declared.ids.ClassId.{ClassId}
use Rattle.clos_precedence.specs.Precedence.{has}
use Rattle.clos_precedence.specs.PrecedenceView.{numbers}
use Rattle.clos_precedence.proofs.Truth.{either}
use Rattle.lisp_data.specs.Name.{Name, same_name}
use Rattle.clos_hierarchy.specs.Classes.{Classes, is_broken, is_circular, list_in, listing, names_above, superclasses}
use Rattle.clos_hierarchy.specs.Table.{misplaced}
use Rattle.clos_hierarchy.specs.declared.kept.Kept.{Kept}
use Rattle.clos_hierarchy.specs.declared.kept.Kept.TheVariants.{Lacking}
use Rattle.clos_hierarchy.specs.inner.Below.{Grows, below_at}
use Rattle.clos_hierarchy.specs.inner.Exchange.{IsPlace, Replaces, nothing_of, put_all, reached, taken_out}
use Rattle.clos_hierarchy.specs.inner.Kept.{Changes, Knows, Progress}
use Rattle.clos_hierarchy.specs.inner.KeptView.{kept_at, listing_at, listing_of}
use Rattle.clos_hierarchy.specs.inner.Direct.{AreDirect, Index, Spreads, directly_below}
use Rattle.clos_hierarchy.specs.inner.Told.{Tells, told}
use Rattle.clos_hierarchy.specs.inner.Touched.{AreNoted, AreWithin, Ascends, Closes, NoneBroken, NoneElse, OthersStay, Touches, have_it, is_touched}
use Rattle.clos_hierarchy.proofs.Defining.{restarted}
use Rattle.clos_hierarchy.proofs.Asleep.{asleep}
use Rattle.clos_hierarchy.proofs.Closed.{ends, not_above}
use Rattle.clos_hierarchy.proofs.Consistent.{none_broken_placed}
use Rattle.clos_hierarchy.proofs.Restarted.{back_at, free, map_same, none_else, own_in, past, put_length, put_others, restarts, second, within_new}

pub none_else_now : (ps : List ℕ) (ks now : List Kept) → OthersStay ps ks now → NoneElse ps ks → NoneElse ps now
none_else_now ps ks now o e n h = ap (λ k. is_broken (listing_of k)) (o.1 n h) ∙ e n h

pub as_long : (v : Vec Kept Global) (n : ℕ) → n ≡ vec_len v → n ≡ length v.items
as_long v n h = omega (arith, h)

-- ---- a place for each class

same_with : (ks : List Kept) (n : ℕ) → kept_at (ks ++ Lacking ∷ []) n ≡ kept_at ks n
same_with [] zero = refl
same_with [] (suc n) = refl
same_with (k ∷ ks) zero = refl
same_with (k ∷ ks) (suc n) = same_with ks n

same_reached : (ks : List Kept) (len n : ℕ) → kept_at (reached ks len) n ≡ kept_at ks n
same_reached ks len n = by (nat_lt (length ks) len)
  where
    by : (b : Bool) → kept_at (if b then ks ++ Lacking ∷ [] else ks) n ≡ kept_at ks n
    by true = same_with ks n
    by false = refl

reached_len : (ks : List Kept) (c to : ℕ) → IsPlace c (length ks) to → length (reached ks to) ≡ to
reached_len ks c to (inl h) = let e : to ≡ length ks = h.0 in ap (λ b. length (if b then ks ++ Lacking ∷ [] else ks)) (le-ltb (length ks) to (omega (arith, e))) ∙ sym h.0
reached_len ks c to (inr h) =
    let e : to ≡ suc (length ks) = h.0 in
    let l : length (ks ++ Lacking ∷ []) ≡ length ks + 1 = length-append ks (Lacking ∷ []) in
    ap (λ b. length (if b then ks ++ Lacking ∷ [] else ks)) (lt-ltb (length ks) to (omega (arith, e))) ∙ omega (arith, l, e)

place_there : (c len to : ℕ) → IsPlace c len to → c < to
place_there c len to (inl h) = let e : to ≡ len = h.0 in let l : c < len = h.1 in omega (arith, e, l)
place_there c len to (inr h) = let e : to ≡ suc len = h.0 in let l : c ≡ len = h.1 in omega (arith, e, l)

at_least : (c len to : ℕ) → IsPlace c len to → len ≤ to
at_least c len to (inl h) = let e : to ≡ len = h.0 in omega (arith, e)
at_least c len to (inr h) = let e : to ≡ suc len = h.0 in omega (arith, e)

-- ---- a class is placed

-- mid is kept before what is kept of the classes that it touches is taken out
pub record IsPlacing (to : Classes) (ks mid : List Kept) (rows : List (List ℕ)) (d : Index) (c : ℕ) (ps : List ℕ) : Type 0 where
  pub reaches : mid ≡ reached ks (length to.names)
  pub place : IsPlace c (length ks) (length to.names)
  pub noted : AreNoted rows ks
  pub apart : has (superclasses to c) c ≡ false
  pub touches : Touches to ks d rows c ps

pub placing : (to : Classes) (ks mid now : List Kept) (rows : List (List ℕ)) (d : Index) (c len : ℕ) (places slice : List ClassId) → slice ≡ places → now ≡ ks → len ≡ length to.names → mid ≡ reached ks len
    → IsPlace c (length ks) (length to.names) → AreNoted rows ks → is_circular to c ≡ false → Touches to now d rows c (numbers places) → IsPlacing to ks mid rows d c (numbers slice)
placing to ks mid now rows d c len places slice v u l e i o r t = record {
  reaches = e ∙ ap (reached ks) l;
  place = i;
  noted = o;
  apart = not_above to c r;
  touches = subst (λ y. Touches to ks d rows c (numbers y)) (sym v) (subst (λ y. Touches to y d rows c (numbers places)) u t);
}

module _ (to : Classes) (ks mid : List Kept) (rows : List (List ℕ)) (d : Index) (c : ℕ) (ps : List ℕ) (p : IsPlacing to ks mid rows d c ps) where
  abbrev woken : List ℕ
  woken = p.touches.woken

  i : IsPlace c (length ks) (length to.names)
  i = p.place

  o : AreNoted rows ks
  o = p.noted

  t : (n : ℕ) → has ps n ≡ is_touched ks woken rows c n
  t = p.touches.members

  a : Ascends ps
  a = p.touches.ordered

  same : (n : ℕ) → kept_at mid n ≡ kept_at ks n
  same n = ap (λ xs. kept_at xs n) p.reaches ∙ same_reached ks (length to.names) n

  len : length mid ≡ length to.names
  len = ap length p.reaches ∙ reached_len ks c (length to.names) i

  listed_there : (n : ℕ) (b : Bool) → nat_lt n (length ks) ≡ b → has (list_in (listing_at ks n)) c ≡ true → n < length ks
  listed_there n true q h = ltb-true n (length ks) q
  listed_there n false q h = absurd (true≢false (sym h ∙ ap (λ k. has (list_in (listing_of k)) c) (past ks n (ltb-false n (length ks) q))))

  there : (n : ℕ) → n < length ks → n < length to.names
  there n l = let b : length ks ≤ length to.names = at_least c (length ks) (length to.names) i in omega (arith, l, b)

  within_by : (n : ℕ) → ((c == n) ≡ true) ⊎ ((has woken n || have_it ks c (below_at rows c) n) ≡ true) → n < length to.names
  within_by n (inl h) = subst (λ m. m < length to.names) (eqb-true c n h) (place_there c (length ks) (length to.names) i)
  within_by n (inr h) = by (either (has woken n) (have_it ks c (below_at rows c) n) h)
    where
      by : (has woken n ≡ true) ⊎ (have_it ks c (below_at rows c) n ≡ true) → n < length to.names
      by (inl g) = p.touches.within n g
      by (inr g) = there n (listed_there n (nat_lt n (length ks)) refl (second (has (below_at rows c) n) (has (list_in (listing_at ks n)) c) g))

  pub within_mid : AreWithin ps mid
  within_mid n h = subst (λ m. n < m) (sym len) (within_by n (either (c == n) (has woken n || have_it ks c (below_at rows c) n) (sym (t n) ∙ h)))

  pub none_else_mid : NoneBroken ks → NoneElse ps mid
  none_else_mid u = none_else ks mid woken rows c ps same u p.touches.waited o t

  pub progress : (cs : Classes) → Tells cs (told ks d) → Changes cs to c → Progress to (taken_out ps mid)
  progress cs k m =
      restarted cs to c ks (taken_out ps mid) k.knows m (restarts ks mid woken rows c ps same k.well p.touches.waited o t a within_mid cs k.knows) (put_length ps (nothing_of ps) mid ∙ len)

  pub closes : (cs : Classes) → Tells cs (told ks d) → Changes cs to c → Closes to ps (taken_out ps mid)
  closes cs k m = λ now s g. ends to ks now woken ps rows c t (λ n h. s.1 n h ∙ put_others ps (nothing_of ps) mid n h ∙ same n) (p.touches.sleep (asleep cs to c ks k.knows m i d k.direct)) g.sound p.apart

  pub replaces : (olds now : List Kept) → olds ≡ map (kept_at mid) ps → OthersStay ps mid now → Replaces ps c olds ks now
  replaces olds now h s =
      let l : length now ≡ length mid = s.0 in
      let m : length mid ≡ length to.names = len in
      let b : length ks ≤ length to.names = at_least c (length ks) (length to.names) i in
      record {
        ordered = a;
        within = within_new ps mid now within_mid s;
        own = own_in ks woken rows c ps o t;
        free = free ks woken rows c ps o t;
        taken = h ∙ map_same ps (kept_at mid) (kept_at ks) (λ n g. same n);
        others = λ n g. s.1 n g ∙ same n;
        no_shorter = omega (arith, l, m, b);
      }

  pub same_mid : (n : ℕ) → kept_at mid n ≡ kept_at ks n
  same_mid n = same n

  pub no_shorter_mid : length ks ≤ length mid
  no_shorter_mid =
      let m : length mid ≡ length to.names = len in
      let b : length ks ≤ length to.names = at_least c (length ks) (length to.names) i in omega (arith, m, b)

-- ---- what was kept is put back

pub taken_back : (ks now : List Kept) → length ks ≤ length now → ((n : ℕ) → kept_at now n ≡ kept_at ks n) → take (length ks) now ≡ ks
taken_back [] now l h = refl
taken_back (k ∷ ks) [] l h = absurd (omega (arith, l))
taken_back (k ∷ ks) (x ∷ now) l h = λ i. h 0 i ∷ taken_back ks now (omega (arith, l)) (λ n. h (suc n)) i

pub put_back_is : (ps : List ℕ) (c : ℕ) (olds ks now : List Kept) (len : ℕ) → Replaces ps c olds ks now → length ks ≡ len → take len (put_all ps olds now) ≡ ks
put_back_is ps c olds ks now len r h =
    ap (λ v. take len (put_all ps v now)) r.taken ∙ ap (λ v. take v (put_all ps (map (kept_at ks) ps) now)) (sym h)
    ∙ taken_back ks (put_all ps (map (kept_at ks) ps) now) (subst (λ v. length ks ≤ v) (sym (put_length ps (map (kept_at ks) ps) now)) r.no_shorter) (back_at ps ks now r.within r.others)

-- ---- what is noted then

pub noted_still : (rows rows' : List (List ℕ)) (ks : List Kept) → AreNoted rows ks → Grows rows rows' → AreNoted rows' ks
noted_still rows rows' ks o g n m h = g m n (o n m h)

pub noted_now : (rows rows' : List (List ℕ)) (ks now : List Kept) (ps : List ℕ) → AreNoted rows ks → Grows rows rows' → ((n : ℕ) → has ps n ≡ false → kept_at now n ≡ kept_at ks n)
    → ((n m : ℕ) → has ps n ≡ true → has (list_in (listing_at now n)) m ≡ true → has (below_at rows' m) n ≡ true) → AreNoted rows' now
noted_now rows rows' ks now ps o g s f n m h = by (has ps n) refl
  where
    by : (b : Bool) → has ps n ≡ b → has (below_at rows' m) n ≡ true
    by true e = f n m e h
    by false e = g m n (o n m (ap (λ k. has (list_in (listing_of k)) m) (sym (s n e)) ∙ h))

-- ---- what there would be to say

pub listings_are : (to : Classes) (now : List Kept) (ps : List ℕ) → Knows to now → map listing_of (map (kept_at now) ps) ≡ map (λ n. listing to n) ps
listings_are to now [] k = refl
listings_are to now (p ∷ ps) k = λ i. k.same p i ∷ listings_are to now ps k i

module _ (cs to : Classes) (ks now olds : List Kept) (ps : List ℕ) (c : ℕ) (r : Replaces ps c olds ks now) (k : Knows cs ks) where
  pub others_listed : Knows to now → (n : ℕ) → has ps n ≡ false → listing to n ≡ listing cs n
  others_listed m n h = sym (m.same n) ∙ ap listing_of (r.others n h) ∙ k.same n

  pub others_free : (n : ℕ) → has ps n ≡ false → has (list_in (listing cs n)) c ≡ false
  others_free n h = ap (λ l. has (list_in l) c) (sym (k.same n)) ∙ r.free n h

  pub touched_within : Knows to now → (n : ℕ) → has ps n ≡ true → n < length to.names
  touched_within m n h = subst (λ l. n < l) m.length (r.within n h)

-- ---- what the table is left with

direct_by : (cs to : Classes) (d e : Index) (c n : ℕ) (x : Name) (b : Bool) → (c == n) ≡ b → Changes cs to c → AreDirect cs d → Spreads d e → ((y : Name) → list_any (same_name y) (names_above to c) ≡ true → has (directly_below e y) c ≡ true)
    → list_any (same_name x) (names_above to n) ≡ true → has (directly_below e x) n ≡ true
direct_by cs to d e c n x true q m a s f h =
    let i : c ≡ n = eqb-true c n q in subst (λ v. has (directly_below e x) v ≡ true) i (f x (subst (λ v. list_any (same_name x) (names_above to v) ≡ true) (sym i) h))
direct_by cs to d e c n x false q m a s f h = s x n (a n x (subst (λ v. list_any (same_name x) v ≡ true) (m.rows n q) h))

pub direct_now : (cs to : Classes) (d e : Index) (c : ℕ) → Changes cs to c → AreDirect cs d → Spreads d e → ((y : Name) → list_any (same_name y) (names_above to c) ≡ true → has (directly_below e y) c ≡ true) → AreDirect to e
direct_now cs to d e c m a s f n x h = direct_by cs to d e c n x (c == n) refl m a s f h

pub tells_still : (cs : Classes) (ks now : List Kept) (d e : Index) → now ≡ ks → Spreads d e → Tells cs (told ks d) → Tells cs (told now e)
tells_still cs ks now d e q s t = record { knows = subst (Knows cs) (sym q) t.knows; well = subst NoneBroken (sym q) t.well; direct = λ n x h. s x n (t.direct n x h) }

pub well_now : (to : Classes) (now : List Kept) (c : ℕ) (name : Name) (whole : Bool) → Knows to now → misplaced to c name whole ≡ None → NoneBroken now
well_now to now c name whole k h n = ap is_broken (k.same n) ∙ none_broken_placed to c name whole h n

pub tells_now : (cs to : Classes) (ks now : List Kept) (d e : Index) (c : ℕ) (name : Name) (whole : Bool) → Tells cs (told ks d) → Changes cs to c → Spreads d e
    → ((y : Name) → list_any (same_name y) (names_above to c) ≡ true → has (directly_below e y) c ≡ true) → Knows to now → misplaced to c name whole ≡ None → Tells to (told now e)
tells_now cs to ks now d e c name whole t m s f k h = record { knows = k; well = well_now to now c name whole k h; direct = direct_now cs to d e c m t.direct s f }
