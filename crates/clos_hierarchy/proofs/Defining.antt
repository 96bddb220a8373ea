-- One class is defined: what is kept of the others that are not below it stays.
use Rattle.std.proofs.Common.{◌≡◌, ℕ, zero, suc, ◌==◌, ◌+◌, Bool, true, false, List, [], ◌∷◌, ◌++◌, Some, length, ◌<◌, ◌≤◌, arith, refl, sym, subst, ap, ◌∙◌}
use Rattle.std.specs.Prelude.{◌||◌, nat_lt, slice_get, slice_set, unwrap_or, position, if◌then◌else◌}
use Rattle.std.specs.List.{list_any, position_or_len}
use Rattle.std.proofs.lemmas.Bool.{ltb-true, ltb-false, lt-ltb, eqb-false}
use Rattle.lisp_data.specs.Name.{Name, same_name}
use Rattle.clos_precedence.specs.Precedence.{has}
use Rattle.clos_hierarchy.specs.Classes.{Classes, Listing, lacking, broken, listed, number_of, with_class, found, is_lacking}
use Rattle.clos_hierarchy.specs.declared.kept.Kept.{Kept}
use Rattle.clos_hierarchy.specs.inner.KeptView.{listing_of, listing_at}
use Rattle.clos_hierarchy.specs.inner.Kept.{Changes, More, Sound, AreWhole, AreNested, ListWithin, Knows, Progress, lacking_in, without, Restarts}
use Rattle.clos_hierarchy.specs.Ways.{IsWhole}
use Rattle.clos_precedence.proofs.Members.{apart}
use Rattle.clos_hierarchy.proofs.Rounds.{Holds, sound_holds}
use Rattle.clos_hierarchy.proofs.Change.{Stays, stays, is_kept, within_without, others, still_based, kept_sound, kept_whole}
use Rattle.clos_hierarchy.proofs.Enough.{same_found}
use Rattle.clos_hierarchy.proofs.OneMore.{start_reached}

-- ---- the classes after one is defined

place_stays_by : (p : Name → Bool) (x : Name) (xs : List Name) (y : Name) (b : Bool) → p x ≡ b → position_or_len p (x ∷ xs) < length (x ∷ xs)
    → (position_or_len p xs < length xs → position_or_len p (xs ++ y ∷ []) ≡ position_or_len p xs) → position_or_len p ((x ∷ xs) ++ y ∷ []) ≡ position_or_len p (x ∷ xs)
place_stays_by p x xs y true e h r = cc
place_stays_by p x xs y false e h r =
    let i : position_or_len p (x ∷ xs) ≡ 1 + position_or_len p xs = cc in
    let q : position_or_len p (xs ++ y ∷ []) ≡ position_or_len p xs = r (omega (arith, h, i)) in cc

place_stays : (p : Name → Bool) (xs : List Name) (y : Name) → position_or_len p xs < length xs → position_or_len p (xs ++ y ∷ []) ≡ position_or_len p xs
place_stays p [] y h = absurd (omega (arith, h))
place_stays p (x ∷ xs) y h = place_stays_by p x xs y (p x) refl h (λ k. place_stays p xs y k)

pub longer : (xs : List Name) (y : Name) → length (xs ++ y ∷ []) ≡ length xs + 1
longer [] y = refl
longer (x ∷ xs) y = let p : length (xs ++ y ∷ []) ≡ length xs + 1 = longer xs y in omega (arith, p)

-- a name that was found is found at the same place
pub found_by : (p : Name → Bool) (xs : List Name) (y : Name) (i : ℕ) (b : Bool) → nat_lt (position_or_len p xs) (length xs) ≡ b → position p xs ≡ Some i → position p (xs ++ y ∷ []) ≡ Some i
found_by p xs y i true e h =
    let l : position_or_len p xs < length xs = ltb-true (position_or_len p xs) (length xs) e in
    let q : position_or_len p (xs ++ y ∷ []) ≡ position_or_len p xs = place_stays p xs y l in
    let r : length (xs ++ y ∷ []) ≡ length xs + 1 = longer xs y in
    let s : nat_lt (position_or_len p (xs ++ y ∷ [])) (length (xs ++ y ∷ [])) ≡ true = lt-ltb (position_or_len p (xs ++ y ∷ [])) (length (xs ++ y ∷ [])) (omega (arith, l, q, r)) in cc
found_by p xs y i false e h = cc

absent_place_by : (p : Name → Bool) (x : Name) (xs : List Name) (b : Bool) → p x ≡ b → (p x || list_any p xs) ≡ false → (list_any p xs ≡ false → position_or_len p xs ≡ length xs)
    → position_or_len p (x ∷ xs) ≡ length (x ∷ xs)
absent_place_by p x xs true e h r = cc
absent_place_by p x xs false e h r =
    let i : position_or_len p (x ∷ xs) ≡ 1 + position_or_len p xs = cc in
    let k : list_any p xs ≡ false = cc in
    let q : position_or_len p xs ≡ length xs = r k in omega (arith, i, q)

pub absent_place : (p : Name → Bool) (xs : List Name) → list_any p xs ≡ false → position_or_len p xs ≡ length xs
absent_place p [] h = refl
absent_place p (x ∷ xs) h = absent_place_by p x xs (p x) refl h (λ k. absent_place p xs k)

row_set : (rows : List (List Name)) (c k : ℕ) (a : List Name) → (c == k) ≡ false → slice_get (slice_set rows c a) k ≡ slice_get rows k
row_set [] c k a h = refl
row_set (r ∷ rows) zero zero a h = cc
row_set (r ∷ rows) zero (suc k) a h = refl
row_set (r ∷ rows) (suc c) zero a h = refl
row_set (r ∷ rows) (suc c) (suc k) a h = row_set rows c k a (apart c k (c == k) refl h)

row_last : (rows : List (List Name)) (k : ℕ) (a : List Name) → (length rows == k) ≡ false → slice_get (rows ++ a ∷ []) k ≡ slice_get rows k
row_last [] zero a h = cc
row_last [] (suc k) a h = refl
row_last (r ∷ rows) zero a h = refl
row_last (r ∷ rows) (suc k) a h = row_last rows k a (apart (length rows) k (length rows == k) refl h)

place_grows_by : (p : Name → Bool) (x : Name) (xs : List Name) (y : Name) (b : Bool) → p x ≡ b → position_or_len p xs ≤ position_or_len p (xs ++ y ∷ []) → position_or_len p (x ∷ xs) ≤ position_or_len p ((x ∷ xs) ++ y ∷ [])
place_grows_by p x xs y true e h =
    let i : position_or_len p (x ∷ xs) ≡ 0 = cc in omega (arith, i)
place_grows_by p x xs y false e h =
    let i : position_or_len p (x ∷ xs) ≡ 1 + position_or_len p xs = cc in
    let j : position_or_len p (x ∷ (xs ++ y ∷ [])) ≡ 1 + position_or_len p (xs ++ y ∷ []) = cc in omega (arith, h, i, j)

place_grows : (p : Name → Bool) (xs : List Name) (y : Name) → position_or_len p xs ≤ position_or_len p (xs ++ y ∷ [])
place_grows p [] y = omega (arith)
place_grows p (x ∷ xs) y = place_grows_by p x xs y (p x) refl (place_grows p xs y)

found_at_by : (p : Name → Bool) (xs : List Name) (i : ℕ) (b : Bool) → nat_lt (position_or_len p xs) (length xs) ≡ b → position p xs ≡ Some i → (position_or_len p xs ≡ i) × (i < length xs)
found_at_by p xs i true e h =
    let l : position_or_len p xs < length xs = ltb-true (position_or_len p xs) (length xs) e in
    let q : position_or_len p xs ≡ i = cc in (q, omega (arith, l, q))
found_at_by p xs i false e h = cc

pub found_at : (p : Name → Bool) (xs : List Name) (i : ℕ) → position p xs ≡ Some i → (position_or_len p xs ≡ i) × (i < length xs)
found_at p xs i h = found_at_by p xs i (nat_lt (position_or_len p xs) (length xs)) refl h

-- a name that is found there too was found before, or is the last
was_found_by : (p : Name → Bool) (xs : List Name) (y : Name) (i : ℕ) (b : Bool) → nat_lt (position_or_len p xs) (length xs) ≡ b → position p (xs ++ y ∷ []) ≡ Some i → (length xs == i) ≡ false → position p xs ≡ Some i
was_found_by p xs y i true e h d =
    let q : position_or_len p (xs ++ y ∷ []) ≡ position_or_len p xs = place_stays p xs y (ltb-true (position_or_len p xs) (length xs) e) in
    let r : position_or_len p (xs ++ y ∷ []) ≡ i = (found_at_by p (xs ++ y ∷ []) i (nat_lt (position_or_len p (xs ++ y ∷ [])) (length (xs ++ y ∷ []))) refl h).0 in cc
was_found_by p xs y i false e h d =
    let l : length xs ≤ position_or_len p xs = ltb-false (position_or_len p xs) (length xs) e in
    let q : position_or_len p xs ≤ position_or_len p (xs ++ y ∷ []) = place_grows p xs y in
    let r : (position_or_len p (xs ++ y ∷ []) ≡ i) × (i < length (xs ++ y ∷ [])) = found_at_by p (xs ++ y ∷ []) i (nat_lt (position_or_len p (xs ++ y ∷ [])) (length (xs ++ y ∷ []))) refl h in
    let a : position_or_len p (xs ++ y ∷ []) ≡ i = r.0 in
    let b : i < length (xs ++ y ∷ []) = r.1 in
    let c : length (xs ++ y ∷ []) ≡ length xs + 1 = longer xs y in
    absurd (omega (arith, l, q, a, b, c, eqb-false (length xs) i d))

changes_by : (cs to : Classes) (name : Name) (above : List Name) (b : Bool) → length cs.above ≡ length cs.names → list_any (same_name name) cs.names ≡ b
    → to ≡ (if b then record cs { above = slice_set cs.above (number_of cs name) above } else record { names = cs.names ++ name ∷ []; above = cs.above ++ above ∷ [] }) → Changes cs to (number_of cs name)
changes_by cs to name above true l e h =
    subst (λ v. Changes cs v (number_of cs name)) (sym h) (record {
      rows = λ k d. ap (λ v. unwrap_or v []) (row_set cs.above (number_of cs name) k above d);
      numbers = λ x i g. g;
      others = λ x i g d. g;
      back = λ x g l. g;
      more = omega (arith);
    })
changes_by cs to name above false l e h =
    let o : number_of cs name ≡ length cs.names = absent_place (same_name name) cs.names e in
    let p : number_of cs name ≡ length cs.above = o ∙ sym l in
    let q : length (cs.names ++ name ∷ []) ≡ length cs.names + 1 = longer cs.names name in
    subst (λ v. Changes cs v (number_of cs name)) (sym h) (record {
      rows = λ k d. ap (λ v. unwrap_or v []) (row_last cs.above k above (subst (λ v. (v == k) ≡ false) p d));
      numbers = λ x i g. found_by (same_name x) cs.names name i (nat_lt (position_or_len (same_name x) cs.names) (length cs.names)) refl g;
      others = λ x i g d. was_found_by (same_name x) cs.names name i (nat_lt (position_or_len (same_name x) cs.names) (length cs.names)) refl g (subst (λ v. (v == i) ≡ false) o d);
      back = λ x g l. absurd (omega (arith, o, l));
      more = omega (arith, q);
    })

pub changes : (cs : Classes) (name : Name) (above : List Name) → length cs.above ≡ length cs.names → Changes cs (with_class cs name above) (number_of cs name)
changes cs name above l = changes_by cs (with_class cs name above) name above (list_any (same_name name) cs.names) l refl refl

-- ---- what is kept

nested_stays : (c : ℕ) (of : ℕ → Listing) (n : ℕ) (l : List ℕ) (x : ℕ) → AreNested of → Stays (of n) c l → has l x ≡ true → ListWithin (λ m. without c (of m)) x l
nested_stays c of n l x m s h =
    let p : ListWithin of x l = m n l x s.was h in
    let e : of x ≡ listed p.0 = p.1 in
    let k : without c (listed p.0) ≡ listed p.0 = is_kept c p.0 (within_without c p.0 l (has p.0 c) refl p.2 s.without) in
    (p.0, ap (λ v. without c v) e ∙ k, p.2)

count_one : (b : Bool) (m n : ℕ) → m ≤ n → (if b then 1 else 0) + m ≤ suc n
count_one true m n h = omega (arith, h)
count_one false m n h = omega (arith, h)

count_less : (ks : List Kept) → lacking_in ks ≤ length ks
count_less [] = omega (arith)
count_less (k ∷ ks) = let p : lacking_in ks ≤ length ks = count_less ks in count_one (is_lacking (listing_of k)) (lacking_in ks) (length ks) p

never_by : (c : ℕ) (a : Listing) (l : List ℕ) (b : Bool) → has l c ≡ b → a ≡ (if b then lacking else listed l) → a ≡ broken → broken ≡ lacking
never_by c a l true e h k = cc
never_by c a l false e h k = cc

moved_list : (of to : ℕ → Listing) (x : ℕ) (l : List ℕ) → ((n : ℕ) → to n ≡ of n) → ListWithin of x l → ListWithin to x l
moved_list of to x l e p = (p.0, e x ∙ p.1, p.2)

never_broken : (c : ℕ) (a b : Listing) → a ≡ without c b → a ≡ broken → broken ≡ lacking
never_broken c a lacking e h = cc
never_broken c a broken e h = cc
never_broken c a (listed l) e h = never_by c a l (has l c) refl e h

sound_moved : (to : Classes) (of now : ℕ → Listing) → ((n : ℕ) → now n ≡ of n) → Sound to of → Sound to now
sound_moved to of now e s n =
    let f : found to of n ≡ found to now n = same_found to of now n (λ k h. sym (e k)) in
    subst (λ v. More (now n) v) f (subst (λ v. More v (found to of n)) (sym (e n)) (s n))

-- what is kept of the other classes, before more is found
pub restarted : (cs to : Classes) (c : ℕ) (ks new : List Kept) → Knows cs ks → Changes cs to c → Restarts c ks new → length new ≡ length to.names → Progress to new
restarted cs to c ks new k m r l =
    let of : ℕ → Listing = listing_at ks in
    let t : Holds cs of = sound_holds cs of k.keeps.sound in
    let e : (n : ℕ) → listing_at new n ≡ without c (of n) = λ n. (r n).0 in
    let sound : Sound to (listing_at new) = sound_moved to (λ n. without c (of n)) (listing_at new) e (kept_sound cs to c of m t k.keeps.whole) in
    let whole : AreWhole to (listing_at new) = λ n a h. kept_whole cs to c of m k.keeps.whole n a (sym (e n) ∙ h) in
    let p : lacking_in new ≤ length new = count_less new in
    record {
      keeps = record {
        sound = sound;
        whole = whole;
        nested = λ n a x h i. moved_list (λ j. without c (of j)) (listing_at new) x a e (nested_stays c of n a x k.keeps.nested (stays (of n) c a (sym (e n) ∙ h)) i);
        above = λ n a h.
            let s : Stays (of n) c a = stays (of n) c a (sym (e n) ∙ h) in
            let w : IsWhole cs n a = k.keeps.whole n a s.was in
            (r n).1 a h ∙ (k.keeps.above n a s.was ∙ sym (still_based cs to c n m (others c a n s.without w.family.self) (w.based n w.family.self)).0);
      };
      rounds = length to.names;
      reached = start_reached to (listing_at new) (sound_holds to (listing_at new) sound) whole (λ n h. never_broken c (listing_at new n) (of n) (e n) h);
      room = omega (arith, p, l);
      length = l;
    }
