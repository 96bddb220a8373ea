-- What a definition makes of the classes.
use Rattle.std.proofs.Common.{◌≡◌, ◌⊎◌, inl, inr, ℕ, zero, suc, ◌==◌, ◌+◌, Bool, true, false, ◌||◌, true≢false, List, [], ◌∷◌, ◌++◌, None, length, length-append, ◌<◌, ◌≤◌, arith, map, refl, ap, sym, subst, ◌∙◌}
use Rattle.std.specs.Prelude.{nat_lt, slice_get, slice_set, unwrap_or, if◌then◌else◌}
use Rattle.std.specs.List.{list_any, position_or_len}
use Rattle.std.proofs.lemmas.Bool.{eq-eqb, eqb-true, le-ltb, lt-ltb}
use Rattle.std.proofs.lemmas.List.{length-set}
use Rattle.lisp_data.specs.Name.{Name, same_name}
use Rattle.lisp_data.specs.declared.ids.ClassId.{ClassId}
use Rattle.clos_defclass.specs.declared.class.ClassDefinition.{ClassDefinition}
use Rattle.clos_hierarchy.specs.Classes.{Classes, Listing, lacking, list_in, number_of, with_class}
use Rattle.clos_hierarchy.specs.Outlook.{Outlook, listing_among}
use Rattle.clos_precedence.specs.Precedence.{has}
use Rattle.clos_precedence.specs.PrecedenceView.{numbers}
use Rattle.clos_precedence.proofs.Members.{first_or_later, has_first, has_later}
use Rattle.clos_hierarchy.specs.Table.{Table as NameTable, or_standard}
use Rattle.clos_class.specs.declared.direct.ClassSlots.{ClassSlots}
use Rattle.clos_class.specs.inner.Keeping.{Kept, Tells, TellsAll, TellsEach, Touches, kept_at, len_with, lists_of, put_each, with_place}
use Rattle.clos_class.specs.Slots.{Defaults, DirectSlots}
use Rattle.clos_class.specs.SlotsView.{defaults, direct_slots}
use Rattle.clos_class.specs.Table.{classes_with, number, with_row}
use Rattle.clos_class.proofs.Alike.{neither, untouched}
use Rattle.clos_class.proofs.Rowed.{set_here, set_other}

-- ---- how many they are

present_by : (p : Name → Bool) (x : Name) (xs : List Name) (b : Bool) → p x ≡ b → (b || list_any p xs) ≡ true → (list_any p xs ≡ true → position_or_len p xs < length xs)
    → position_or_len p (x ∷ xs) < length (x ∷ xs)
present_by p x xs true e h r = let i : position_or_len p (x ∷ xs) ≡ 0 = cc in omega (arith, i)
present_by p x xs false e h r = let i : position_or_len p (x ∷ xs) ≡ 1 + position_or_len p xs = cc in omega (arith, i, r h)

present : (p : Name → Bool) (xs : List Name) → list_any p xs ≡ true → position_or_len p xs < length xs
present p [] h = absurd (true≢false (sym h))
present p (x ∷ xs) h = present_by p x xs (p x) refl h (λ k. present p xs k)

absent_by : (p : Name → Bool) (x : Name) (xs : List Name) (b : Bool) → p x ≡ b → (b || list_any p xs) ≡ false → (list_any p xs ≡ false → position_or_len p xs ≡ length xs)
    → position_or_len p (x ∷ xs) ≡ length (x ∷ xs)
absent_by p x xs true e h r = absurd (true≢false h)
absent_by p x xs false e h r = let i : position_or_len p (x ∷ xs) ≡ 1 + position_or_len p xs = cc in omega (arith, i, r h)

absent : (p : Name → Bool) (xs : List Name) → list_any p xs ≡ false → position_or_len p xs ≡ length xs
absent p [] h = refl
absent p (x ∷ xs) h = absent_by p x xs (p x) refl h (λ k. absent p xs k)

numbered_by : (cs : Classes) (name : Name) (above : List Name) (b : Bool) → list_any (same_name name) cs.names ≡ b
    → (number_of cs name ≤ length cs.names) × (len_with (length cs.names) (number_of cs name) ≡ length (with_class cs name above).names)
numbered_by cs name above true e =
    let p : number_of cs name < length cs.names = present (same_name name) cs.names e in
    let q : nat_lt (number_of cs name) (length cs.names) ≡ true = lt-ltb (number_of cs name) (length cs.names) p in
    let r : (with_class cs name above).names ≡ cs.names = cc in
    (omega (arith, p), ap (λ b. if b then length cs.names else suc (length cs.names)) q ∙ ap length (sym r))
numbered_by cs name above false e =
    let p : number_of cs name ≡ length cs.names = absent (same_name name) cs.names e in
    let q : nat_lt (number_of cs name) (length cs.names) ≡ false = le-ltb (number_of cs name) (length cs.names) (omega (arith, p)) in
    let r : (with_class cs name above).names ≡ cs.names ++ name ∷ [] = cc in
    let s : length (cs.names ++ name ∷ []) ≡ length cs.names + 1 = length-append cs.names (name ∷ []) in
    let t : suc (length cs.names) ≡ length (cs.names ++ name ∷ []) = omega (arith, s) in
    (omega (arith, p), ap (λ b. if b then length cs.names else suc (length cs.names)) q ∙ t ∙ ap length (sym r))

numbered : (cs : Classes) (name : Name) (above : List Name) → (number_of cs name ≤ length cs.names) × (len_with (length cs.names) (number_of cs name) ≡ length (with_class cs name above).names)
numbered cs name above = numbered_by cs name above (list_any (same_name name) cs.names) refl

pub known : (t : NameTable) (d : ClassDefinition) (n len : ℕ) → len ≡ length t.classes.names → n ≡ number t d → n ≤ len
known t d n len e h = let p : number t d ≤ length t.classes.names = (numbered t.classes d.name []).0 in omega (arith, e, h, p)

pub so_many : (t : NameTable) (d : ClassDefinition) (n len : ℕ) → len ≡ length t.classes.names → n ≡ number t d → len_with len n ≡ length (classes_with t d).names
so_many t d n len e h = ap (λ m. len_with m n) e ∙ ap (len_with (length t.classes.names)) h ∙ (numbered t.classes d.name (or_standard d.superclasses)).1

-- ---- the classes that are touched

own_by : (f : ℕ → Listing) (ps : List ℕ) (c : ℕ) → has ps c ≡ true → listing_among ps (map f ps) c ≡ f c
own_by f [] c h = absurd (true≢false (sym h))
own_by f (p ∷ ps) c h = by (p == c) refl h (λ k. own_by f ps c k)
  where
    by : (b : Bool) → (p == c) ≡ b → (b || has ps c) ≡ true → (has ps c ≡ true → listing_among ps (map f ps) c ≡ f c) → (if b then f p else listing_among ps (map f ps) c) ≡ f c
    by true e h r = ap f (eqb-true p c e)
    by false e h r = r h

-- what there would be to say of the class that is defined
pub own_listing : (f : ℕ → Listing) (ps : List ℕ) (ls : List Listing) (c : ℕ) → ls ≡ map f ps → has ps c ≡ true → listing_among ps ls c ≡ f c
own_listing f ps ls c e h = ap (λ v. listing_among ps v c) e ∙ own_by f ps c h

each_by : (of : DirectSlots) (given : Defaults) (f : ℕ → Listing) (ps : List ℕ) (ks : List Kept) → length ks ≡ length ps
    → ((i : ℕ) → i < length ps → Tells of given (list_in (unwrap_or (slice_get (map f ps) i) lacking)) (kept_at ks i)) → TellsEach of given (λ n. list_in (f n)) ps ks
each_by of given f [] [] l h = tt
each_by of given f [] (k ∷ ks) l h = absurd (omega (arith, l))
each_by of given f (p ∷ ps) [] l h = absurd (omega (arith, l))
each_by of given f (p ∷ ps) (k ∷ ks) l h = (h 0 (omega arith), each_by of given f ps ks (omega (arith, l)) (λ i g. h (suc i) (omega (arith, g))))

-- what is found of them, one after another
pub told_each : (of : DirectSlots) (given : Defaults) (f : ℕ → Listing) (ps : List ℕ) (ls : List Listing) (ks : List Kept) → ls ≡ map f ps → length ks ≡ length ps
    → ((i : ℕ) → i < length ps → Tells of given (list_in (unwrap_or (slice_get ls i) lacking)) (kept_at ks i)) → TellsEach of given (λ n. list_in (f n)) ps ks
told_each of given f ps ls ks e l h =
    each_by of given f ps ks l (λ i g. subst (λ v. Tells of given (list_in (unwrap_or (slice_get v i) lacking)) (kept_at ks i)) e (h i g))

pub each_length : (of : DirectSlots) (given : Defaults) (lists : ℕ → List ℕ) (ps : List ℕ) (ks : List Kept) → TellsEach of given lists ps ks → length ks ≡ length ps
each_length of given lists [] [] t = refl
each_length of given lists [] (k ∷ ks) t = absurd t
each_length of given lists (p ∷ ps) [] t = absurd t
each_length of given lists (p ∷ ps) (k ∷ ks) t = ap suc (each_length of given lists ps ks t.1)

-- ---- what is kept then

put_length : (ps : List ℕ) (new ks : List Kept) → length (put_each ps new ks) ≡ length ks
put_length [] new ks = refl
put_length (p ∷ ps) [] ks = refl
put_length (p ∷ ps) (k ∷ new) ks = length-set (put_each ps new ks) p k ∙ put_length ps new ks

place_by : (ks : List Kept) (b : Bool) → length (if b then ks else ks ++ None ∷ []) ≡ (if b then length ks else suc (length ks))
place_by ks true = refl
place_by ks false = let l : length (ks ++ None ∷ []) ≡ length ks + 1 = length-append ks (None ∷ []) in omega (arith, l)

pub kept_length : (ps : List ℕ) (new ks : List Kept) (c : ℕ) → length (put_each ps new (with_place ks c)) ≡ len_with (length ks) c
kept_length ps new ks c = put_length ps new (with_place ks c) ∙ place_by ks (nat_lt c (length ks))

pub place_length : (ks : List Kept) (c : ℕ) → length (with_place ks c) ≡ len_with (length ks) c
place_length ks c = place_by ks (nat_lt c (length ks))

same_place : (ks : List Kept) (n : ℕ) → kept_at (ks ++ None ∷ []) n ≡ kept_at ks n
same_place [] zero = refl
same_place [] (suc n) = refl
same_place (k ∷ ks) zero = refl
same_place (k ∷ ks) (suc n) = same_place ks n

same_with : (ks : List Kept) (c n : ℕ) → kept_at (with_place ks c) n ≡ kept_at ks n
same_with ks c n = by (nat_lt c (length ks))
  where
    by : (b : Bool) → kept_at (if b then ks else ks ++ None ∷ []) n ≡ kept_at ks n
    by true = refl
    by false = same_place ks n

put_other : (ps : List ℕ) (new ks : List Kept) (n : ℕ) → has ps n ≡ false → kept_at (put_each ps new ks) n ≡ kept_at ks n
put_other [] new ks n h = refl
put_other (p ∷ ps) [] ks n h = refl
put_other (p ∷ ps) (k ∷ new) ks n h =
    ap (λ o. unwrap_or o None) (set_other (put_each ps new ks) p n k (turned (n == p) refl (neither (p == n) (has ps n) h).0)) ∙ put_other ps new ks n (neither (p == n) (has ps n) h).1
  where
    turned : (b : Bool) → (n == p) ≡ b → (p == n) ≡ false → b ≡ false
    turned true e f = absurd (true≢false (sym (eq-eqb p n (sym (eqb-true n p e))) ∙ f))
    turned false e f = refl

module _ (of : DirectSlots) (given : Defaults) (lists : ℕ → List ℕ) where
  later : (n p : ℕ) (ps : List ℕ) → (n == p) ≡ false → (p ≡ n) ⊎ (has ps n ≡ true) → has ps n ≡ true
  later n p ps e (inl q) = absurd (true≢false (sym (eq-eqb n p (sym q)) ∙ e))
  later n p ps e (inr g) = g

  told_by : (p : ℕ) (ps : List ℕ) (k : Kept) (new ks : List Kept) (n : ℕ) (b : Bool) → (n == p) ≡ b → Tells of given (lists p) k → p < length ks → (p ≡ n) ⊎ (has ps n ≡ true)
      → (has ps n ≡ true → Tells of given (lists n) (kept_at (put_each ps new ks) n)) → Tells of given (lists n) (kept_at (slice_set (put_each ps new ks) p k) n)
  told_by p ps k new ks n true e t l h r =
      subst (λ m. Tells of given (lists m) (kept_at (slice_set (put_each ps new ks) p k) m)) (sym (eqb-true n p e))
      (subst (Tells of given (lists p)) (sym (ap (λ o. unwrap_or o None) (set_here (put_each ps new ks) p k (subst (λ v. p < v) (sym (put_length ps new ks)) l)))) t)
  told_by p ps k new ks n false e t l h r = subst (Tells of given (lists n)) (sym (ap (λ o. unwrap_or o None) (set_other (put_each ps new ks) p n k e))) (r (later n p ps e h))

  put_told : (ps : List ℕ) (new ks : List Kept) (n : ℕ) → TellsEach of given lists ps new → ((m : ℕ) → has ps m ≡ true → m < length ks) → has ps n ≡ true → Tells of given (lists n) (kept_at (put_each ps new ks) n)
  put_told [] new ks n t w h = absurd (true≢false (sym h))
  put_told (p ∷ ps) [] ks n t w h = absurd t
  put_told (p ∷ ps) (k ∷ new) ks n t w h =
      told_by p ps k new ks n (n == p) refl t.0 (w p (has_first p ps)) (first_or_later p n ps h) (λ g. put_told ps new ks n t.1 (λ m i. w m (has_later p m ps i)) g)

-- what is kept of all classes once one is defined
pub all_told : (rows : List ClassSlots) (row : ClassSlots) (cs to : Classes) (c : ℕ) (ps : List ℕ) (new ks : List Kept) → c ≤ length rows → Touches cs to c ps → length to.names ≡ len_with (length ks) c → TellsAll rows (lists_of cs) ks
    → TellsEach (direct_slots (with_row rows c row)) (defaults (with_row rows c row)) (lists_of to) ps new → TellsAll (with_row rows c row) (lists_of to) (put_each ps new (with_place ks c))
all_told rows row cs to c ps new ks b u l a t n = by (has ps n) refl
  where
    by : (b : Bool) → has ps n ≡ b → Tells (direct_slots (with_row rows c row)) (defaults (with_row rows c row)) (lists_of to n) (kept_at (put_each ps new (with_place ks c)) n)
    by true h =
        put_told (direct_slots (with_row rows c row)) (defaults (with_row rows c row)) (lists_of to) ps new (with_place ks c) n t (λ m g. subst (λ v. m < v) (l ∙ sym (place_length ks c)) (u.within m g)) h
    by false h =
        subst (Tells (direct_slots (with_row rows c row)) (defaults (with_row rows c row)) (lists_of to n)) (sym (put_other ps new (with_place ks c) n h ∙ same_with ks c n))
        (untouched rows c row (lists_of cs n) (lists_of to n) (kept_at ks n) b (u.free n h) (ap list_in (u.others n h)) (a n))

-- ---- the last of those that are put in places is put first

pub put_last : (cs : List ClassId) (c : ClassId) (new : List Kept) (k : Kept) (ks : List Kept) → length new ≡ length cs → put_each (numbers (cs ++ c ∷ [])) (new ++ k ∷ []) ks ≡ put_each (numbers cs) new (slice_set ks c.0 k)
put_last [] c [] k ks l = refl
put_last [] c (n ∷ new) k ks l = absurd (omega (arith, l))
put_last (x ∷ cs) c [] k ks l = absurd (omega (arith, l))
put_last (x ∷ cs) c (n ∷ new) k ks l = ap (λ v. slice_set v x.0 n) (put_last cs c new k ks (omega (arith, l)))

pub has_end : (cs : List ClassId) (c : ClassId) → has (numbers (cs ++ c ∷ [])) c.0 ≡ true
has_end [] c = has_first c.0 []
has_end (x ∷ cs) c = has_later x.0 c.0 (numbers (cs ++ c ∷ [])) (has_end cs c)

pub has_before : (cs : List ClassId) (c : ClassId) (n : ℕ) → has (numbers cs) n ≡ true → has (numbers (cs ++ c ∷ [])) n ≡ true
has_before [] c n h = absurd (true≢false (sym h))
has_before (x ∷ cs) c n h = by (first_or_later x.0 n (numbers cs) h) (λ g. has_before cs c n g)
  where
    by : (x.0 ≡ n) ⊎ (has (numbers cs) n ≡ true) → (has (numbers cs) n ≡ true → has (numbers (cs ++ c ∷ [])) n ≡ true) → has (numbers (x ∷ (cs ++ c ∷ []))) n ≡ true
    by (inl e) r = subst (λ m. has (x.0 ∷ numbers (cs ++ c ∷ [])) m ≡ true) e (has_first x.0 (numbers (cs ++ c ∷ [])))
    by (inr g) r = has_later x.0 n (numbers (cs ++ c ∷ [])) (r g)

pub as_many : (cs : List ClassId) → length (numbers cs) ≡ length cs
as_many [] = refl
as_many (c ∷ cs) = ap suc (as_many cs)

-- ---- as it is defined

module _ (t now : NameTable) (d : ClassDefinition) (was mid : List Kept) (o : Outlook) (slice : List ClassId) (n : ℕ) (e : now ≡ t) (lw : length was ≡ length t.classes.names) (m : mid ≡ was) (s : numbers slice ≡ o.touched)
    (c : o.class ≡ number t d) (i : n ≡ number now d) (u : Touches t.classes (classes_with t d) o.class o.touched) where
  own : n ≡ o.class
  own = i ∙ ap (λ v. number v d) e ∙ sym c

  len : length (classes_with t d).names ≡ len_with (length was) o.class
  len = sym (so_many t d o.class (length was) lw c)

  pub keep_within : (k : ℕ) → has (numbers slice) k ≡ true → k < len_with (length mid) n
  keep_within k h = subst (λ v. k < v) (len ∙ ap (λ v. len_with (length v) o.class) (sym m) ∙ ap (len_with (length mid)) (sym own)) (u.within k (subst (λ v. has v k ≡ true) s h))

  pub keep_each : (of : DirectSlots) (given : Defaults) (lists : ℕ → List ℕ) (found : List Kept) → TellsEach of given lists o.touched found → length found ≡ length slice
  keep_each of given lists found h = each_length of given lists o.touched found h ∙ ap length (sym s) ∙ as_many slice

  pub keep_then : (rows seen : List ClassSlots) (row : ClassSlots) (found ks : List Kept) → seen ≡ rows → length rows ≡ length t.classes.names → TellsAll rows (lists_of t.classes) was
      → TellsEach (direct_slots (with_row seen o.class row)) (defaults (with_row seen o.class row)) (lists_of (classes_with t d)) o.touched found → ks ≡ put_each (numbers slice) found (with_place mid n)
      → (length ks ≡ len_with (length was) (number t d)) × TellsAll (with_row seen (number t d) row) (lists_of (classes_with t d)) ks
  keep_then rows seen row found ks r l a h k =
      let q : ks ≡ put_each o.touched found (with_place was o.class) =
      k ∙ ap (λ v. put_each v found (with_place mid n)) s ∙ ap (λ v. put_each o.touched found (with_place v n)) m ∙ ap (λ v. put_each o.touched found (with_place was v)) own in (
        ap length q ∙ kept_length o.touched found was o.class ∙ ap (len_with (length was)) c,
        subst (λ v. TellsAll (with_row seen v row) (lists_of (classes_with t d)) ks) c
            (subst (λ v. TellsAll (with_row seen o.class row) (lists_of (classes_with t d)) v) (sym q)
            (all_told seen row t.classes (classes_with t d) o.class o.touched found was (known t d o.class (length seen) (ap length r ∙ l) c) u len (subst (λ v. TellsAll v (lists_of t.classes) was) (sym r) a) h)),
      )
