-- All that are above a class are found, with ways down to it: so a circle is, where there is one.
use Rattle.std.proofs.Common.{◌≡◌, ℕ, zero, suc, ◌+◌, ◌<◌, Bool, true, false, ◌&&◌, ◌||◌, List, [], ◌∷◌, ◌++◌, length, Option, Some, None, get_or, refl, ap, sym, subst, ◌∙◌, true≢false, arith, length-append}
use Rattle.std.specs.Prelude.{if◌then◌else◌, nat_lt, position, slice_get, unwrap_or}
use Rattle.std.specs.Cmp.{first_so, second_so}
use Rattle.std.specs.List.{list_any, position_or_len}
use Rattle.std.proofs.lemmas.List.Folds.{list_any-append}
use Rattle.std.proofs.lemmas.List.Sums.{passes_at_first}
use Rattle.std.proofs.lemmas.Option.{get_or_from_slice_get, none-some, slice_get-get_or, slice_get_within}
use Rattle.lisp_data.specs.KeyLaws.{same_name-Decides}
use Rattle.lisp_data.specs.Name.{Name, same_name}
use Rattle.lisp_data.specs.Same.{both_so}
use Rattle.clos_circle.specs.Circle.{is_circle, leads_down, returns_to}
use Rattle.clos_circle.specs.inner.Upward.{Found, HasAbove, IsStep, IsUpward, IsWay, above_of, is_among, with_all, with_one}

-- ---- what is at a place of a list with one more

module _ {X : Type 0} where
  pub one_item : (x y : X) → Some x ≡ Some y → x ≡ y
  one_item x y h = ap (λ o. unwrap_or o x) h

  data AtPushed (xs : List X) (z : X) (i : ℕ) (y : X) : Type 0 where
    of_list : slice_get xs i ≡ Some y → AtPushed xs z i y
    the_last : i ≡ length xs → z ≡ y → AtPushed xs z i y

  next_pushed : (x : X) (xs : List X) (z : X) (i : ℕ) (y : X) → AtPushed xs z i y → AtPushed (x ∷ xs) z (suc i) y
  next_pushed x xs z i y (of_list h) = of_list h
  next_pushed x xs z i y (the_last e h) = the_last (ap suc e) h

  at_pushed : (xs : List X) (z : X) (i : ℕ) (y : X) → slice_get (xs ++ z ∷ []) i ≡ Some y → AtPushed xs z i y
  at_pushed [] z zero y h = the_last refl (one_item z y h)
  at_pushed [] z (suc i) y h = absurd (none-some y h)
  at_pushed (x ∷ xs) z zero y h = of_list h
  at_pushed (x ∷ xs) z (suc i) y h = next_pushed x xs z i y (at_pushed xs z i y h)

  still_at : (xs : List X) (z : X) (i : ℕ) (y : X) → slice_get xs i ≡ Some y → slice_get (xs ++ z ∷ []) i ≡ Some y
  still_at [] z i y h = absurd (none-some y h)
  still_at (x ∷ xs) z zero y h = h
  still_at (x ∷ xs) z (suc i) y h = still_at xs z i y h

  at_last : (xs : List X) (z : X) (i : ℕ) → i ≡ length xs → slice_get (xs ++ z ∷ []) i ≡ Some z
  at_last [] z zero e = refl
  at_last [] z (suc i) e = absurd (omega (arith, e))
  at_last (x ∷ xs) z zero e = absurd (omega (arith, e))
  at_last (x ∷ xs) z (suc i) e = at_last xs z i (omega (arith, e))

-- ---- names among others

pub itself : (x : Name) → same_name x x ≡ true
itself x = (same_name-Decides x x).1 refl

pub or_first : (a b : Bool) → a ≡ true → (a || b) ≡ true
or_first true b h = refl
or_first false b h = absurd (true≢false (sym h))

pub or_second : (a b : Bool) → b ≡ true → (a || b) ≡ true
or_second true b h = refl
or_second false b h = h

among_at : (ns : List Name) (i : ℕ) (x : Name) → slice_get ns i ≡ Some x → is_among ns x ≡ true
among_at [] i x h = absurd (none-some x h)
among_at (n ∷ ns) zero x h = or_first (same_name x n) (is_among ns x) (ap (same_name x) (one_item n x h) ∙ itself x)
among_at (n ∷ ns) (suc i) x h = or_second (same_name x n) (is_among ns x) (among_at ns i x h)

pub record Place (ns : List Name) (x : Name) : Type 0 where
  pub index : ℕ
  pub there : slice_get ns index ≡ Some x

place_or : (b : Bool) (n x : Name) (ns : List Name) → same_name x n ≡ b → (b || is_among ns x) ≡ true
    → (is_among ns x ≡ true → Place ns x) → Place (n ∷ ns) x
place_or true n x ns e h rest = record { index = 0; there = ap Some (sym ((same_name-Decides x n).0 e)) }
place_or false n x ns e h rest = record { index = suc (rest h).index; there = (rest h).there }

pub place_among : (ns : List Name) (x : Name) → is_among ns x ≡ true → Place ns x
place_among [] x h = absurd (true≢false (sym h))
place_among (n ∷ ns) x h = place_or (same_name x n) n x ns refl h (place_among ns x)

still_among : (ns : List Name) (z x : Name) → is_among ns x ≡ true → is_among (ns ++ z ∷ []) x ≡ true
still_among ns z x h =
    list_any-append (same_name x) ns (z ∷ []) ∙ or_first (is_among ns x) (is_among (z ∷ []) x) h

last_among : (ns : List Name) (x : Name) → is_among (ns ++ x ∷ []) x ≡ true
last_among ns x =
    list_any-append (same_name x) ns (x ∷ [])
    ∙ or_second (is_among ns x) (is_among (x ∷ []) x) (or_first (same_name x x) false (itself x))

-- ---- one more above a class

grown_by : (b : Bool) (u : Found) (x : Name) (place : ℕ) (z : Name) → is_among u.0 z ≡ true
    → is_among (if b then u else (u.0 ++ x ∷ [], u.1 ++ place ∷ [])).0 z ≡ true
grown_by true u x place z h = h
grown_by false u x place z h = still_among u.0 x z h

kept_by : (b : Bool) (u : Found) (x : Name) (place i : ℕ) (y : Name) → slice_get u.0 i ≡ Some y
    → slice_get (if b then u else (u.0 ++ x ∷ [], u.1 ++ place ∷ [])).0 i ≡ Some y
kept_by true u x place i y h = h
kept_by false u x place i y h = still_at u.0 x i y h

taken_by : (b : Bool) (u : Found) (x : Name) (place : ℕ) → is_among u.0 x ≡ b
    → is_among (if b then u else (u.0 ++ x ∷ [], u.1 ++ place ∷ [])).0 x ≡ true
taken_by true u x place h = h
taken_by false u x place h = last_among u.0 x

grown : (xs : List Name) (place : ℕ) (u : Found) (z : Name) → is_among u.0 z ≡ true → is_among (with_all xs place u).0 z ≡ true
grown [] place u z h = h
grown (x ∷ xs) place u z h = grown xs place (with_one x place u) z (grown_by (is_among u.0 x) u x place z h)

kept : (xs : List Name) (place : ℕ) (u : Found) (i : ℕ) (y : Name) → slice_get u.0 i ≡ Some y
    → slice_get (with_all xs place u).0 i ≡ Some y
kept [] place u i y h = h
kept (x ∷ xs) place u i y h = kept xs place (with_one x place u) i y (kept_by (is_among u.0 x) u x place i y h)

taken_or : (b : Bool) (x z : Name) (xs : List Name) (place : ℕ) (u : Found) → same_name z x ≡ b → (b || is_among xs z) ≡ true
    → (is_among xs z ≡ true → is_among (with_all xs place (with_one x place u)).0 z ≡ true)
    → is_among (with_all xs place (with_one x place u)).0 z ≡ true
taken_or true x z xs place u e h rest =
    grown xs place (with_one x place u) z
    (subst (λ n. is_among (with_one x place u).0 n ≡ true) (sym ((same_name-Decides z x).0 e)) (taken_by (is_among u.0 x) u x place refl))
taken_or false x z xs place u e h rest = rest h

taken : (xs : List Name) (place : ℕ) (u : Found) (z : Name) → is_among xs z ≡ true → is_among (with_all xs place u).0 z ≡ true
taken [] place u z h = absurd (true≢false (sym h))
taken (x ∷ xs) place u z h =
    taken_or (same_name z x) x z xs place u refl h (taken xs place (with_one x place u) z)

module _ (f : Name → List Name) where
  -- ---- the ways down

  step_still : (u : Found) (x : Name) (place i : ℕ) (z : Name) → IsStep f u i z
      → IsStep f (u.0 ++ x ∷ [], u.1 ++ place ∷ []) i z
  step_still u x place i z s = record {
    place = s.place;
    name = s.name;
    at = still_at u.1 place i s.place s.at;
    before = s.before;
    there = still_at u.0 x s.place s.name s.there;
    above = s.above;
  }

  step_of : (first : Name) (u : Found) (x : Name) (place : ℕ) (y : Name) → IsWay f first u → slice_get u.0 place ≡ Some y
      → is_among (f y) x ≡ true → (i : ℕ) (z : Name) → 0 < i → AtPushed u.0 x i z
      → IsStep f (u.0 ++ x ∷ [], u.1 ++ place ∷ []) i z
  step_of first u x place y w t a i z l (of_list h) = step_still u x place i z (w.step i z l h)
  step_of first u x place y w t a i z l (the_last e h) = record {
    place = place;
    name = y;
    at = at_last u.1 place i (e ∙ sym w.as_many);
    before = let k = slice_get_within u.0 place y t in omega (arith, k, e);
    there = still_at u.0 x place y t;
    above = subst (λ n. is_among (f y) n ≡ true) h a;
  }

  way_by : (b : Bool) (first : Name) (u : Found) (x : Name) (place : ℕ) (y : Name) → IsWay f first u → slice_get u.0 place ≡ Some y
      → is_among (f y) x ≡ true → IsWay f first (if b then u else (u.0 ++ x ∷ [], u.1 ++ place ∷ []))
  way_by true first u x place y w t a = w
  way_by false first u x place y w t a = record {
    begins = still_at u.0 x 0 first w.begins;
    as_many = grind (arith, length-append, w.as_many);
    step = λ i z l h. step_of first u x place y w t a i z l (at_pushed u.0 x i z h);
  }

  pub way_taken : (xs : List Name) (first : Name) (u : Found) (place : ℕ) (y : Name) → IsWay f first u → slice_get u.0 place ≡ Some y
      → ((x : Name) → is_among xs x ≡ true → is_among (f y) x ≡ true) → IsWay f first (with_all xs place u)
  way_taken [] first u place y w t a = w
  way_taken (x ∷ xs) first u place y w t a =
      way_taken xs first (with_one x place u) place y
      (way_by (is_among u.0 x) first u x place y w t (a x (or_first (same_name x x) (is_among xs x) (itself x))))
      (kept_by (is_among u.0 x) u x place place y t)
      (λ z h. a z (or_second (same_name z x) (is_among xs z) h))

  -- ---- the class at the next place

  way_by_place : (first : Name) (u : Found) (place : ℕ) (o : Option Name) → slice_get u.0 place ≡ o → IsWay f first u
      → IsWay f first (with_all (above_of f o) place u)
  way_by_place first u place None h w = w
  way_by_place first u place (Some y) h w = way_taken (f y) first u place y w h (λ x a. a)

  pub way_on : (first : Name) (u : Found) (place : ℕ) → IsWay f first u
      → IsWay f first (with_all (above_of f (slice_get u.0 place)) place u)
  way_on first u place w = way_by_place first u place (slice_get u.0 place) refl w

  there_before : (xs : List Name) (place : ℕ) (u : Found) (i : ℕ) (y : Name) → i < length u.0
      → slice_get (with_all xs place u).0 i ≡ Some y → slice_get u.0 i ≡ Some y
  there_before xs place u i y l h =
      let d : slice_get u.0 i ≡ Some (get_or u.0 i y) = slice_get-get_or u.0 i y l in
      d ∙ ap Some (one_item (get_or u.0 i y) y (sym (kept xs place u i (get_or u.0 i y) d) ∙ h))

  above_by : (u : Found) (place : ℕ) (o : Option Name) → slice_get u.0 place ≡ o → place < length u.0 → HasAbove f place u.0
      → HasAbove f (place + 1) (with_all (above_of f o) place u).0
  above_by u place None h l a = λ i y k t x q. absurd (not_past place h l) where
    no_name : Name
    no_name = record { text = []; keyword = false }

    not_past : (place : ℕ) → slice_get u.0 place ≡ None → place < length u.0 → ⊥
    not_past place e k = none-some (get_or u.0 place no_name) (sym e ∙ slice_get-get_or u.0 place no_name k)
  above_by u place (Some z) h l a = λ i y k t x q.
      let old = there_before (f z) place u i y (omega (arith, k, l)) t in
      or_before i y k old x q (nat_lt i place) refl where
        or_before : (i : ℕ) (y : Name) → i < place + 1 → slice_get u.0 i ≡ Some y → (x : Name) → is_among (f y) x ≡ true
            → (b : Bool) → nat_lt i place ≡ b → is_among (with_all (f z) place u).0 x ≡ true
        or_before i y k old x q true e = let l : i < place = grind (arith, e) in grown (f z) place u x (a i y l old x q)
        or_before i y k old x q false e =
            let same : i ≡ place = grind (arith, e, k) in
            let name : y ≡ z = one_item y z (sym old ∙ ap (slice_get u.0) same ∙ h) in
            taken (f z) place u x (subst (λ n. is_among (f n) x ≡ true) name q)

  pub above_on : (u : Found) (place : ℕ) → place < length u.0 → HasAbove f place u.0
      → HasAbove f (place + 1) (with_all (above_of f (slice_get u.0 place)) place u).0
  above_on u place l a = above_by u place (slice_get u.0 place) refl l a

  pub way_begins : (first : Name) → IsWay f first (first ∷ [], 0 ∷ [])
  way_begins first = record {
    begins = refl;
    as_many = refl;
    step = λ i x l h. absurd (none_after i x l h);
  } where
    none_after : (i : ℕ) (x : Name) → 0 < i → slice_get (first ∷ []) i ≡ Some x → ⊥
    none_after zero x l h = omega (arith, l)
    none_after (suc i) x l h = none-some x h

  pub none_above : (ns : List Name) → HasAbove f 0 ns
  none_above ns = λ i y k t x q. absurd (omega (arith, k))

  pub all_above : (ns : List Name) (place : ℕ) → (place < length ns → ⊥) → HasAbove f place ns → HasAbove f (length ns) ns
  all_above ns place l a = λ i y k t x q. a i y (omega (arith, k, l)) t x q

  -- ---- no class names the first one

  pub reached : (first : Name) (u : Found) → IsUpward f first u → (y : Name) (ys : List Name) → leads_down f (y ∷ ys) ≡ true
      → returns_to first (y ∷ ys) ≡ true → is_among u.0 y ≡ true
  reached first u w y [] h k =
      subst (λ n. is_among u.0 n ≡ true) (sym ((same_name-Decides y first).0 k)) (among_at u.0 0 first w.way.begins)
  reached first u w y (z ∷ zs) h k =
      let below = place_among u.0 z (reached first u w z zs (second_so (is_among (f z) y) (leads_down f (z ∷ zs)) h) k) in
      w.all below.index z (slice_get_within u.0 below.index z below.there) below.there y
      (first_so (is_among (f z) y) (leads_down f (z ∷ zs)) h)

  pub named_by_one : (p : Name → Bool) (ns : List Name) (i : ℕ) (z : Name) → slice_get ns i ≡ Some z → p z ≡ true → list_any p ns ≡ true
  named_by_one p [] i z h k = absurd (none-some z h)
  named_by_one p (n ∷ ns) zero z h k = or_first (p n) (list_any p ns) (ap p (one_item n z h) ∙ k)
  named_by_one p (n ∷ ns) (suc i) z h k = or_second (p n) (list_any p ns) (named_by_one p ns i z h k)

  circle_names_it : (first : Name) (u : Found) → IsUpward f first u → (names : List Name) → returns_to first names ≡ true
      → leads_down f (first ∷ names) ≡ true → list_any (λ y. is_among (f y) first) u.0 ≡ true
  circle_names_it first u w [] h k = absurd (true≢false (sym h))
  circle_names_it first u w (z ∷ zs) h k =
      let below = place_among u.0 z (reached first u w z zs (second_so (is_among (f z) first) (leads_down f (z ∷ zs)) k) h) in
      named_by_one (λ y. is_among (f y) first) u.0 below.index z below.there (first_so (is_among (f z) first) (leads_down f (z ∷ zs)) k)

  pub no_circle : (first : Name) (u : Found) → IsUpward f first u → list_any (λ y. is_among (f y) first) u.0 ≡ false
      → (names : List Name) → is_circle f (first ∷ names) ≡ false
  no_circle first u w none names = by (is_circle f (first ∷ names)) refl where
    by : (b : Bool) → is_circle f (first ∷ names) ≡ b → b ≡ false
    by false e = refl
    by true e =
        absurd (true≢false (sym (circle_names_it first u w names
        (first_so (returns_to first names) (leads_down f (first ∷ names)) e)
        (second_so (returns_to first names) (leads_down f (first ∷ names)) e)) ∙ none))

  -- ---- the way down from one that does

  leads_push : (xs : List Name) (y z : Name) → leads_down f (xs ++ y ∷ []) ≡ true → is_among (f z) y ≡ true
      → leads_down f ((xs ++ y ∷ []) ++ z ∷ []) ≡ true
  leads_push [] y z h k = both_so (is_among (f z) y) true k refl
  leads_push (x ∷ []) y z h k =
      both_so (is_among (f y) x) (is_among (f z) y && true) (first_so (is_among (f y) x) true h) (both_so (is_among (f z) y) true k refl)
  leads_push (x ∷ w ∷ ws) y z h k =
      both_so (is_among (f w) x) (leads_down f (w ∷ ((ws ++ y ∷ []) ++ z ∷ [])))
      (first_so (is_among (f w) x) (leads_down f (w ∷ (ws ++ y ∷ []))) h)
      (leads_push (w ∷ ws) y z (second_so (is_among (f w) x) (leads_down f (w ∷ (ws ++ y ∷ []))) h) k)

  pub way_goes_on : (first : Name) (u : Found) → IsWay f first u → (xs : List Name) (place next : ℕ) (y : Name) → 0 < place
      → slice_get u.0 place ≡ Some y → slice_get u.1 place ≡ Some next → leads_down f (xs ++ y ∷ []) ≡ true
      → (z : Name) → slice_get u.0 next ≡ Some z → leads_down f ((xs ++ y ∷ []) ++ z ∷ []) ≡ true
  way_goes_on first u w xs place next y l t e h z q =
      let s = w.step place y l t in
      let same : s.place ≡ next = one_item s.place next (sym s.at ∙ e) in
      let name : s.name ≡ z = one_item s.name z (sym s.there ∙ ap (slice_get u.0) same ∙ q) in
      leads_push xs y z h (subst (λ n. is_among (f n) y ≡ true) name s.above)

  pub next_within : (first : Name) (u : Found) → IsWay f first u → (place next : ℕ) (y : Name) → 0 < place
      → slice_get u.0 place ≡ Some y → slice_get u.1 place ≡ Some next → (next < place) × (next < length u.0)
  next_within first u w place next y l t e =
      let s = w.step place y l t in
      let same : s.place ≡ next = one_item s.place next (sym s.at ∙ e) in (
        subst (λ n. n < place) same s.before,
        subst (λ n. n < length u.0) same (slice_get_within u.0 s.place s.name s.there),
      )

returns_at_end : (first : Name) (xs : List Name) → returns_to first (xs ++ first ∷ []) ≡ true
returns_at_end first [] = itself first
returns_at_end first (x ∷ []) = itself first
returns_at_end first (x ∷ y ∷ ys) = returns_at_end first (y ∷ ys)

pub closed_circle : (f : Name → List Name) (first : Name) (xs tail : List Name) → xs ≡ first ∷ tail
    → leads_down f (xs ++ first ∷ []) ≡ true → is_circle f (xs ++ first ∷ []) ≡ true
closed_circle f first xs tail e h =
    subst (λ l. is_circle f (l ++ first ∷ []) ≡ true) (sym e)
    (both_so (returns_to first (tail ++ first ∷ [])) (leads_down f (first ∷ (tail ++ first ∷ []))) (returns_at_end first tail)
    (subst (λ l. leads_down f (l ++ first ∷ []) ≡ true) e h))

-- ---- found by a test

not_there_by : (p : Name → Bool) (x : Name) (xs : List Name) (b : Bool) → p x ≡ b
    → nat_lt (position_or_len p (x ∷ xs)) (length (x ∷ xs)) ≡ false
    → (nat_lt (position_or_len p xs) (length xs) ≡ false → list_any p xs ≡ false) → (b || list_any p xs) ≡ false
not_there_by p x xs true e h rest = let i : position_or_len p (x ∷ xs) ≡ 0 = cc in absurd (past i h) where
  past : position_or_len p (x ∷ xs) ≡ 0 → nat_lt (position_or_len p (x ∷ xs)) (length (x ∷ xs)) ≡ false → ⊥
  past i h = grind (arith, i, h)
not_there_by p x xs false e h rest =
    let i : position_or_len p (x ∷ xs) ≡ 1 + position_or_len p xs = cc in rest (grind (arith, i, h))

not_there : (p : Name → Bool) (xs : List Name) → nat_lt (position_or_len p xs) (length xs) ≡ false → list_any p xs ≡ false
not_there p [] h = refl
not_there p (x ∷ xs) h = not_there_by p x xs (p x) refl h (not_there p xs)

pub none_passes : (p : Name → Bool) (xs : List Name) → position p xs ≡ None → list_any p xs ≡ false
none_passes p xs h = not_there p xs (by (nat_lt (position_or_len p xs) (length xs)) h) where
  by : (b : Bool) → (if b then Some (position_or_len p xs) else None) ≡ None → b ≡ false
  by true e = absurd (none-some (position_or_len p xs) (sym e))
  by false e = refl

pub one_passes : (p : Name → Bool) (xs : List Name) (k : ℕ) → position p xs ≡ Some k
    → (k < length xs) × ((y : Name) → slice_get xs k ≡ Some y → p y ≡ true)
one_passes p xs k h = by (nat_lt (position_or_len p xs) (length xs)) refl h where
  by : (b : Bool) → nat_lt (position_or_len p xs) (length xs) ≡ b → (if b then Some (position_or_len p xs) else None) ≡ Some k
      → (k < length xs) × ((y : Name) → slice_get xs k ≡ Some y → p y ≡ true)
  by false t e = absurd (none-some k e)
  by true t e =
      let same = one_item (position_or_len p xs) k e in
      let within : position_or_len p xs < length xs = grind (arith, t) in (
        subst (λ n. n < length xs) same within,
        λ y q. ap p (sym (get_or_from_slice_get xs (position_or_len p xs) y y (ap (slice_get xs) same ∙ q)))
            ∙ passes_at_first p xs y within,
      )

pub empty : {X : Type 0} (xs : List X) → length xs < 1 → xs ≡ []
empty [] h = refl
empty (x ∷ xs) h = absurd (omega (arith, h))
