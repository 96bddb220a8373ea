-- The classes that are noted directly below names.
use Rattle.std.proofs.Common.{◌≡◌, ◌⊎◌, inl, inr, ℕ, suc, ◌+◌, ◌<◌, ◌++◌, Bool, true, false, true≢false, List, [], ◌∷◌, Option, Some, None, length, arith, refl, ap, sym, subst, ◌∙◌}
use Rattle.std.specs.Prelude.{◌||◌, nat_lt, option_to_list, position, slice_get, if◌then◌else◌}
use Rattle.std.specs.List.{list_any, position_or_len}
use Rattle.std.proofs.lemmas.Bool.{lt-ltb}
use Rattle.indexmap.specs.IndexSet.{insert_key}
use Rattle.lisp_data.specs.Name.{Name, same_name}
use Rattle.lisp_data.specs.KeyLaws.{same_name-Decides}
use Rattle.clos_precedence.specs.Precedence.{has}
use Rattle.clos_precedence.proofs.Truth.{either, nothing, or_left, or_right}
use Rattle.clos_precedence.proofs.Members.{in_either}
use Rattle.clos_hierarchy.specs.Classes.{Classes, defined, named, names_above, superclasses}
use Rattle.clos_hierarchy.specs.inner.Below.{Grows, below_at}
use Rattle.clos_hierarchy.specs.inner.Direct.{Index, Spreads, below_if, directly_below, row_if}
use Rattle.clos_hierarchy.specs.inner.Woken.{below_class}
use Rattle.clos_hierarchy.proofs.Defining.{absent_place, found_at, found_by}
use Rattle.clos_hierarchy.proofs.Ways.{one_of}

-- ---- the place of a name

there_by : (p : Name → Bool) (x : Name) (xs : List Name) (b : Bool) → p x ≡ b → (p x || list_any p xs) ≡ true → (list_any p xs ≡ true → position_or_len p xs < length xs) → position_or_len p (x ∷ xs) < length (x ∷ xs)
there_by p x xs true e h r = let i : position_or_len p (x ∷ xs) ≡ 0 = cc in omega (arith, i)
there_by p x xs false e h r =
    let i : position_or_len p (x ∷ xs) ≡ 1 + position_or_len p xs = cc in
    let k : list_any p xs ≡ true = cc in
    let q : position_or_len p xs < length xs = r k in omega (arith, i, q)

is_there : (p : Name → Bool) (xs : List Name) → list_any p xs ≡ true → position_or_len p xs < length xs
is_there p [] h = absurd (true≢false (sym h))
is_there p (x ∷ xs) h = there_by p x xs (p x) refl h (λ k. is_there p xs k)

last_by : (p : Name → Bool) (x : Name) (xs : List Name) (y : Name) (b : Bool) → p x ≡ b → (p x || list_any p xs) ≡ false → (list_any p xs ≡ false → position_or_len p (xs ++ y ∷ []) ≡ length xs)
    → position_or_len p (x ∷ (xs ++ y ∷ [])) ≡ length (x ∷ xs)
last_by p x xs y true e h r = cc
last_by p x xs y false e h r =
    let i : position_or_len p (x ∷ (xs ++ y ∷ [])) ≡ 1 + position_or_len p (xs ++ y ∷ []) = cc in
    let k : list_any p xs ≡ false = cc in
    let q : position_or_len p (xs ++ y ∷ []) ≡ length xs = r k in omega (arith, i, q)

is_last : (p : Name → Bool) (xs : List Name) (y : Name) → list_any p xs ≡ false → p y ≡ true → position_or_len p (xs ++ y ∷ []) ≡ length xs
is_last p [] y h e = cc
is_last p (x ∷ xs) y h e = last_by p x xs y (p x) refl h (λ k. is_last p xs y k e)

at_place : (p : Name → Bool) (xs : List Name) → position_or_len p xs < length xs → position p xs ≡ Some (position_or_len p xs)
at_place p xs l = let s : nat_lt (position_or_len p xs) (length xs) ≡ true = lt-ltb (position_or_len p xs) (length xs) l in cc

longer : (xs : List Name) (y : Name) → length xs < length (xs ++ y ∷ [])
longer [] y = omega (arith)
longer (x ∷ xs) y = let l : length xs < length (xs ++ y ∷ []) = longer xs y in omega (arith, l)

-- a name that is put among others stands where it stood, or last
put_place : (xs : List Name) (x : Name) → position (same_name x) (insert_key same_name xs x) ≡ Some (position_or_len (same_name x) xs)
put_place xs x = by (list_any (same_name x) xs) refl
  where
    by : (b : Bool) → list_any (same_name x) xs ≡ b → position (same_name x) (if b then xs else xs ++ x ∷ []) ≡ Some (position_or_len (same_name x) xs)
    by true e = at_place (same_name x) xs (is_there (same_name x) xs e)
    by false e =
        let l : position_or_len (same_name x) (xs ++ x ∷ []) ≡ length xs = is_last (same_name x) xs x e ((same_name-Decides x x).1 refl) in
        let q : position_or_len (same_name x) xs ≡ length xs = absent_place (same_name x) xs e in
        let m : length xs < length (xs ++ x ∷ []) = longer xs x in
        at_place (same_name x) (xs ++ x ∷ []) (omega (arith, l, m)) ∙ ap Some (l ∙ sym q)

-- and the others stay where they were
place_stays : (xs : List Name) (x : Name) (p : Name → Bool) (i : ℕ) → position p xs ≡ Some i → position p (insert_key same_name xs x) ≡ Some i
place_stays xs x p i h = by (list_any (same_name x) xs)
  where
    by : (b : Bool) → position p (if b then xs else xs ++ x ∷ []) ≡ Some i
    by true = h
    by false = found_by p xs x i (nat_lt (position_or_len p xs) (length xs)) refl h

-- ---- a class is noted below a name

pub spreads : (old new : Index) (x : Name) → new.names ≡ insert_key same_name old.names x → Grows old.rows new.rows → Spreads old new
spreads old new x e g y n h = by (position (same_name y) old.names) refl
  where
    by : (o : Option ℕ) → position (same_name y) old.names ≡ o → has (directly_below new y) n ≡ true
    by None f = nothing (ap (λ o. has (row_if o old.rows) n) (sym f) ∙ h)
    by (Some i) f =
        let p : position (same_name y) new.names ≡ Some i = ap (λ v. position (same_name y) v) e ∙ place_stays old.names x (same_name y) i f in
        ap (λ o. has (row_if o new.rows) n) p ∙ g i n (ap (λ o. has (row_if o old.rows) n) (sym f) ∙ h)

pub spreads_not : (d : Index) → Spreads d d
spreads_not d x n h = h

pub spreads_through : (a b c : Index) → Spreads a b → Spreads b c → Spreads a c
spreads_through a b c f g x n h = g x n (f x n h)

pub noted : (names : List Name) (new : Index) (x : Name) (place n : ℕ) → new.names ≡ insert_key same_name names x → place ≡ position_or_len (same_name x) names → has (below_at new.rows place) n ≡ true
    → has (directly_below new x) n ≡ true
noted names new x place n e f h = ap (λ o. has (row_if o new.rows) n) (ap (λ v. position (same_name x) v) e ∙ put_place names x ∙ ap Some (sym f)) ∙ h

-- while a class is noted below these names, of which so many are left
pub record IsNaming (old now : Index) (n : ℕ) (all left : List Name) : Type 0 where
  pub spreads : Spreads old now
  pub noted : (x : Name) → list_any (same_name x) all ≡ true → (list_any (same_name x) left ≡ true) ⊎ (has (directly_below now x) n ≡ true)

pub naming_first : (d : Index) (n : ℕ) (all : List Name) → IsNaming d d n all all
naming_first d n all = record { spreads = spreads_not d; noted = λ x h. inl h }

pub naming_next : (old now new : Index) (n : ℕ) (y : Name) (all left : List Name) → IsNaming old now n all (y ∷ left) → Spreads now new → has (directly_below new y) n ≡ true → IsNaming old new n all left
naming_next old now new n y all left a g h = record { spreads = spreads_through old now new a.spreads g; noted = λ x k. by x (a.noted x k) }
  where
    at : (x : Name) → (same_name x y ≡ true) ⊎ (list_any (same_name x) left ≡ true) → (list_any (same_name x) left ≡ true) ⊎ (has (directly_below new x) n ≡ true)
    at x (inl e) = inr (subst (λ v. has (directly_below new v) n ≡ true) (sym ((same_name-Decides x y).0 e)) h)
    at x (inr k) = inl k

    by : (x : Name) → (list_any (same_name x) (y ∷ left) ≡ true) ⊎ (has (directly_below now x) n ≡ true) → (list_any (same_name x) left ≡ true) ⊎ (has (directly_below new x) n ≡ true)
    by x (inl k) = at x (either (same_name x y) (list_any (same_name x) left) k)
    by x (inr k) = inr (g x n k)

pub naming_done : (old now : Index) (n : ℕ) (all left : List Name) → IsNaming old now n all left → length left ≡ 0 → (x : Name) → list_any (same_name x) all ≡ true → has (directly_below now x) n ≡ true
naming_done old now n all [] a l x h = by (a.noted x h)
  where
    by : (list_any (same_name x) [] ≡ true) ⊎ (has (directly_below now x) n ≡ true) → has (directly_below now x) n ≡ true
    by (inl k) = absurd (true≢false (sym k))
    by (inr k) = k
naming_done old now n all (y ∷ ys) a l x h = absurd (omega (arith, l))

-- ---- a class is noted below each of its direct superclasses

got_by : (p : Name → Bool) (x : Name) (xs : List Name) (b : Bool) → p x ≡ b → position_or_len p (x ∷ xs) < length (x ∷ xs)
    → (position_or_len p xs < length xs → (y : Name) × (slice_get xs (position_or_len p xs) ≡ Some y) × (p y ≡ true))
    → (y : Name) × (slice_get (x ∷ xs) (position_or_len p (x ∷ xs)) ≡ Some y) × (p y ≡ true)
got_by p x xs true e l r = let i : position_or_len p (x ∷ xs) ≡ 0 = cc in (x, ap (slice_get (x ∷ xs)) i, e)
got_by p x xs false e l r =
    let i : position_or_len p (x ∷ xs) ≡ 1 + position_or_len p xs = cc in
    let j : position_or_len p (x ∷ xs) ≡ suc (position_or_len p xs) = omega (arith, i) in
    let q : (y : Name) × (slice_get xs (position_or_len p xs) ≡ Some y) × (p y ≡ true) = r (omega (arith, l, i)) in (q.0, ap (slice_get (x ∷ xs)) j ∙ q.1, q.2)

got : (p : Name → Bool) (xs : List Name) → position_or_len p xs < length xs → (y : Name) × (slice_get xs (position_or_len p xs) ≡ Some y) × (p y ≡ true)
got p [] l = absurd (omega (arith, l))
got p (x ∷ xs) l = got_by p x xs (p x) refl l (λ k. got p xs k)

-- the class of a name has it
has_name : (cs : Classes) (x : Name) (s : ℕ) → named cs x ≡ Some s → slice_get cs.names s ≡ Some x
has_name cs x s h =
    let p : (position_or_len (same_name x) cs.names ≡ s) × (s < length cs.names) = found_at (same_name x) cs.names s h in
    let i : position_or_len (same_name x) cs.names ≡ s = p.0 in
    let l : s < length cs.names = p.1 in
    let q : (y : Name) × (slice_get cs.names (position_or_len (same_name x) cs.names) ≡ Some y) × (same_name x y ≡ true) = got (same_name x) cs.names (omega (arith, i, l)) in
    sym (ap (slice_get cs.names) i) ∙ q.1 ∙ ap Some (sym ((same_name-Decides x q.0).0 q.2))

-- the name by which a class is a direct superclass
abbrev IsNamed : Classes → List Name → ℕ → Type 0
IsNamed cs xs s = (x : Name) × (list_any (same_name x) xs ≡ true) × (named cs x ≡ Some s)

named_by : (cs : Classes) (y : Name) (ys : List Name) (s : ℕ) → (has (option_to_list (named cs y)) s ≡ true) ⊎ (has (defined cs ys) s ≡ true) → (has (defined cs ys) s ≡ true → IsNamed cs ys s) → IsNamed cs (y ∷ ys) s
named_by cs y ys s (inl e) r = (y, or_left (same_name y y) (list_any (same_name y) ys) ((same_name-Decides y y).1 refl), one_of (named cs y) s e)
named_by cs y ys s (inr k) r = let p : IsNamed cs ys s = r k in (p.0, or_right (same_name p.0 y) (list_any (same_name p.0) ys) p.1, p.2)

named_among : (cs : Classes) (xs : List Name) (s : ℕ) → has (defined cs xs) s ≡ true → IsNamed cs xs s
named_among cs [] s h = nothing h
named_among cs (y ∷ ys) s h = named_by cs y ys s (in_either (option_to_list (named cs y)) (defined cs ys) s h) (λ k. named_among cs ys s k)

pub below_it : (cs : Classes) (d : Index) (n s : ℕ) → ((x : Name) → list_any (same_name x) (names_above cs n) ≡ true → has (directly_below d x) n ≡ true) → has (superclasses cs n) s ≡ true
    → has (below_class cs d s) n ≡ true
below_it cs d n s f h =
    let p : (x : Name) × (list_any (same_name x) (names_above cs n) ≡ true) × (named cs x ≡ Some s) = named_among cs (names_above cs n) s h in
    ap (λ o. has (below_if d o) n) (has_name cs p.0 s p.2) ∙ f p.0 p.1
