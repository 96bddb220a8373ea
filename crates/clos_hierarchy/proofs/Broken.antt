-- Classes that have no list, one after another.
use Rattle.std.proofs.Common.{◌≡◌, ◌⊎◌, inl, inr, ℕ, zero, suc, ◌==◌, ◌+◌, Bool, true, false, true≢false, List, [], ◌∷◌, Option, Some, None, length, drop, ◌<◌, ◌≤◌, arith, refl, sym, subst, ap, ◌∙◌}
use Rattle.std.specs.Prelude.{◌||◌, slice_get, if◌then◌else◌}
use Rattle.std.proofs.lemmas.Bool.{eqb-true}
use Rattle.clos_precedence.specs.Precedence.{has}
use Rattle.clos_precedence.proofs.Members.{first_or_later, has_later}
use Rattle.clos_hierarchy.specs.inner.Touched.{Ascends, NoneElse}
use Rattle.lisp_data.specs.Name.{Name}
use Rattle.lisp_data.specs.declared.ids.ClassId.{ClassId}
use Rattle.clos_precedence.specs.PrecedenceView.{numbers}
use Rattle.clos_hierarchy.specs.Classes.{Classes, is_broken, listing}
use Rattle.clos_hierarchy.specs.declared.kept.Kept.{Kept}
use Rattle.clos_hierarchy.specs.inner.KeptView.{listing_at}
use Rattle.clos_hierarchy.specs.inner.Kept.{Knows}
use Rattle.clos_hierarchy.specs.Table.{inconsistent_precedence, broken_from}

some_is : (y x : Name) → Some y ≡ Some x → y ≡ x
some_is y x h = cc

drop_next : (xs : List Name) (n : ℕ) (x : Name) → slice_get xs n ≡ Some x → drop n xs ≡ x ∷ drop (suc n) xs
drop_next [] n x h = cc
drop_next (y ∷ ys) zero x h = ap (λ v. v ∷ ys) (some_is y x h)
drop_next (y ∷ ys) (suc n) x h = drop_next ys n x h

is_plus : (n : ℕ) → n + 1 ≡ suc n
is_plus n = omega (arith)

step : (cs : Classes) (n : ℕ) (x : Name) → slice_get cs.names n ≡ Some x
    → broken_from n (drop n cs.names) cs ≡ (if is_broken (listing cs n) then Some (inconsistent_precedence x) else broken_from (suc n) (drop (suc n) cs.names) cs)
step cs n x h = ap (λ v. broken_from n v cs) (drop_next cs.names n x h)

abbrev pub BrokenAt : Classes → List Kept → ℕ → Option Name
BrokenAt cs ks n = if is_broken (listing_at ks n) then slice_get cs.names n else None

here_by : (cs : Classes) (ks : List Kept) (n : ℕ) (x : Name) (b : Bool) → is_broken (listing_at ks n) ≡ b → BrokenAt cs ks n ≡ Some x → Knows cs ks → broken_from n (drop n cs.names) cs ≡ Some (inconsistent_precedence x)
here_by cs ks n x true b h k =
    let e : listing_at ks n ≡ listing cs n = k.same n in
    let p : is_broken (listing cs n) ≡ true = subst (λ v. is_broken v ≡ true) e b in
    let g : slice_get cs.names n ≡ Some x = cc in
    let q : broken_from n (drop n cs.names) cs ≡ (if is_broken (listing cs n) then Some (inconsistent_precedence x) else broken_from (suc n) (drop (suc n) cs.names) cs) = step cs n x g in cc
here_by cs ks n x false b h k = cc

pub broken_here : (cs : Classes) (ks : List Kept) (n : ℕ) (x : Name) → BrokenAt cs ks n ≡ Some x → Knows cs ks → broken_from n (drop n cs.names) cs ≡ Some (inconsistent_precedence x)
broken_here cs ks n x h k = here_by cs ks n x (is_broken (listing_at ks n)) refl h k

none_past : (xs : List Name) (n : ℕ) → n < length xs → slice_get xs n ≡ None → ⊥
none_past [] n h e = omega (arith, h)
none_past (x ∷ xs) zero h e = cc
none_past (x ∷ xs) (suc n) h e = none_past xs n (omega (arith, h)) e

on_by : (cs : Classes) (ks : List Kept) (n : ℕ) (o : Option Name) (b : Bool) → n < length cs.names → slice_get cs.names n ≡ o → is_broken (listing_at ks n) ≡ b → BrokenAt cs ks n ≡ None → Knows cs ks
    → broken_from (suc n) (drop (suc n) cs.names) cs ≡ broken_from n (drop n cs.names) cs
on_by cs ks n None b l g e h k = absurd (none_past cs.names n l g)
on_by cs ks n (Some x) true l g e h k = cc
on_by cs ks n (Some x) false l g e h k =
    let d : listing_at ks n ≡ listing cs n = k.same n in
    let p : is_broken (listing cs n) ≡ false = subst (λ v. is_broken v ≡ false) d e in
    let q : broken_from n (drop n cs.names) cs ≡ (if is_broken (listing cs n) then Some (inconsistent_precedence x) else broken_from (suc n) (drop (suc n) cs.names) cs) = step cs n x g in cc

pub broken_on : (cs : Classes) (ks : List Kept) (n : ℕ) → n < length cs.names → BrokenAt cs ks n ≡ None → Knows cs ks → broken_from (n + 1) (drop (n + 1) cs.names) cs ≡ broken_from n (drop n cs.names) cs
broken_on cs ks n l h k =
    subst (λ v. broken_from v (drop v cs.names) cs ≡ broken_from n (drop n cs.names) cs) (sym (is_plus n)) (on_by cs ks n (slice_get cs.names n) (is_broken (listing_at ks n)) l refl refl h k)

drop_none : (xs : List Name) (n : ℕ) → length xs ≤ n → drop n xs ≡ []
drop_none [] zero h = refl
drop_none [] (suc n) h = refl
drop_none (x ∷ xs) zero h = absurd (omega (arith, h))
drop_none (x ∷ xs) (suc n) h = drop_none xs n (omega (arith, h))

pub broken_end : (cs : Classes) (n : ℕ) → length cs.names ≤ n → broken_from n (drop n cs.names) cs ≡ None
broken_end cs n h = ap (λ v. broken_from n v cs) (drop_none cs.names n h)

-- ---- the first one, where those before it are known not to be

pub not_at : (cs : Classes) (ks : List Kept) (n : ℕ) → is_broken (listing_at ks n) ≡ false → BrokenAt cs ks n ≡ None
not_at cs ks n h = ap (λ b. if b then slice_get cs.names n else None) h

jump : (cs : Classes) (ks : List Kept) (d : ℕ) → Knows cs ks → ((n : ℕ) → n < d → BrokenAt cs ks n ≡ None) → d ≤ length cs.names → broken_from d (drop d cs.names) cs ≡ broken_from 0 cs.names cs
jump cs ks zero k f h = refl
jump cs ks (suc d) k f h =
    let e : d + 1 ≡ suc d = omega arith in
    subst (λ i. broken_from i (drop i cs.names) cs ≡ broken_from d (drop d cs.names) cs) e (broken_on cs ks d (omega (arith, h)) (f d (omega arith)) k)
    ∙ jump cs ks d k (λ n l. f n (omega (arith, l))) (omega (arith, h))

within_by : (cs : Classes) (ks : List Kept) (n : ℕ) (x : Name) (b : Bool) → is_broken (listing_at ks n) ≡ b → BrokenAt cs ks n ≡ Some x → slice_get cs.names n ≡ Some x
within_by cs ks n x true e h = cc
within_by cs ks n x false e h = cc

some_within : (xs : List Name) (n : ℕ) (x : Name) → slice_get xs n ≡ Some x → n ≤ length xs
some_within [] n x h = cc
some_within (y ∷ ys) zero x h = omega arith
some_within (y ∷ ys) (suc n) x h = let l : n ≤ length ys = some_within ys n x h in omega (arith, l)

pub first_broken : (cs : Classes) (ks : List Kept) (n : ℕ) (x : Name) → Knows cs ks → ((m : ℕ) → m < n → BrokenAt cs ks m ≡ None) → BrokenAt cs ks n ≡ Some x
    → broken_from 0 cs.names cs ≡ Some (inconsistent_precedence x)
first_broken cs ks n x k f h = sym (jump cs ks n k f (some_within cs.names n x (within_by cs ks n x (is_broken (listing_at ks n)) refl h))) ∙ broken_here cs ks n x h k

pub none_broken : (cs : Classes) (ks : List Kept) → Knows cs ks → ((n : ℕ) → BrokenAt cs ks n ≡ None) → broken_from 0 cs.names cs ≡ None
none_broken cs ks k f = sym (jump cs ks (length cs.names) k (λ n l. f n) (omega arith)) ∙ broken_end cs (length cs.names) (omega arith)

-- of those that are touched, these are left
pub record NoneBut (cs : Classes) (ks : List Kept) (ps left : List ℕ) : Type 0 where
  pub ordered : Ascends left
  pub within : (n : ℕ) → has left n ≡ true → has ps n ≡ true
  pub not_yet : (n : ℕ) → has ps n ≡ true → has left n ≡ false → BrokenAt cs ks n ≡ None

pub none_but_first : (cs : Classes) (ks : List Kept) (ps : List ℕ) → Ascends ps → NoneBut cs ks ps ps
none_but_first cs ks ps a = record { ordered = a; within = λ n h. h; not_yet = λ n h i. absurd (true≢false (sym h ∙ i)) }

now_by : (cs : Classes) (ks : List Kept) (p : ℕ) (ps left : List ℕ) (n : ℕ) (b : Bool) → (p == n) ≡ b → NoneBut cs ks ps (p ∷ left) → BrokenAt cs ks p ≡ None → has ps n ≡ true → has left n ≡ false
    → BrokenAt cs ks n ≡ None
now_by cs ks p ps left n true e g h i j = subst (λ m. BrokenAt cs ks m ≡ None) (eqb-true p n e) h
now_by cs ks p ps left n false e g h i j = g.not_yet n i (ap (λ b. b || has left n) e ∙ j)

pub none_but_next : (cs : Classes) (ks : List Kept) (p : ℕ) (ps left : List ℕ) → NoneBut cs ks ps (p ∷ left) → BrokenAt cs ks p ≡ None → NoneBut cs ks ps left
none_but_next cs ks p ps left g h = record {
  ordered = g.ordered.1;
  within = λ n i. g.within n (has_later p n left i);
  not_yet = λ n i j. now_by cs ks p ps left n (p == n) refl g h i j;
}

before_by : (cs : Classes) (ks : List Kept) (p : ℕ) (ps left : List ℕ) (n : ℕ) (a b : Bool) → has ps n ≡ a → has (p ∷ left) n ≡ b → NoneBut cs ks ps (p ∷ left) → NoneElse ps ks → n < p
    → BrokenAt cs ks n ≡ None
before_by cs ks p ps left n false b e f g o l = not_at cs ks n (o n e)
before_by cs ks p ps left n true false e f g o l = g.not_yet n e f
before_by cs ks p ps left n true true e f g o l = by (first_or_later p n left f)
  where
    by : (p ≡ n) ⊎ (has left n ≡ true) → BrokenAt cs ks n ≡ None
    by (inl q) = absurd (omega (arith, l, q))
    by (inr q) = let m : p < n = g.ordered.0 n q in absurd (omega (arith, l, m))

none_before : (cs : Classes) (ks : List Kept) (p : ℕ) (ps left : List ℕ) → NoneBut cs ks ps (p ∷ left) → NoneElse ps ks → (n : ℕ) → n < p → BrokenAt cs ks n ≡ None
none_before cs ks p ps left g o n l = before_by cs ks p ps left n (has ps n) (has (p ∷ left) n) refl refl g o l

-- the first one that is left is the first of all
pub first_left : (cs : Classes) (ks : List Kept) (p : ℕ) (ps left : List ℕ) (x : Name) → NoneBut cs ks ps (p ∷ left) → BrokenAt cs ks p ≡ Some x → Knows cs ks → NoneElse ps ks
    → broken_from 0 cs.names cs ≡ Some (inconsistent_precedence x)
first_left cs ks p ps left x g h k o = first_broken cs ks p x k (none_before cs ks p ps left g o) h

none_at_end : (cs : Classes) (ks : List Kept) (ps : List ℕ) → NoneBut cs ks ps [] → NoneElse ps ks → (n : ℕ) → BrokenAt cs ks n ≡ None
none_at_end cs ks ps g o n = by (has ps n) refl
  where
    by : (b : Bool) → has ps n ≡ b → BrokenAt cs ks n ≡ None
    by false h = not_at cs ks n (o n h)
    by true h = g.not_yet n h refl

no_numbers : (cs : List ClassId) → length cs ≡ 0 → numbers cs ≡ []
no_numbers [] e = refl
no_numbers (c ∷ cs) e = cc

pub none_left : (cs : Classes) (ks : List Kept) (ps : List ℕ) (left : List ClassId) → NoneBut cs ks ps (numbers left) → length left ≡ 0 → Knows cs ks → NoneElse ps ks → broken_from 0 cs.names cs ≡ None
none_left cs ks ps left g e k o = none_broken cs ks k (none_at_end cs ks ps (subst (λ l. NoneBut cs ks ps l) (no_numbers left e) g) o)
