-- Numbers in their order, each once.
use Rattle.std.proofs.Common.{◌≡◌, ◌⊎◌, inl, inr, ℕ, suc, ◌==◌, ◌+◌, ◌<◌, ◌≤◌, ◌++◌, ◌||◌, ◌&&◌, Bool, true, false, true≢false, List, [], ◌∷◌, arith, refl, ap, sym, subst, ◌∙◌}
use Rattle.std.specs.Prelude.{cond, nat_lt, slice_index_or}
use Rattle.std.specs.Prelude.{IsPermutation, IsSorted}
use Rattle.std.specs.Ordering.{is_lt, nat_cmp}
use Rattle.std.specs.declared.cmp.Ordering.TheVariants.{Less, Equal, Greater}
use Rattle.std.proofs.lemmas.Bool.{eqb-true, eqb-false, ltb-false}
use Rattle.std.proofs.lemmas.List.Sorted.{list_any-IsPermutation}
use Rattle.clos_precedence.specs.Precedence.{has}
use Rattle.clos_precedence.proofs.Members.{first_or_later, has_first, has_later, in_either}
use Rattle.clos_hierarchy.specs.Classes.{list_in}
use Rattle.clos_hierarchy.specs.declared.kept.Kept.{Kept}
use Rattle.clos_hierarchy.specs.inner.KeptView.{listing_at}
use Rattle.clos_hierarchy.specs.inner.Touched.{Ascends, begins_with, have_it}
use Rattle.clos_hierarchy.proofs.Filled.{has_last}
use Rattle.clos_hierarchy.proofs.Others.{ascends_end}

-- ---- numbers that do not fall

abbrev pub Rises : List ℕ → Type 0
Rises [] = Unit {0}
Rises (x ∷ xs) = ((y : ℕ) → has xs y ≡ true → x ≤ y) × Rises xs

not_less : (a b : ℕ) → is_lt (nat_cmp a b) ≡ false → b ≤ a
not_less a b h = by (nat_lt a b) refl h
  where
    by : (c : Bool) → nat_lt a b ≡ c → is_lt (cond c Less (cond (a == b) Equal Greater)) ≡ false → b ≤ a
    by true e h = absurd (true≢false h)
    by false e h = ltb-false a b e

sorted_later : (x : ℕ) (xs : List ℕ) → IsSorted nat_cmp (x ∷ xs) → IsSorted nat_cmp xs
sorted_later x xs s k d l h =
    let e : suc k + 1 ≡ suc (k + 1) = omega arith in
    subst (λ i. is_lt (nat_cmp (slice_index_or (x ∷ xs) i d) (slice_index_or xs k d)) ≡ false) e (s (suc k) d (omega arith) (omega (arith, h)))

pub rises : (xs : List ℕ) → IsSorted nat_cmp xs → Rises xs
rises [] s = tt
rises (x ∷ []) s = (λ y h. absurd (true≢false (sym h)), tt)
rises (x ∷ y ∷ ys) s = with_first (rises (y ∷ ys) (sorted_later x (y ∷ ys) s)) (not_less y x (s 0 x (omega arith) (omega arith)))
  where
    with_first : Rises (y ∷ ys) → x ≤ y → Rises (x ∷ y ∷ ys)
    with_first r l = (λ z h. by z (first_or_later y z ys h), r)
      where
        by : (z : ℕ) → (y ≡ z) ⊎ (has ys z ≡ true) → x ≤ z
        by z (inl e) = omega (arith, l, e)
        by z (inr h) = let m : y ≤ z = r.0 z h in omega (arith, l, m)

-- ---- each once

twice : (a b : Bool) → (a || (a || b)) ≡ (a || b)
twice true b = refl
twice false b = refl

out : (a b c : Bool) → ((a || b) || c) ≡ (b || (a || c))
out true true c = refl
out true false c = refl
out false b c = refl

no_more : (a : Bool) → (a || false) ≡ a
no_more true = refl
no_more false = refl

-- those that were taken, each once and in order, and those that are left of all
pub record Orders (all taken left : List ℕ) : Type 0 where
  pub members : (n : ℕ) → (has taken n || has left n) ≡ has all n
  pub ordered : Ascends taken
  pub before : (y z : ℕ) → has taken y ≡ true → has left z ≡ true → y < z
  pub rise : Rises left

pub orders_first : (old all : List ℕ) → IsPermutation old all → IsSorted nat_cmp all → Orders old [] all
orders_first old all p s = record { members = λ n. sym (list_any-IsPermutation (λ y. y == n) old all p); ordered = tt; before = λ y z h. absurd (true≢false (sym h)); rise = rises all s }

pub orders_skip : (all taken left : List ℕ) (x : ℕ) → Orders all taken (x ∷ left) → begins_with left x ≡ true → Orders all taken left
orders_skip all taken [] x o h = absurd (true≢false (sym h))
orders_skip all taken (y ∷ ys) x o h = record {
  members = λ n. ap (λ b. has taken n || b) (sym (twice (y == n) (has ys n)) ∙ ap (λ i. (i == n) || ((y == n) || has ys n)) (eqb-true y x h)) ∙ o.members n;
  ordered = o.ordered;
  before = λ u z g k. o.before u z g (has_later x z (y ∷ ys) k);
  rise = o.rise.1;
}

next_by : (x y z : ℕ) (ys : List ℕ) → Rises (x ∷ y ∷ ys) → (y == x) ≡ false → (y ≡ z) ⊎ (has ys z ≡ true) → x < z
next_by x y z ys r h (inl e) = let l : x ≤ y = r.0 y (has_first y ys) in omega (arith, l, e, eqb-false y x h)
next_by x y z ys r h (inr k) = let l : x ≤ y = r.0 y (has_first y ys) in let m : y ≤ z = r.1.0 z k in omega (arith, l, m, eqb-false y x h)

next_is : (x z : ℕ) (left : List ℕ) → Rises (x ∷ left) → begins_with left x ≡ false → has left z ≡ true → x < z
next_is x z [] r h k = absurd (true≢false (sym k))
next_is x z (y ∷ ys) r h k = next_by x y z ys r h (first_or_later y z ys k)

pub orders_take : (all taken left : List ℕ) (x : ℕ) → Orders all taken (x ∷ left) → begins_with left x ≡ false → Orders all (taken ++ x ∷ []) left
orders_take all taken left x o h = record {
  members = λ n. ap (λ b. b || has left n) (has_last x taken n) ∙ out (x == n) (has taken n) (has left n) ∙ o.members n;
  ordered = ascends_end taken x o.ordered (λ y g. o.before y x g (has_first x left));
  before = λ y z g k. by y z k (in_either taken (x ∷ []) y g);
  rise = o.rise.1;
}
  where
    last : (y z : ℕ) → has left z ≡ true → (x ≡ y) ⊎ (has [] y ≡ true) → y < z
    last y z k (inl e) = subst (λ i. i < z) e (next_is x z left o.rise h k)
    last y z k (inr g) = absurd (true≢false (sym g))

    by : (y z : ℕ) → has left z ≡ true → (has taken y ≡ true) ⊎ (has (x ∷ []) y ≡ true) → y < z
    by y z k (inl g) = o.before y z g (has_later x z left k)
    by y z k (inr g) = last y z k (first_or_later x y [] g)

pub ordered_all : (all taken : List ℕ) → Orders all taken [] → (n : ℕ) → has taken n ≡ has all n
ordered_all all taken o n = sym (no_more (has taken n)) ∙ o.members n

-- ---- numbers that come to others, of which so many are left

pub record Merges (old now : List ℕ) (all left : ℕ → Bool) : Type 0 where
  pub members : (n : ℕ) → (has now n || left n) ≡ (has old n || all n)

pub merges_first : (ks : List ℕ) (all : ℕ → Bool) → Merges ks ks all all
merges_first ks all = record { members = λ n. refl }

pub merges_next : (old now new : List ℕ) (all left left' : ℕ → Bool) (k : ℕ) → Merges old now all left → new ≡ now ++ k ∷ [] → ((n : ℕ) → (k == n || left' n) ≡ left n) → Merges old new all left'
merges_next old now new all left left' k m e h = subst (λ ks. Merges old ks all left') (sym e) (record {
  members = λ n. ap (λ b. b || left' n) (has_last k now n) ∙ out (k == n) (has now n) (left' n) ∙ ap (λ b. has now n || b) (h n) ∙ m.members n;
})

pub merges_same : (old now : List ℕ) (all left left' : ℕ → Bool) → Merges old now all left → ((n : ℕ) → left' n ≡ left n) → Merges old now all left'
merges_same old now all left left' m h = record { members = λ n. ap (λ b. has now n || b) (h n) ∙ m.members n }

pub merged : (old now : List ℕ) (all left : ℕ → Bool) → Merges old now all left → ((n : ℕ) → left n ≡ false) → (n : ℕ) → has now n ≡ (has old n || all n)
merged old now all left m h n = sym (no_more (has now n)) ∙ ap (λ b. has now n || b) (sym (h n)) ∙ m.members n

-- ---- those that have a class in their lists

with_by : (b c d : Bool) → (b ≡ true → d ≡ true) → (b || (c && d)) ≡ ((b || c) && d)
with_by true c true h = refl
with_by true c false h = absurd (true≢false (sym (h refl)))
with_by false c d h = refl

without_by : (b c d : Bool) → (b ≡ true → d ≡ false) → (c && d) ≡ ((b || c) && d)
without_by true true true h = absurd (true≢false (h refl))
without_by true false true h = absurd (true≢false (h refl))
without_by true true false h = refl
without_by true false false h = refl
without_by false c d h = refl

pub one_has_it : (ks : List Kept) (c x : ℕ) (xs : List ℕ) → has (list_in (listing_at ks x)) c ≡ true → (n : ℕ) → (x == n || have_it ks c xs n) ≡ have_it ks c (x ∷ xs) n
one_has_it ks c x xs h n = with_by (x == n) (has xs n) (has (list_in (listing_at ks n)) c) (λ e. subst (λ i. has (list_in (listing_at ks i)) c ≡ true) (eqb-true x n e) h)

pub one_has_not : (ks : List Kept) (c x : ℕ) (xs : List ℕ) → has (list_in (listing_at ks x)) c ≡ false → (n : ℕ) → have_it ks c xs n ≡ have_it ks c (x ∷ xs) n
one_has_not ks c x xs h n = without_by (x == n) (has xs n) (has (list_in (listing_at ks n)) c) (λ e. subst (λ i. has (list_in (listing_at ks i)) c ≡ false) (eqb-true x n e) h)
