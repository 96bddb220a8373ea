-- What is noted of the classes below each class.
use Rattle.std.proofs.Common.{◌≡◌, ◌⊎◌, inl, inr, ℕ, zero, suc, ◌<◌, ◌++◌, Bool, true, false, true≢false, List, [], ◌∷◌, length, map, arith, refl, sym, subst}
use Rattle.std.specs.Prelude.{nat_eq, slice_index_or, slice_set, if◌then◌else◌}
use Rattle.std.specs.List.{list_any}
use Rattle.std.proofs.lemmas.Bool.{eqb-true}
use Rattle.clos_precedence.proofs.Truth.{either}
use Rattle.clos_precedence.specs.Precedence.{has}
use Rattle.clos_precedence.proofs.Members.{first_or_later, has_first, has_later, in_first, in_second, it_is}
use Rattle.lisp_data.specs.declared.ids.ClassId.{ClassId}
use Rattle.clos_precedence.specs.PrecedenceView.{numbers}
use Rattle.clos_hierarchy.specs.Classes.{list_in}
use Rattle.clos_hierarchy.specs.declared.kept.Kept.{Kept}
use Rattle.clos_hierarchy.specs.inner.Below.{Grows, below_at}
use Rattle.clos_hierarchy.specs.inner.KeptView.{listing_at}

pub grows_through : (a b c : List (List ℕ)) → Grows a b → Grows b c → Grows a c
grows_through a b c f g m k h = g m k (f m k h)

pub grows_not : (a : List (List ℕ)) → Grows a a
grows_not a m k h = h

-- ---- one row more, and one row changed

module _ {A : Type 0} (row : A → List ℕ) where
  pub grows_pushed : (old : List (List ℕ)) (rows : List A) (x : A) → row x ≡ [] → Grows old (map row rows) → Grows old (map row (rows ++ x ∷ []))
  grows_pushed old rows x e g = grows_through old (map row rows) (map row (rows ++ x ∷ [])) g (pushed rows)
    where
      pushed : (rows : List A) → Grows (map row rows) (map row (rows ++ x ∷ []))
      pushed [] m k h = absurd (true≢false (sym h))
      pushed (r ∷ rows) zero k h = h
      pushed (r ∷ rows) (suc m) k h = pushed rows m k h

  pub grows_set : (rows : List A) (n : ℕ) (x y : A) → x ≡ slice_index_or rows n x → ((k : ℕ) → has (row x) k ≡ true → has (row y) k ≡ true) → Grows (map row rows) (map row (slice_set rows n y))
  grows_set [] n x y e f m k h = h
  grows_set (r ∷ rows) zero x y e f zero k h = f k (subst (λ v. has (row v) k ≡ true) (sym e) h)
  grows_set (r ∷ rows) zero x y e f (suc m) k h = h
  grows_set (r ∷ rows) (suc n) x y e f zero k h = h
  grows_set (r ∷ rows) (suc n) x y e f (suc m) k h = grows_set rows n x y e f m k h

  pub there : (rows : List A) (n : ℕ) (y : A) → n < length rows → below_at (map row (slice_set rows n y)) n ≡ row y
  there [] n y h = absurd (omega (arith, h))
  there (r ∷ rows) zero y h = refl
  there (r ∷ rows) (suc n) y h = there rows n y (omega (arith, h))

-- ---- a number that is put into a row

found_by : (c y : ℕ) (ks : List ℕ) → (nat_eq c y ≡ true) ⊎ (list_any (nat_eq c) ks ≡ true) → (list_any (nat_eq c) ks ≡ true → has ks c ≡ true) → has (y ∷ ks) c ≡ true
found_by c y ks (inl e) f = it_is y c ks (sym (eqb-true c y e))
found_by c y ks (inr h) f = has_later y c ks (f h)

found : (c : ℕ) (ks : List ℕ) → list_any (nat_eq c) ks ≡ true → has ks c ≡ true
found c [] h = absurd (true≢false (sym h))
found c (y ∷ ks) h = found_by c y ks (either (nat_eq c y) (list_any (nat_eq c) ks) h) (λ k. found c ks k)

abbrev pub inserted : List ℕ → ℕ → List ℕ
inserted ks c = if list_any (nat_eq c) ks then ks else ks ++ c ∷ []

pub inserted_there : (ks : List ℕ) (c : ℕ) → has (inserted ks c) c ≡ true
inserted_there ks c = by (list_any (nat_eq c) ks) refl
  where
    by : (b : Bool) → list_any (nat_eq c) ks ≡ b → has (if b then ks else ks ++ c ∷ []) c ≡ true
    by true e = found c ks e
    by false e = in_second ks (c ∷ []) c (has_first c [])

pub inserted_keeps : (ks : List ℕ) (c k : ℕ) → has ks k ≡ true → has (inserted ks c) k ≡ true
inserted_keeps ks c k h = elim (list_any (nat_eq c) ks) as (λ b. has (if b then ks else ks ++ c ∷ []) k ≡ true) [ true ↦ h | false ↦ in_first ks (c ∷ []) k h ]

-- ---- while these are noted, of which so many are left
pub record IsAdding (old now : List (List ℕ)) (n : ℕ) (all left : List ℕ) : Type 0 where
  pub grows : Grows old now
  pub noted : (m : ℕ) → has all m ≡ true → (has left m ≡ true) ⊎ (has (below_at now m) n ≡ true)

pub adding_first : (rows : List (List ℕ)) (n : ℕ) (all : List ℕ) → IsAdding rows rows n all all
adding_first rows n all = record { grows = grows_not rows; noted = λ m h. inl h }

pub adding_next : (old now new : List (List ℕ)) (n x : ℕ) (all left : List ℕ) → IsAdding old now n all (x ∷ left) → Grows now new → has (below_at new x) n ≡ true → IsAdding old new n all left
adding_next old now new n x all left a g h = record { grows = grows_through old now new a.grows g; noted = λ m k. by m (a.noted m k) }
  where
    at : (m : ℕ) → (x ≡ m) ⊎ (has left m ≡ true) → (has left m ≡ true) ⊎ (has (below_at new m) n ≡ true)
    at m (inl e) = inr (subst (λ i. has (below_at new i) n ≡ true) e h)
    at m (inr k) = inl k

    by : (m : ℕ) → (has (x ∷ left) m ≡ true) ⊎ (has (below_at now m) n ≡ true) → (has left m ≡ true) ⊎ (has (below_at new m) n ≡ true)
    by m (inl k) = at m (first_or_later x m left k)
    by m (inr k) = inr (g m n k)

-- ---- while the lists of these classes are noted, of which so many are left
pub record IsNoting (old now : List (List ℕ)) (ks : List Kept) (all left : List ℕ) : Type 0 where
  pub grows : Grows old now
  pub noted : (n m : ℕ) → has all n ≡ true → has (list_in (listing_at ks n)) m ≡ true → (has left n ≡ true) ⊎ (has (below_at now m) n ≡ true)

pub noting_first : (rows : List (List ℕ)) (ks : List Kept) (all : List ℕ) → IsNoting rows rows ks all all
noting_first rows ks all = record { grows = grows_not rows; noted = λ n m h e. inl h }

pub noting_next : (old now new : List (List ℕ)) (ks : List Kept) (x : ℕ) (all left : List ℕ) → IsNoting old now ks all (x ∷ left) → Grows now new
    → ((m : ℕ) → has (list_in (listing_at ks x)) m ≡ true → has (below_at new m) x ≡ true) → IsNoting old new ks all left
noting_next old now new ks x all left a g h = record { grows = grows_through old now new a.grows g; noted = λ n m k e. by n m e (a.noted n m k e) }
  where
    at : (n m : ℕ) → has (list_in (listing_at ks n)) m ≡ true → (x ≡ n) ⊎ (has left n ≡ true) → (has left n ≡ true) ⊎ (has (below_at new m) n ≡ true)
    at n m e (inl q) = inr (subst (λ i. has (below_at new m) i ≡ true) q (h m (subst (λ i. has (list_in (listing_at ks i)) m ≡ true) (sym q) e)))
    at n m e (inr k) = inl k

    by : (n m : ℕ) → has (list_in (listing_at ks n)) m ≡ true → (has (x ∷ left) n ≡ true) ⊎ (has (below_at now m) n ≡ true) → (has left n ≡ true) ⊎ (has (below_at new m) n ≡ true)
    by n m e (inl k) = at n m e (first_or_later x n left k)
    by n m e (inr k) = inr (g m n k)

pub noting_done : (old now : List (List ℕ)) (ks : List Kept) (all : List ℕ) (left : List ClassId) → IsNoting old now ks all (numbers left) → length left ≡ 0
    → (n m : ℕ) → has all n ≡ true → has (list_in (listing_at ks n)) m ≡ true → has (below_at now m) n ≡ true
noting_done old now ks all [] a l n m h e = by (a.noted n m h e)
  where
    by : (has [] n ≡ true) ⊎ (has (below_at now m) n ≡ true) → has (below_at now m) n ≡ true
    by (inl k) = absurd (true≢false (sym k))
    by (inr k) = k
noting_done old now ks all (c ∷ cs) a l n m h e = absurd (omega (arith, l))
