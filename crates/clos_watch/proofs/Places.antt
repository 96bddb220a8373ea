-- Rows of places, of which one changes.
use Rattle.std.proofs.Common.{◌≡◌, ℕ, zero, suc, ◌==◌, ◌<◌, ◌≤◌, ◌++◌, Bool, true, false, List, [], ◌∷◌, length, map, arith, refl, ap, sym, subst, ◌∙◌}
use Rattle.std.specs.Prelude.{OnErr, Result, Ok, Err, ◌||◌, nat_eq, slice_index_or, slice_set, if◌then◌else◌}
use Rattle.indexmap.specs.IndexSet.{remove_key}
use Rattle.std.specs.List.{AllByRecursion, IsDistinct}
use Rattle.std.proofs.lemmas.Bool.{eqb-false, eqb-true}
use Rattle.clos_watch.specs.Rows.{Once}
use Rattle.clos_watch.specs.Watching.{has, row_at, without_place}

-- ---- one row more, and one row changed

module _ {A : Type 0} (row : A → List ℕ) where
  pub same_pushed : (rows : List A) (x : A) → row x ≡ [] → (n : ℕ) → row_at (map row (rows ++ x ∷ [])) n ≡ row_at (map row rows) n
  same_pushed [] x e zero = e
  same_pushed [] x e (suc n) = refl
  same_pushed (r ∷ rows) x e zero = refl
  same_pushed (r ∷ rows) x e (suc n) = same_pushed rows x e n

  pub set_here : (rows : List A) (n : ℕ) (y : A) → n < length rows → row_at (map row (slice_set rows n y)) n ≡ row y
  set_here [] n y h = absurd (omega (arith, h))
  set_here (r ∷ rows) zero y h = refl
  set_here (r ∷ rows) (suc n) y h = set_here rows n y (omega (arith, h))

  set_there : (rows : List A) (n m : ℕ) (y : A) → (n ≡ m → ⊥) → row_at (map row (slice_set rows n y)) m ≡ row_at (map row rows) m
  set_there [] n m y h = refl
  set_there (r ∷ rows) zero zero y h = absurd (h refl)
  set_there (r ∷ rows) zero (suc m) y h = refl
  set_there (r ∷ rows) (suc n) zero y h = refl
  set_there (r ∷ rows) (suc n) (suc m) y h = set_there rows n m y (λ e. h (ap suc e))

  read_here : (rows : List A) (n : ℕ) (x : A) → n < length rows → x ≡ slice_index_or rows n x → row_at (map row rows) n ≡ row x
  read_here [] n x h e = absurd (omega (arith, h))
  read_here (r ∷ rows) zero x h e = ap row (sym e)
  read_here (r ∷ rows) (suc n) x h e = read_here rows n x (omega (arith, h)) e

  -- the row of this number is that of y, which came in the place of x
  pub set_row : (f : List ℕ → List ℕ) (rows : List A) (n : ℕ) (x y : A) → n < length rows → x ≡ slice_index_or rows n x → row y ≡ f (row x) → (m : ℕ)
      → row_at (map row (slice_set rows n y)) m ≡ (if n == m then f (row_at (map row rows) m) else row_at (map row rows) m)
  set_row f rows n x y l e g m = by (n == m) refl
    where
      by : (b : Bool) → (n == m) ≡ b → row_at (map row (slice_set rows n y)) m ≡ (if b then f (row_at (map row rows) m) else row_at (map row rows) m)
      by true q =
          let p : n ≡ m = eqb-true n m q in
          subst (λ v. row_at (map row (slice_set rows n y)) v ≡ f (row_at (map row rows) v)) p (set_here rows n y l ∙ g ∙ ap f (sym (read_here rows n x l e)))
      by false q = set_there rows n m y (eqb-false n m q)

-- the same row, where the place could not be added
pub set_same : {A : Type 0} (row : A → List ℕ) (rows : List A) (n : ℕ) (x y : A) → n < length rows → x ≡ slice_index_or rows n x → row y ≡ row x → (m : ℕ) → row_at (map row (slice_set rows n y)) m ≡ row_at (map row rows) m
set_same row rows n x y l e g m = set_row row (λ xs. xs) rows n x y l e g m ∙ by (n == m)
  where
    by : (b : Bool) → (if b then row_at (map row rows) m else row_at (map row rows) m) ≡ row_at (map row rows) m
    by true = refl
    by false = refl

pub on_err : {A E : Type 0} (r : Result A E) (X : Type 0) → X → OnErr r X
on_err (Ok a) X x = tt
on_err (Err e) X x = x

-- ---- places stand once

none_among : (x : ℕ) (xs : List ℕ) → AllByRecursion (λ y. nat_eq x y ≡ false) xs → has xs x ≡ false
none_among x [] a = refl
none_among x (y ∷ ys) a = ap (λ b. b || has ys x) a.0 ∙ none_among x ys a.1

pub once_of : (xs : List ℕ) → IsDistinct nat_eq xs → Once xs
unfolding IsDistinct
once_of [] d = tt
once_of (x ∷ xs) d = (none_among x xs d.0, once_of xs d.1)

pub same_removed : (xs : List ℕ) (n : ℕ) → remove_key (λ x. n == x) xs ≡ without_place xs n
same_removed [] n = refl
same_removed (x ∷ xs) n = ap (λ ys. if n == x then xs else x ∷ ys) (same_removed xs n)

-- ---- where there is no such row

past : (rows : List (List ℕ)) (n : ℕ) → length rows ≤ n → row_at rows n ≡ []
past [] n h = refl
past (r ∷ rows) zero h = absurd (omega (arith, h))
past (r ∷ rows) (suc n) h = past rows n (omega (arith, h))

pub nothing_to_remove : (rows : List (List ℕ)) (n p m : ℕ) → length rows ≤ n → row_at rows m ≡ (if n == m then without_place (row_at rows m) p else row_at rows m)
nothing_to_remove rows n p m h = by (n == m) refl
  where
    by : (b : Bool) → (n == m) ≡ b → row_at rows m ≡ (if b then without_place (row_at rows m) p else row_at rows m)
    by true e =
        let q : row_at rows m ≡ [] = past rows m (subst (λ v. length rows ≤ v) (eqb-true n m e) h) in q ∙ ap (λ xs. without_place xs p) (sym q)
    by false e = refl
