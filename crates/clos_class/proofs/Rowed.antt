-- What classes say of slots, with one more.
use Rattle.std.proofs.Common.{◌≡◌, ℕ, zero, suc, ◌==◌, Bool, true, false, List, [], ◌∷◌, ◌++◌, Some, length, ◌<◌, ◌≤◌, arith, refl, sym, ap, ◌∙◌}
use Rattle.std.specs.Prelude.{nat_lt, slice_get, slice_set, cond}
use Rattle.std.specs.Option.{option_map_or}
use Rattle.std.proofs.lemmas.Bool.{eqb-true, eqb-false, ltb-true, ltb-false}
use Rattle.std.proofs.Math.Dec.{eqb-suc-suc}
use Rattle.clos_class.specs.declared.direct.ClassSlots.{ClassSlots}
use Rattle.clos_class.specs.declared.rows.Rows.{Rows}
use Rattle.clos_class.specs.SlotsView.{defaults, defaults_in, direct_slots, or_said, row_of, slots_in}
use Rattle.clos_class.specs.Table.{with_row}

module _ {X : Type 0} where
  pub set_here : (xs : List X) (n : ℕ) (x : X) → n < length xs → slice_get (slice_set xs n x) n ≡ Some x
  set_here [] n x h = absurd (omega (arith, h))
  set_here (y ∷ ys) zero x h = refl
  set_here (y ∷ ys) (suc n) x h = set_here ys n x (omega (arith, h))

  pub set_other : (xs : List X) (n m : ℕ) (x : X) → (m == n) ≡ false → slice_get (slice_set xs n x) m ≡ slice_get xs m
  set_other [] n m x h = refl
  set_other (y ∷ ys) zero zero x h = absurd (eqb-false 0 0 h refl)
  set_other (y ∷ ys) zero (suc m) x h = refl
  set_other (y ∷ ys) (suc n) zero x h = refl
  set_other (y ∷ ys) (suc n) (suc m) x h = set_other ys n m x (sym (eqb-suc-suc m n) ∙ h)

  pub end_here : (xs : List X) (x : X) → slice_get (xs ++ x ∷ []) (length xs) ≡ Some x
  end_here [] x = refl
  end_here (y ∷ ys) x = end_here ys x

  pub end_other : (xs : List X) (m : ℕ) (x : X) → (m == length xs) ≡ false → slice_get (xs ++ x ∷ []) m ≡ slice_get xs m
  end_other [] zero x h = absurd (eqb-false 0 0 h refl)
  end_other [] (suc m) x h = refl
  end_other (y ∷ ys) zero x h = refl
  end_other (y ∷ ys) (suc m) x h = end_other ys m x (sym (eqb-suc-suc m (length ys)) ∙ h)

at_set : (rows : List ClassSlots) (n m : ℕ) (row : ClassSlots) (b : Bool) → n < length rows → (m == n) ≡ b → slice_get (slice_set rows n row) m ≡ or_said (Some row) b (slice_get rows m)
at_set rows n m row true h e = ap (slice_get (slice_set rows n row)) (eqb-true m n e) ∙ set_here rows n row h
at_set rows n m row false h e = set_other rows n m row e

at_end : (rows : List ClassSlots) (n m : ℕ) (row : ClassSlots) (b : Bool) → n ≡ length rows → (m == n) ≡ b → slice_get (rows ++ row ∷ []) m ≡ or_said (Some row) b (slice_get rows m)
at_end rows n m row true h e = ap (slice_get (rows ++ row ∷ [])) (eqb-true m n e ∙ h) ∙ end_here rows row
at_end rows n m row false h e = end_other rows m row (ap (λ k. m == k) (sym h) ∙ e)

at_by : (rows : List ClassSlots) (n m : ℕ) (row : ClassSlots) (b : Bool) → nat_lt n (length rows) ≡ b → n ≤ length rows
    → slice_get (cond b (slice_set rows n row) (rows ++ row ∷ [])) m ≡ or_said (Some row) (m == n) (slice_get rows m)
at_by rows n m row true e h = at_set rows n m row (m == n) (ltb-true n (length rows) e) refl
at_by rows n m row false e h = let g : length rows ≤ n = ltb-false n (length rows) e in at_end rows n m row (m == n) (omega (arith, g, h)) refl

-- what each class says then
pub at_row : (rows : List ClassSlots) (n m : ℕ) (row : ClassSlots) → n ≤ length rows → slice_get (with_row rows n row) m ≡ or_said (Some row) (m == n) (slice_get rows m)
at_row rows n m row h = at_by rows n m row (nat_lt n (length rows)) refl h

abbrev pub Sees : Rows → List ClassSlots → Type 0
Sees r rows = (m : ℕ) → row_of r m ≡ slice_get rows m

pub sees : (r : Rows) (rows : List ClassSlots) (n : ℕ) (row : ClassSlots) → n ≤ length rows → ((m : ℕ) → row_of r m ≡ or_said (Some row) (m == n) (slice_get rows m)) → Sees r (with_row rows n row)
sees r rows n row h e m = e m ∙ sym (at_row rows n m row h)

pub same_slots : (r : Rows) (rows : List ClassSlots) → Sees r rows → slots_in r ≡ direct_slots rows
same_slots r rows e = λ i m. option_map_or (λ c. c.slots) (e m i) []

pub same_defaults : (r : Rows) (rows : List ClassSlots) → Sees r rows → defaults_in r ≡ defaults rows
same_defaults r rows e = λ i m. option_map_or (λ c. c.defaults) (e m i) []
