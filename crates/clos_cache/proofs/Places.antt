-- Places of lists: which have what after an item comes or goes, and at which a key is found.
use Rattle.std.proofs.Common.{◌≡◌, ◌⊎◌, inl, inr, ℕ, zero, suc, ◌+◌, ◌-◌, ◌<◌, ◌==◌, Bool, true, false, cond, List, [], ◌∷◌, ◌++◌, length, get_or, set, Some, refl, ap, ◌∙◌, sym, true≢false, eqb-true, eq-eqb, arith}
use Rattle.std.specs.List.{slice_get, swap_remove}
use Rattle.std.specs.Map.{lookup}
use Rattle.std.specs.Prelude.{unwrap_or}
use Rattle.std.proofs.lemmas.Option.{none-some, slice_get_within, get_or_from_slice_get, slice_get-get_or}
use Rattle.std.proofs.lemmas.Grind.{common_steps, get_or-set_at}
use Rattle.std.proofs.lemmas.List.{get_or-set_other, get_or-take}
use Rattle.clos_cache.specs.CacheView.{AreApart}
use Rattle.clos_cache.specs.Key.{Key, same_key}
use Rattle.clos_cache.specs.KeyLaws.{same_key-Decides}

module _ {X : Type 0} where
  pub one_item : (x y : X) → Some x ≡ Some y → x ≡ y
  one_item x y h = ap (λ o. unwrap_or o x) h

  -- what is at a place of a list with one more at its end
  pub pushed : (xs : List X) (x y : X) (i : ℕ) → slice_get (xs ++ x ∷ []) i ≡ Some y → (slice_get xs i ≡ Some y)
      ⊎ ((i ≡ length xs) × (x ≡ y))
  pushed [] x y zero h = inr (refl, one_item x y h)
  pushed [] x y (suc i) h = absurd (none-some y h)
  pushed (z ∷ xs) x y zero h = inl h
  pushed (z ∷ xs) x y (suc i) h = elim (pushed xs x y i h) [ inl k ↦ inl k | inr k ↦ inr (ap suc k.0, k.1) ]

  below_last : (xs : List X) (i j : ℕ) (d : X) → j < length (swap_remove xs i d) → j + 1 < length xs
  below_last xs i j d h = grind (arith, common_steps)

  moved_there : (xs : List X) (i j : ℕ) (d y : X) (b : Bool) → (j == i) ≡ b → i < length xs
      → j < length (swap_remove xs i d) → get_or (swap_remove xs i d) j y ≡ y
      → (j + 1 < length xs) × (((j ≡ i) × (slice_get xs (length xs - 1) ≡ Some y)) ⊎ ((j ≡ i → ⊥) × (slice_get xs j ≡ Some y)))
  moved_there xs i j d y true t h k e =
      let fits : j + 1 < length xs = below_last xs i j d k in
      let within : length xs - 1 < length xs = omega (arith, h) in
      let taken : j < length xs - 1 = omega (arith, fits) in
      let last = get_or xs (length xs - 1) d in
      let is_last = sym (get_or-set_at xs i j last y (eqb-true j i t) h)
      ∙ sym (get_or-take (length xs - 1) (set xs i last) j y taken) ∙ e in
      (fits, inl (eqb-true j i t, slice_get-get_or xs (length xs - 1) d within ∙ ap Some is_last))
  moved_there xs i j d y false t h k e =
      let fits : j + 1 < length xs = below_last xs i j d k in
      let within : j < length xs = omega (arith, fits) in
      let taken : j < length xs - 1 = omega (arith, fits) in
      let last = get_or xs (length xs - 1) d in
      let apart : j ≡ i → ⊥ = λ p. true≢false (sym (eq-eqb j i p) ∙ t) in
      let is_own = sym (get_or-set_other xs i j last y apart) ∙ sym (get_or-take (length xs - 1) (set xs i last) j y taken) ∙ e in
      (fits, inr (apart, slice_get-get_or xs j y within ∙ ap Some is_own))

  -- what is at a place of a list without the item at i, whose place the last item takes
  pub moved : (xs : List X) (i j : ℕ) (d y : X) → i < length xs → slice_get (swap_remove xs i d) j ≡ Some y
      → (j + 1 < length xs) × (((j ≡ i) × (slice_get xs (length xs - 1) ≡ Some y)) ⊎ ((j ≡ i → ⊥) × (slice_get xs j ≡ Some y)))
  moved xs i j d y h k =
      moved_there xs i j d y (j == i) refl h (slice_get_within (swap_remove xs i d) j y k)
      (get_or_from_slice_get (swap_remove xs i d) j y y k)

-- the place at which a test of keys finds one
pub record At (test : Key → Bool) (es : List (Key × ℕ)) (p : ℕ) : Type 0 where
  pub place : ℕ
  pub entry : Key × ℕ
  pub there : slice_get es place ≡ Some entry
  pub passes : test entry.0 ≡ true
  pub is : entry.1 ≡ p

first_or : (test : Key → Bool) (e : Key × ℕ) (es : List (Key × ℕ)) (p : ℕ) (b : Bool) → test e.0 ≡ b
    → cond b (Some e.1) (lookup test es) ≡ Some p
    → (lookup test es ≡ Some p → At test es p) → At test (e ∷ es) p
first_or test e es p true t h rest = record { place = 0; entry = e; there = refl; passes = t; is = one_item e.1 p h }
first_or test e es p false t h rest = let a = rest h in record
    { place = suc a.place; entry = a.entry; there = a.there; passes = a.passes; is = a.is }

pub looked_up : (test : Key → Bool) (es : List (Key × ℕ)) (p : ℕ) → lookup test es ≡ Some p → At test es p
looked_up test [] p h = absurd (none-some p h)
looked_up test (e ∷ es) p h = first_or test e es p (test e.0) refl h (looked_up test es p)

-- keys with one place are one
pub one_key : (es : List (Key × ℕ)) → AreApart es → (q r : Key) (p : ℕ) → lookup (same_key q) es ≡ Some p
    → lookup (same_key r) es ≡ Some p → q ≡ r
one_key es apart q r p h k =
    let a = looked_up (same_key q) es p h in
    let b = looked_up (same_key r) es p k in
    let same = apart a.place b.place a.entry b.entry a.there b.there (a.is ∙ sym b.is) in
    let entries = one_item a.entry b.entry (sym a.there ∙ ap (slice_get es) same ∙ b.there) in
    (same_key-Decides q a.entry.0).0 a.passes ∙ ap (λ e. e.0) entries ∙ sym ((same_key-Decides r b.entry.0).0 b.passes)
