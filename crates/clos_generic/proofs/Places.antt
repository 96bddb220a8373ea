-- The first number in a list that passes a test.
use Rattle.std.proofs.Common.{◌≡◌, ℕ, suc, ◌+◌, ◌<◌, ◌≤◌, List, [], ◌∷◌, ◌++◌, Some, None, Bool, true, false, length, arith, refl, ap, sym, ◌∙◌, true≢false}
use Rattle.std.specs.Prelude.{not, position, nat_lt, if◌then◌else◌, slice_index_or, remove, unwrap_or, is_some}
use Rattle.std.specs.List.{find, position_or_len}
use Rattle.std.proofs.lemmas.Bool.{ltb-false, ltb-true}
use Rattle.std.proofs.lemmas.List.{get_or_default, map-append}
use Rattle.lisp_data.specs.declared.ids.MethodId.{MethodId}
use Rattle.clos_generic.specs.Table.{without}
use Rattle.clos_method.specs.MethodIds.{method_numbers}

next : (n : ℕ) → 1 + n ≡ suc n
next n = omega arith

module _ (p : ℕ → Bool) where
  abbrev at : List MethodId → ℕ
  at ms = position_or_len (λ m. p m.0) ms

  -- ---- it is there

  removed_at : (ms : List MethodId) → at ms < length ms → method_numbers (remove ms (at ms)) ≡ without p (method_numbers ms)
  removed_at [] h = absurd (omega (arith, h))
  removed_at (m ∷ ms) h =
      elim (p m.0)
      as (λ b. (if not b then 1 + at ms else 0) < length (m ∷ ms) → method_numbers (remove (m ∷ ms) (if not b then 1 + at ms else 0)) ≡ (if b then method_numbers ms else m.0 ∷ without p (method_numbers ms)))
      [ true ↦ λ h. refl | false ↦ λ h. ap (λ k. method_numbers (remove (m ∷ ms) k)) (next (at ms)) ∙ ap (λ l. m.0 ∷ l) (removed_at ms (omega (arith, h))) ] h

  found_at : (ms : List MethodId) (x : MethodId) → at ms < length ms → x ≡ slice_index_or ms (at ms) x → Some x.0 ≡ find p (method_numbers ms)
  found_at [] x h e = absurd (omega (arith, h))
  found_at (m ∷ ms) x h e =
      elim (p m.0)
      as (λ b. (if not b then 1 + at ms else 0) < length (m ∷ ms) → x ≡ slice_index_or (m ∷ ms) (if not b then 1 + at ms else 0) x → Some x.0 ≡ (if b then Some m.0 else find p (method_numbers ms)))
      [ true ↦ λ h e. ap (λ y. Some y.0) e | false ↦ λ h e. found_at ms x (omega (arith, h)) (e ∙ ap (λ k. slice_index_or (m ∷ ms) k x) (next (at ms))) ] h e

  -- ---- it is not

  none_removed : (ms : List MethodId) → length ms ≤ at ms → method_numbers ms ≡ without p (method_numbers ms)
  none_removed [] h = refl
  none_removed (m ∷ ms) h =
      elim (p m.0)
      as (λ b. length (m ∷ ms) ≤ (if not b then 1 + at ms else 0) → m.0 ∷ method_numbers ms ≡ (if b then method_numbers ms else m.0 ∷ without p (method_numbers ms)))
      [ true ↦ λ h. absurd (omega (arith, h)) | false ↦ λ h. ap (λ l. m.0 ∷ l) (none_removed ms (omega (arith, h))) ] h

  none_found : (ms : List MethodId) → length ms ≤ at ms → None ≡ find p (method_numbers ms)
  none_found [] h = refl
  none_found (m ∷ ms) h =
      elim (p m.0)
      as (λ b. length (m ∷ ms) ≤ (if not b then 1 + at ms else 0) → None ≡ (if b then Some m.0 else find p (method_numbers ms)))
      [ true ↦ λ h. absurd (omega (arith, h)) | false ↦ λ h. none_found ms (omega (arith, h)) ] h

  -- ---- by the answer of `position`

  within : (m l i : ℕ) (b : Bool) → nat_lt m l ≡ b → Some i ≡ (if b then Some m else None) → (m < l) × (m ≡ i)
  within m l i true h e = (ltb-true m l h, ap (λ o. unwrap_or o m) (sym e))
  within m l i false h e = absurd (true≢false (ap is_some e))

  past : (m l : ℕ) (b : Bool) → nat_lt m l ≡ b → None ≡ (if b then Some m else None) → l ≤ m
  past m l true h e = absurd (true≢false (sym (ap is_some e)))
  past m l false h e = ltb-false m l h

  pub place_within : (ms : List MethodId) (i : ℕ) → Some i ≡ position (λ m. p m.0) ms → i < length ms
  place_within ms i e =
      let w = within (at ms) (length ms) i (nat_lt (at ms) (length ms)) refl e in
      omega (arith, w.0, w.1)

  pub removed_there : (ms : List MethodId) (i : ℕ) → Some i ≡ position (λ m. p m.0) ms → method_numbers (remove ms i) ≡ without p (method_numbers ms)
  removed_there ms i e =
      let w = within (at ms) (length ms) i (nat_lt (at ms) (length ms)) refl e in
      ap (λ k. method_numbers (remove ms k)) (sym w.1) ∙ removed_at ms w.0

  pub found_there : (ms : List MethodId) (i : ℕ) (x : MethodId) → Some i ≡ position (λ m. p m.0) ms → x ≡ slice_index_or ms i x → Some x.0 ≡ find p (method_numbers ms)
  found_there ms i x e h =
      let w = within (at ms) (length ms) i (nat_lt (at ms) (length ms)) refl e in
      found_at ms x w.0 (h ∙ ap (λ k. slice_index_or ms k x) (sym w.1))

  pub none_there : (ms : List MethodId) → None ≡ position (λ m. p m.0) ms → method_numbers ms ≡ without p (method_numbers ms)
  none_there ms e = none_removed ms (past (at ms) (length ms) (nat_lt (at ms) (length ms)) refl e)

  pub nothing_there : (ms : List MethodId) → None ≡ position (λ m. p m.0) ms → None ≡ find p (method_numbers ms)
  nothing_there ms e = none_found ms (past (at ms) (length ms) (nat_lt (at ms) (length ms)) refl e)

pub one_more_number : (ms : List MethodId) (m : MethodId) → method_numbers (ms ++ m ∷ []) ≡ method_numbers ms ++ m.0 ∷ []
one_more_number ms m = map-append (λ n. n.0) ms (m ∷ [])

pub found_somewhere : (p : ℕ → Bool) (ms : List MethodId) (i : ℕ) (d : MethodId) → Some i ≡ position (λ m. p m.0) ms → Some (slice_index_or ms i d).0 ≡ find p (method_numbers ms)
found_somewhere p ms i d e = found_there p ms i (slice_index_or ms i d) e (get_or_default ms i d (slice_index_or ms i d) (place_within p ms i e))
