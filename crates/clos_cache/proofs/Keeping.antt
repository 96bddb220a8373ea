-- What an outcome more does to what is kept.
use Rattle.std.proofs.Common.{◌+◌, arith, length-append, ◌≡◌, ◌≢◌, ◌⊎◌, inl, inr, ℕ, Bool, true, false, cond, List, [], ◌∷◌, ◌++◌, length, Option, Some, None, IsSome, option_map, refl, ap, subst, ◌∙◌, sym, true≢false, eqb-true, eq-eqb, ◌==◌, is_some}
use Rattle.std.specs.Prelude.{if◌then◌else◌}
use Rattle.std.specs.List.{slice_get}
use Rattle.std.specs.Map.{lookup}
use Rattle.std.proofs.lemmas.Option.{none-some}
use Rattle.indexmap.specs.IndexMap.{insert_entry}
use Rattle.slab.specs.Slab.{Slab, Updates, get, slab_len}
use Rattle.clos_cache.specs.Cache.{Keeps, found}
use Rattle.clos_cache.specs.CacheView.{AreApart, AreThere, AsMany, Indexes, kept_in, kept_of, with_entry}
use Rattle.clos_cache.specs.Key.{Key, same_key}
use Rattle.clos_cache.specs.KeyLaws.{same_key-Decides}
use Rattle.clos_cache.specs.declared.cache.Entry.{Entry}
use Rattle.clos_cache.proofs.Finding.{at, found_in}
use Rattle.clos_cache.proofs.Places.{looked_up, one_key, pushed}

added_to : (e : Key × ℕ) (es more : List (Key × ℕ)) (key : Key) (p : ℕ) (b : Bool) → same_key key e.0 ≡ b
    → cond b (Some e.1) (lookup (same_key key) es) ≡ None
    → (lookup (same_key key) es ≡ None → more ≡ es ++ (key, p) ∷ [])
    → (if b then (e.0, p) ∷ es else e ∷ more) ≡ e ∷ (es ++ (key, p) ∷ [])
added_to e es more key p true t h rest = absurd (none-some e.1 (sym h))
added_to e es more key p false t h rest = ap (λ l. e ∷ l) (rest h)

-- a key that is not there goes last
pub added : (es : List (Key × ℕ)) (key : Key) (p : ℕ) → lookup (same_key key) es ≡ None
    → insert_entry same_key es key p ≡ es ++ (key, p) ∷ []
added [] key p h = refl
added (e ∷ es) key p h = added_to e es (insert_entry same_key es key p) key p (same_key key e.0) refl h (added es key p)

module _ {T : Type 0} where
  -- a slab with the same entries keeps the same
  pub same_kept : (es : List (Key × ℕ)) (old new : Slab (Entry T)) → ((p : ℕ) → get new p ≡ get old p)
      → kept_in es new ≡ kept_in es old
  same_kept [] old new same = refl
  same_kept (e ∷ es) old new same = λ i. with_entry e.0 (same e.1 i) (same_kept es old new same i)

  pub still_there : (es : List (Key × ℕ)) (old new : Slab (Entry T)) → ((p : ℕ) → get new p ≡ get old p) → AreThere es old
      → AreThere es new
  still_there es old new same there i e h = subst IsSome (sym (same e.1)) (there i e h)

  -- ---- another entry at the place of a key

  module _ (es : List (Key × ℕ)) (old new : Slab (Entry T)) (key : Key) (p : ℕ) (x : Entry T) (there : AreThere es old)
      (apart : AreApart es)
      (here : lookup (same_key key) es ≡ Some p) (updates : Updates old new p (Some x)) where
    replaced_at : (q : ℕ) (b : Bool) → (p == q) ≡ b → IsSome (get old q) → IsSome (get new q)
    replaced_at q true t h = subst IsSome (sym updates.changed ∙ ap (get new) (eqb-true p q t)) refl
    replaced_at q false t h = subst IsSome (sym (updates.others q (λ e. true≢false (sym (eq-eqb p q (sym e)) ∙ t)))) h

    pub replaced_there : AreThere es new
    replaced_there i e h = replaced_at e.1 (p == e.1) refl (there i e h)

    replaced_for : (q : Key) (b : Bool) (o : Option ℕ) → same_key key q ≡ b → lookup (same_key q) es ≡ o
        → at new o ≡ (if b then Some (kept_of x) else at old o)
    replaced_for q true o t h =
        let same = ap (λ k. lookup (same_key k) es) ((same_key-Decides key q).0 t) in
        ap (at new) (sym h ∙ sym same ∙ here) ∙ ap (option_map kept_of) updates.changed
    replaced_for q false None t h = refl
    replaced_for q false (Some r) t h =
        ap (option_map kept_of)
        (updates.others r
        (λ e. true≢false (sym ((same_key-Decides key q).1 (one_key es apart key q p here (h ∙ ap Some e))) ∙ t)))

    pub replaced : Keeps key (kept_of x) (kept_in es old) (kept_in es new)
    replaced q =
        found_in es new q replaced_there
        ∙ replaced_for q (same_key key q) (lookup (same_key q) es) refl refl
        ∙ ap (λ o. if same_key key q then Some (kept_of x) else o) (sym (found_in es old q there))

  -- ---- a key more, with an entry more

  module _ (es more : List (Key × ℕ)) (old new : Slab (Entry T)) (key : Key) (p : ℕ) (x : Entry T) (there : AreThere es old)
      (apart : AreApart es)
      (last : more ≡ es ++ (key, p) ∷ []) (nowhere : get old p ≡ None) (updates : Updates old new p (Some x)) where
    -- the place is no other key's
    no_other : (i : ℕ) (e : Key × ℕ) → slice_get es i ≡ Some e → e.1 ≢ p
    no_other i e h q = true≢false (sym (there i e h) ∙ ap is_some (ap (get old) q ∙ nowhere))

    pushed_to : (i : ℕ) (e : Key × ℕ) → slice_get more i ≡ Some e → (slice_get es i ≡ Some e) ⊎ ((i ≡ length es) × ((key, p) ≡ e))
    pushed_to i e h = pushed es (key, p) e i (subst (λ l. slice_get l i ≡ Some e) last h)

    pub kept_there : AreThere more new
    kept_there i e h =
        elim (pushed_to i e h) [
          | inl k ↦ subst IsSome (sym (updates.others e.1 (no_other i e k))) (there i e k)
          | inr k ↦ subst IsSome (sym updates.changed ∙ ap (λ (f : Key × ℕ). get new f.1) k.1) refl
        ]

    pub kept_apart : AreApart more
    kept_apart i j e f h k same =
        elim (pushed_to i e h) [
          | inl a ↦ elim (pushed_to j f k) [
            | inl b ↦ apart i j e f a b same
            | inr b ↦ absurd (no_other i e a (same ∙ sym (ap (λ (g : Key × ℕ). g.1) b.1)))
          ]
          | inr a ↦ elim (pushed_to j f k) [
            | inl b ↦ absurd (no_other j f b (sym same ∙ sym (ap (λ (g : Key × ℕ). g.1) a.1)))
            | inr b ↦ a.0 ∙ sym b.0
          ]
        ]

    module _ (looked : (q : Key) → lookup (same_key q) more ≡ cond (same_key key q) (Some p) (lookup (same_key q) es)) where
      kept_for : (q : Key) (b : Bool) (o : Option ℕ) → lookup (same_key q) es ≡ o
          → at new (cond b (Some p) o) ≡ (if b then Some (kept_of x) else at old o)
      kept_for q true o h = ap (option_map kept_of) updates.changed
      kept_for q false None h = refl
      kept_for q false (Some r) h =
          let a = looked_up (same_key q) es r h in
          ap (option_map kept_of) (updates.others r (λ e. no_other a.place a.entry a.there (a.is ∙ e)))

      pub kept : Keeps key (kept_of x) (kept_in es old) (kept_in more new)
      kept q =
          found_in more new q kept_there
          ∙ ap (at new) (looked q)
          ∙ kept_for q (same_key key q) (lookup (same_key q) es) refl
          ∙ ap (λ o. if same_key key q then Some (kept_of x) else o) (sym (found_in es old q there))

  -- .. after room was made for both
  module _ (es roomy more : List (Key × ℕ)) (first old new : Slab (Entry T)) (key : Key) (p : ℕ) (x : Entry T)
      (there : AreThere es first) (apart : AreApart es)
      (none : lookup (same_key key) es ≡ None) (same_index : roomy ≡ es) (same : (q : ℕ) → get old q ≡ get first q)
      (nowhere : get old p ≡ None)
      (updates : Updates old new p (Some x)) (last : more ≡ insert_entry same_key roomy key p)
      (looked : (q : Key) → lookup (same_key q) more ≡ cond (same_key key q) (Some p) (lookup (same_key q) roomy)) where
    at_end : more ≡ es ++ (key, p) ∷ []
    at_end = last ∙ ap (λ l. insert_entry same_key l key p) same_index ∙ added es key p none

    pub inserted_there : AreThere more new
    inserted_there = kept_there es more old new key p x (still_there es first old same there) apart at_end nowhere updates

    pub inserted_apart : AreApart more
    inserted_apart = kept_apart es more old new key p x (still_there es first old same there) apart at_end nowhere updates

    pub inserted : Keeps key (kept_of x) (kept_in es first) (kept_in more new)
    inserted q =
        kept es more old new key p x (still_there es first old same there) apart at_end nowhere updates
        (λ r. looked r ∙ ap (λ l. cond (same_key key r) (Some p) (lookup (same_key r) l)) same_index) q
        ∙ ap (λ k. if same_key key q then Some (kept_of x) else found k q) (same_kept es first old same)

    inserted_as_many : slab_len old ≡ slab_len first → slab_len new ≡ slab_len old + 1 → AsMany es first → AsMany more new
    inserted_as_many h k many = grind (arith, h, k, many, ap length at_end, length-append)

    pub inserted_fits : slab_len old ≡ slab_len first → slab_len new ≡ slab_len old + 1 → AsMany es first → Indexes more new
    inserted_fits h k many = record { there = inserted_there; apart = inserted_apart; as_many = inserted_as_many h k many }
