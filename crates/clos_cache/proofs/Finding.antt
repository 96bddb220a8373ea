-- What is found by the index and what is found in the list are one.
use Rattle.std.proofs.Common.{◌≡◌, ℕ, zero, suc, Bool, true, false, cond, List, [], ◌∷◌, Option, Some, None, option_map, refl, ap, subst, ◌∙◌, sym, true≢false, IsSome}
use Rattle.std.specs.List.{slice_get}
use Rattle.std.specs.Map.{lookup}
use Rattle.slab.specs.Slab.{Slab, get}
use Rattle.clos_cache.specs.Cache.{Kept, found}
use Rattle.clos_cache.specs.CacheView.{AreThere, kept_in, kept_of, with_entry}
use Rattle.clos_cache.specs.Key.{Key, same_key}
use Rattle.clos_cache.specs.declared.cache.Entry.{Entry}
use Rattle.clos_cache.proofs.Places.{looked_up}

module _ {T : Type 0} where
  -- what an entry at this place keeps
  abbrev pub at : Slab (Entry T) → Option ℕ → Option (Kept T)
  at entries None = None
  at entries (Some p) = option_map kept_of (get entries p)

  at_either : (entries : Slab (Entry T)) (b : Bool) (p : ℕ) (o : Option ℕ)
      → at entries (cond b (Some p) o) ≡ cond b (option_map kept_of (get entries p)) (at entries o)
  at_either entries true p o = refl
  at_either entries false p o = refl

  found_first : (q k : Key) (x : Option (Entry T)) (rest : List (Key × Kept T)) (r : Option (Kept T)) → IsSome x → found rest q ≡ r
      → found (with_entry k x rest) q ≡ cond (same_key q k) (option_map kept_of x) r
  found_first q k (Some e) rest r h p = ap (cond (same_key q k) (Some (kept_of e))) p
  found_first q k None rest r h p = absurd (true≢false (sym h))

  pub found_in : (es : List (Key × ℕ)) (entries : Slab (Entry T)) (q : Key) → AreThere es entries
      → found (kept_in es entries) q ≡ at entries (lookup (same_key q) es)
  found_in [] entries q there = refl
  found_in (e ∷ es) entries q there =
      found_first q e.0 (get entries e.1) (kept_in es entries) (at entries (lookup (same_key q) es)) (there 0 e refl)
      (found_in es entries q (λ i f h. there (suc i) f h))
      ∙ sym (at_either entries (same_key q e.0) e.1 (lookup (same_key q) es))

  pub there_at : (es : List (Key × ℕ)) (entries : Slab (Entry T)) (test : Key → Bool) (p : ℕ) → AreThere es entries
      → lookup test es ≡ Some p
      → IsSome (get entries p)
  there_at es entries test p there h =
      let a = looked_up test es p h in subst (λ q. IsSome (get entries q)) a.is (there a.place a.entry a.there)

  key_first : (e : Key × ℕ) (x : Option (Entry T)) (rest : List (Key × Kept T)) (es : List (Key × ℕ)) (i : ℕ) → IsSome x
      → ((j : ℕ) → option_map (λ k. k.0) (slice_get rest j) ≡ option_map (λ f. f.0) (slice_get es j))
      → option_map (λ k. k.0) (slice_get (with_entry e.0 x rest) i) ≡ option_map (λ f. f.0) (slice_get (e ∷ es) i)
  key_first e (Some x) rest es zero h r = refl
  key_first e (Some x) rest es (suc i) h r = r i
  key_first e None rest es i h r = absurd (true≢false (sym h))

  -- the key at a place of all that is kept is the one at that place of the index
  pub key_at : (es : List (Key × ℕ)) (entries : Slab (Entry T)) (i : ℕ) → AreThere es entries
      → option_map (λ k. k.0) (slice_get (kept_in es entries) i) ≡ option_map (λ f. f.0) (slice_get es i)
  key_at [] entries i there = refl
  key_at (e ∷ es) entries i there = key_first e (get entries e.1) (kept_in es entries) es i (there 0 e refl)
      (λ j. key_at es entries j (λ k f h. there (suc k) f h))
