-- What a `Cache` keeps: the index has the place of each key's entry.
use Rattle.std.specs.Prelude.{◌≡◌, ℕ, List, [], ◌∷◌, Option, Some, None, IsSome, length, slice_get}
use Rattle.slab.specs.Slab.{Slab, get, slab_len}
use Rattle.clos_cache.specs.Key.{Key}
use Rattle.clos_cache.specs.Cache.{Kept}
use Rattle.clos_cache.specs.declared.cache.Entry.{Entry}

module _ {T : Type 0} where
  -- what an entry keeps
  abbrev pub kept_of : Entry T → Kept T
  kept_of e = record { combination = e.combination; outcome = e.outcome.value }

  -- a key with its entry, before others
  abbrev pub with_entry : Key → Option (Entry T) → List (Key × Kept T) → List (Key × Kept T)
  with_entry key None rest = rest
  with_entry key (Some e) rest = (key, kept_of e) ∷ rest

  -- what is kept in all, in the order of the index
  abbrev pub kept_in : List (Key × ℕ) → Slab (Entry T) → List (Key × Kept T)
  kept_in [] entries = []
  kept_in (e ∷ es) entries = with_entry e.0 (get entries e.1) (kept_in es entries)

  -- there is an entry at each place of the index
  abbrev pub AreThere : List (Key × ℕ) → Slab (Entry T) → Type 0
  AreThere es entries = (i : ℕ) (e : Key × ℕ) → slice_get es i ≡ Some e → IsSome (get entries e.1)

  -- and none besides
  abbrev pub AsMany : List (Key × ℕ) → Slab (Entry T) → Type 0
  AsMany es entries = slab_len entries ≡ length es

-- no place of the index is another's
abbrev pub AreApart : List (Key × ℕ) → Type 0
AreApart es = (i j : ℕ) (e f : Key × ℕ) → slice_get es i ≡ Some e → slice_get es j ≡ Some f → e.1 ≡ f.1 → i ≡ j

-- The index and the entries fit each other.
pub record Indexes {T : Type 0} (es : List (Key × ℕ)) (entries : Slab (Entry T)) : Type 0 where
  pub there : AreThere es entries
  pub apart : AreApart es
  pub as_many : AsMany es entries
