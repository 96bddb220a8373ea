-- What a `Change` of the code is, and what it concerns in the index.
use Rattle.std.specs.Prelude.{◌≡◌, ℕ, List, map, Bool, true, false, Option, Some, None, slice_get}
use Rattle.std.specs.Map.{lookup}
use Rattle.lisp_data.specs.declared.ids.ClassId.{ClassId}
use Rattle.slab.specs.Slab.{Slab, get}
use Rattle.clos_cache.specs.Cache.{Change, concerns, of_classes, of_combination, of_generic}
use Rattle.clos_cache.specs.CacheView.{kept_of}
use Rattle.clos_cache.specs.Key.{Key, same_key}
use Rattle.clos_cache.specs.declared.cache.Entry.{Entry}
use Rattle.clos_cache.specs.declared.change.Change as of_code
use Rattle.clos_cache.specs.declared.change.Change.TheVariants.{Generic, Combination, Classes}

-- the numbers of these classes
abbrev pub numbers_of : List ClassId → List ℕ
numbers_of classes = map (λ c. c.0) classes

-- what a change of the code's stands for
abbrev pub change_of : of_code.Change → Change
change_of (Generic g) = of_generic g.0
change_of (Combination name) = of_combination name.now
change_of (Classes classes) = of_classes (numbers_of classes.now)

module _ {T : Type 0} where
  -- whether it concerns this entry, where there is one
  abbrev pub concerns_entry : Change → Key → Option (Entry T) → Bool
  concerns_entry change key None = false
  concerns_entry change key (Some x) = concerns change key (kept_of x)

  -- whether it concerns the entry to which a place of the index points
  abbrev pub concerns_place : Change → Slab (Entry T) → Option (Key × ℕ) → Bool
  concerns_place change entries None = false
  concerns_place change entries (Some e) = concerns_entry change e.0 (get entries e.1)

  -- whether it concerns what the index has at this place of its own
  abbrev pub concerned_at : Change → List (Key × ℕ) → Slab (Entry T) → ℕ → Bool
  concerned_at change es entries i = concerns_place change entries (slice_get es i)

  -- what is there, where it does
  pub record ConcernedAt (change : Change) (es : List (Key × ℕ)) (entries : Slab (Entry T)) (i : ℕ) : Type 0 where
    pub key : Key
    pub place : ℕ
    pub entry : Entry T
    pub there : slice_get es i ≡ Some (key, place)
    pub first : lookup (same_key key) es ≡ Some place
    pub holds : get entries place ≡ Some entry
    pub concerned : concerns change key (kept_of entry) ≡ true
