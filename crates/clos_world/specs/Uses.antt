-- What is kept of calls, and how many effective methods were worked out.
use Rattle.std.specs.Prelude.{◌≡◌, ◌⊎◌, ℕ, ◌+◌, min, is_some, List}
use Rattle.clos_cache.specs.Cache.{Kept, found}
use Rattle.clos_cache.specs.Key.{Key}
use Rattle.clos_cache.specs.Uses.{Uses}
use Rattle.clos_world.specs.declared.effective_method.EffectiveMethod.{EffectiveMethod}
use Rattle.clos_world.specs.declared.tables.World.{World}

abbrev pub uses_in : List (Key × Kept EffectiveMethod) → ℕ → Uses
uses_in kept built = record { kept = λ key. is_some (found kept key); built = built }

abbrev pub uses_of : World → Uses
uses_of w = uses_in w.cache w.meter

-- Where memory is refused, nothing more is kept, and at most one more was worked out; so many are counted at most.
pub record AtMostOneMore (most : ℕ) (old new : Uses) : Type 0 where
  pub kept : new.kept ≡ old.kept
  pub built : (new.built ≡ old.built) ⊎ (new.built ≡ min (old.built + 1) most)
