-- What is kept, and how many outcomes were built, as one key after another is asked for: what is not kept is built, and then kept.
use Rattle.std.specs.Prelude.{◌≡◌, ℕ, ◌+◌, ◌≤◌, min, List, [], ◌∷◌, Bool, ◌||◌, length, if◌then◌else◌}
use Rattle.std.specs.List.{list_any}
use Rattle.clos_cache.specs.Key.{Key, same_key}

-- whether an outcome is kept under a key
abbrev pub Kept : Type 0
Kept = Key → Bool

-- one more is
abbrev pub keeping : Key → Kept → Kept
keeping key kept other = same_key key other || kept other

-- the keys for which an outcome is built: the first use of each that is not kept
abbrev pub first_uses : Kept → List Key → List Key
first_uses kept [] = []
first_uses kept (key ∷ keys) = if kept key then first_uses kept keys else key ∷ first_uses (keeping key kept) keys

-- what is kept, and how many were built so far, of which so many are counted at most
pub record Uses : Type 0 where
  pub kept : Kept
  pub built : ℕ

-- after one more key was asked for
abbrev pub with_use : ℕ → Key → Uses → Uses
with_use most key u = if u.kept key then u else record { kept = keeping key u.kept; built = min (u.built + 1) most }

-- after these uses, in order
abbrev pub after : ℕ → List Key → Uses → Uses
after most [] u = u
after most (key ∷ keys) u = after most keys (with_use most key u)

-- Kept is what was kept, and what was asked for; built is one for each first use, and no more are counted than that most.
abbrev pub CountsFirstUses : Type 0
CountsFirstUses = (most : ℕ) (keys : List Key) (u : Uses) → u.built ≤ most
    → ((key : Key) → (after most keys u).kept key ≡ (u.kept key || list_any (λ k. same_key k key) keys))
    × ((after most keys u).built ≡ min (u.built + length (first_uses u.kept keys)) most)
