-- Applicable methods with what decides between them.
use Rattle.std.specs.Prelude.{◌≡◌, ℕ, true, List, [], ◌∷◌, map, if◌then◌else◌}
use Rattle.clos_method.specs.Applicable.{all_fit, specializers_of}
use Rattle.clos_method.specs.Arguments.{Argument}
use Rattle.clos_method.specs.Order.{ordered}
use Rattle.clos_method.specs.declared.method.Method.{Method}
use Rattle.clos_method.specs.declared.order.Ranked.{Ranked}
use Rattle.clos_method.specs.inner.Ranks.{is_lower, ranks_of}

abbrev pub ranked_numbers : List Ranked → List ℕ
ranked_numbers rs = map (λ r. r.id.0) rs

-- a method at its place among ordered ones
abbrev pub placed_in : Ranked → List Ranked → List Ranked
placed_in m [] = m ∷ []
placed_in m (n ∷ ns) = if is_lower n.ranks.items m.ranks.items then n ∷ placed_in m ns else m ∷ n ∷ ns

module _ (methods : List Method) (order : List ℕ) (args : List Argument) where
  -- it is applicable, and these are its ranks
  abbrev pub IsRanked : Ranked → Type 0
  IsRanked r = (all_fit args (specializers_of methods r.id.0) ≡ true) × (r.ranks.items ≡ ranks_of order args (specializers_of methods r.id.0))

  abbrev pub AreRanked : List Ranked → Type 0
  AreRanked [] = Unit {0}
  AreRanked (r ∷ rs) = IsRanked r × AreRanked rs

  -- they are those of some candidates that are applicable, in order
  abbrev pub RanksOf : List ℕ → List Ranked → Type 0
  RanksOf candidates rs = (ranked_numbers rs ≡ ordered methods order args candidates) × AreRanked rs
