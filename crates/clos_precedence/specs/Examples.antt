-- The examples of the standard (HyperSpec 4.3.5.2).
use Rattle.std.specs.Prelude.{◌≡◌, [], ◌∷◌, Some, None, slice_get, unwrap_or, refl}
use Rattle.clos_precedence.specs.Precedence.{Supers, precedence_list}

-- T, STANDARD-OBJECT, FOOD, FRUIT, SPICE, APPLE, CINNAMON, PIE, and NEW-CLASS
abbrev food : Supers
food n = unwrap_or (slice_get ([] ∷ (0 ∷ []) ∷ (1 ∷ []) ∷ (2 ∷ []) ∷ (2 ∷ []) ∷ (3 ∷ []) ∷ (4 ∷ []) ∷ (5 ∷ 6 ∷ []) ∷ (3 ∷ 5 ∷ []) ∷ []) n) []

pie : precedence_list food 7 (7 ∷ 5 ∷ 6 ∷ 3 ∷ 4 ∷ 2 ∷ 1 ∷ 0 ∷ []) ≡ Some (7 ∷ 5 ∷ 3 ∷ 6 ∷ 4 ∷ 2 ∷ 1 ∷ 0 ∷ [])
pie = refl

-- FRUIT before APPLE, which is a fruit
new_class : precedence_list food 8 (8 ∷ 3 ∷ 5 ∷ 2 ∷ 1 ∷ 0 ∷ []) ≡ None
new_class = refl
