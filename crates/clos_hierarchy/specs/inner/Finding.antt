-- What private functions answer on the way to what there is to say of classes.
use Rattle.std.specs.Prelude.{ℕ, Bool, List, [], ◌∷◌, ◌++◌}
use Rattle.std.specs.List.{list_any}
use Rattle.clos_hierarchy.specs.Classes.{Listing, is_lacking, is_broken, list_in}

abbrev pub any_lacking : (ℕ → Listing) → List ℕ → Bool
any_lacking of xs = list_any (λ x. is_lacking (of x)) xs

abbrev pub any_broken : (ℕ → Listing) → List ℕ → Bool
any_broken of xs = list_any (λ x. is_broken (of x)) xs

-- the lists of these, one after another
abbrev pub together : (ℕ → Listing) → List ℕ → List ℕ
together of [] = []
together of (x ∷ xs) = list_in (of x) ++ together of xs
