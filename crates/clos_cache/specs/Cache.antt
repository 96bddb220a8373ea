-- What is kept, and what a change concerns.
use Rattle.std.specs.Prelude.{◌≡◌, ℕ, List, [], ◌∷◌, Bool, ◌==◌, nat_eq, Option, Some, None, if◌then◌else◌}
use Rattle.std.specs.List.{list_any}
use Rattle.std.specs.Map.{lookup}
use Rattle.lisp_data.specs.Name.{Name, same_name}
use Rattle.clos_cache.specs.Key.{Argument, Key, same_key}

-- an outcome, and the name of the method combination under which it was built
pub record Kept (T : Type 0) : Type 0 where
  pub combination : Name
  pub outcome : T

-- what is kept under a key
abbrev pub found : {T : Type 0} → List (Key × Kept T) → Key → Option (Kept T)
found kept key = lookup (same_key key) kept

-- a change of definitions, by what it is of
pub data Change : Type 0 where
  of_generic : ℕ → Change  -- of a generic function, or of its methods
  of_combination : Name → Change  -- of the method combination of this name
  of_classes : List ℕ → Change  -- of the precedence lists of these classes

-- whether one of the arguments is of one of these classes
abbrev pub has_class : List ℕ → List Argument → Bool
has_class classes arguments = list_any (λ a. list_any (nat_eq a.class) classes) arguments

-- whether it concerns what is kept under a key
abbrev pub concerns : {T : Type 0} → Change → Key → Kept T → Bool
concerns (of_generic g) key k = key.generic == g
concerns (of_combination name) key k = same_name name k.combination
concerns (of_classes classes) key k = has_class classes key.arguments

-- this is kept under this key, and all else as it was
abbrev pub Keeps : {T : Type 0} → Key → Kept T → List (Key × Kept T) → List (Key × Kept T) → Type 0
Keeps key k old new = (other : Key) → found new other ≡ (if same_key key other then Some k else found old other)

-- what is left under a key after a change
abbrev pub left_of : {T : Type 0} → Change → Key → Option (Kept T) → Option (Kept T)
left_of change key None = None
left_of change key (Some k) = if concerns change key k then None else Some k

-- what the change concerns is dropped, and nothing else
abbrev pub Drops : {T : Type 0} → Change → List (Key × Kept T) → List (Key × Kept T) → Type 0
Drops change old new = (key : Key) → found new key ≡ left_of change key (found old key)

-- what is left under a key after these changes, in order
abbrev pub left_after : {T : Type 0} → List Change → Key → Option (Kept T) → Option (Kept T)
left_after [] key o = o
left_after (change ∷ changes) key o = left_after changes key (left_of change key o)

-- what these changes concern is dropped, and nothing else
abbrev pub DropsAll : {T : Type 0} → List Change → List (Key × Kept T) → List (Key × Kept T) → Type 0
DropsAll changes old new = (key : Key) → found new key ≡ left_after changes key (found old key)
