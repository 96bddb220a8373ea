-- The way up from a class: those above it, each with the place of one that names it.
use Rattle.std.specs.Prelude.{◌≡◌, ℕ, ◌<◌, Bool, true, List, [], ◌∷◌, ◌++◌, Option, Some, None, if◌then◌else◌, length, slice_get}
use Rattle.std.specs.List.{list_any}
use Rattle.lisp_data.specs.Name.{Name, same_name}
use Rattle.clos_circle.specs.declared.upward.Upward.{Upward}

abbrev pub is_among : List Name → Name → Bool
is_among names x = list_any (same_name x) names

-- classes, and of each the place of one below it
abbrev pub Found : Type 0
Found = List Name × List ℕ

abbrev pub found_in : Upward → Found
found_in u = (u.names.items, u.below.items)

-- with this one above the class at this place, if it is not there
abbrev pub with_one : Name → ℕ → Found → Found
with_one x place u = if is_among u.0 x then u else (u.0 ++ x ∷ [], u.1 ++ place ∷ [])

abbrev pub with_all : List Name → ℕ → Found → Found
with_all [] place u = u
with_all (x ∷ xs) place u = with_all xs place (with_one x place u)

abbrev pub above_of : (Name → List Name) → Option Name → List Name
above_of f None = []
above_of f (Some y) = f y

module _ (f : Name → List Name) where
  -- at this place stands one that is below this class, before this place
  pub record IsStep (u : Found) (i : ℕ) (x : Name) : Type 0 where
    pub place : ℕ
    pub name : Name
    pub at : slice_get u.1 i ≡ Some place
    pub before : place < i
    pub there : slice_get u.0 place ≡ Some name
    pub above : is_among (f name) x ≡ true

  -- from each class the places lead down to the first one
  pub record IsWay (first : Name) (u : Found) : Type 0 where
    pub begins : slice_get u.0 0 ≡ Some first
    pub as_many : length u.1 ≡ length u.0
    pub step : (i : ℕ) (x : Name) → 0 < i → slice_get u.0 i ≡ Some x → IsStep u i x

  -- all that are above the first so many are there
  abbrev pub HasAbove : ℕ → List Name → Type 0
  HasAbove n names = (i : ℕ) (y : Name) → i < n → slice_get names i ≡ Some y → (x : Name) → is_among (f y) x ≡ true → is_among names x ≡ true

  -- all that are above the class, and itself
  pub record IsUpward (first : Name) (u : Found) : Type 0 where
    pub way : IsWay first u
    pub all : HasAbove (length u.0) u.0

  -- the class at this place names the first one
  abbrev pub Closes : Name → List Name → ℕ → Type 0
  Closes first names place = (place < length names) × ((y : Name) → slice_get names place ≡ Some y → is_among (f y) first ≡ true)
