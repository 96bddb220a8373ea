-- Circles of classes, by the names of their direct superclasses.
use Rattle.std.specs.Prelude.{◌≡◌, ⊤, ℕ, Bool, true, false, ◌&&◌, ◌||◌, List, [], ◌∷◌, Option, Some, None, if◌then◌else◌}
use Rattle.std.specs.List.{list_any}
use Rattle.lisp_data.specs.Name.{Name, same_name}
use Rattle.clos_hierarchy.specs.Classes.{Classes, named, names_above}
use Rattle.clos_circle.specs.declared.precedence.Edge.{Edge}

-- ---- direct superclasses

abbrev pub above_class : Classes → Option ℕ → List Name
above_class cs None = []
above_class cs (Some n) = names_above cs n

-- those of the class of a name, where one more definition has these for its name
abbrev pub direct : Classes → Name → List Name → Name → List Name
direct cs name above n = if same_name name n then above else above_class cs (named cs n)

-- ---- circles of superclasses

-- each is a direct superclass of the one after it
abbrev pub leads_down : (Name → List Name) → List Name → Bool
leads_down f [] = true
leads_down f (x ∷ []) = true
leads_down f (x ∷ y ∷ ys) = list_any (same_name x) (f y) && leads_down f (y ∷ ys)

-- the last of these is this one
abbrev pub returns_to : Name → List Name → Bool
returns_to x [] = false
returns_to x (y ∷ []) = same_name y x
returns_to x (y ∷ z ∷ zs) = returns_to x (z ∷ zs)

-- each is a direct superclass of the one after it, and the first one stands once more at the end
abbrev pub is_circle : (Name → List Name) → List Name → Bool
is_circle f [] = false
is_circle f (x ∷ xs) = returns_to x xs && leads_down f (x ∷ xs)

-- This is one, or there is none that begins with this class.
abbrev pub FindsCircle : (Name → List Name) → Name → List Name → Type 0
FindsCircle f first [] = (names : List Name) → is_circle f (first ∷ names) ≡ false
FindsCircle f first (x ∷ xs) = is_circle f (x ∷ xs) ≡ true

-- ---- circles of classes that have to come before each other (HyperSpec 4.3.5)

-- one of these stands just before the other, after the class that names them or after it alone
abbrev pub are_next : Name → List Name → Name → Name → Bool
are_next x [] before after = false
are_next x (y ∷ ys) before after = (same_name x before && same_name y after) || are_next y ys before after

-- by what the class `by` names, it or one of its direct superclasses has to come before the next one of these
abbrev pub is_due : (Name → List Name) → Edge → Bool
is_due f e = are_next e.by (f e.by) e.before e.after

-- each begins where the one before it goes, up to this class
abbrev pub goes_on : (Name → List Name) → Name → Name → List Edge → Bool
goes_on f first now [] = same_name now first
goes_on f first now (e ∷ es) = (same_name e.before now && is_due f e) && goes_on f first e.after es

abbrev pub is_order_circle : (Name → List Name) → List Edge → Bool
is_order_circle f [] = false
is_order_circle f (e ∷ es) = is_due f e && goes_on f e.before e.after es

-- a class is above this one, or it itself
pub record IsAbove (f : Name → List Name) (name x : Name) : Type 0 where
  pub between : List Name
  pub leads : leads_down f (x ∷ between) ≡ true
  pub ends : returns_to name (x ∷ between) ≡ true

-- each is by what such a class names
abbrev pub AreByAbove : (Name → List Name) → Name → List Edge → Type 0
AreByAbove f name [] = ⊤
AreByAbove f name (e ∷ es) = IsAbove f name e.by × AreByAbove f name es

-- This is one, or there is none by what this class and those above it name.
abbrev pub FindsOrderCircle : (Name → List Name) → Name → List Edge → Type 0
FindsOrderCircle f name [] = (edges : List Edge) → AreByAbove f name edges → is_order_circle f edges ≡ false
FindsOrderCircle f name (e ∷ es) = is_order_circle f (e ∷ es) ≡ true
