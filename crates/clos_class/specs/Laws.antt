-- Laws of layouts.
use Rattle.std.specs.Prelude.{◌≡◌, ◌↔◌, ℕ, true, List}
use Rattle.std.specs.List.{list_any}
use Rattle.std.specs.Map.{keys_of, lookup}
use Rattle.lisp_data.specs.Name.{Name, same_name}
use Rattle.clos_forms.specs.Distinct.{are_distinct}
use Rattle.clos_class.specs.Slots.{DirectSlots, Layout, allocation, cell_in, is_local, layout_of, same_layout}

-- A slot is local in the layout exactly where its most specific specifier makes it so, and shared, in the cell of that specifier,
-- exactly where that one does. So a name without a specifier is in neither.
abbrev pub PlacesSlots : Type 0
PlacesSlots = (of : DirectSlots) (l : List ℕ) (name : Name)
    → (list_any (same_name name) (layout_of of l).locals ≡ is_local (allocation of l name)) × (lookup (same_name name) (layout_of of l).shared ≡ cell_in (allocation of l name))

-- No slot stands twice in the layout.
abbrev pub HasNoneTwice : Type 0
HasNoneTwice = (of : DirectSlots) (l : List ℕ) → (are_distinct (layout_of of l).locals ≡ true) × (are_distinct (keys_of (layout_of of l).shared) ≡ true)

-- Two layouts are one exactly where their local names are the same in the same order, and each name has the same cell in both, or none.
abbrev pub TellsLayouts : Type 0
TellsLayouts = (a b : Layout) → (same_layout a b ≡ true) ↔ ((a.locals ≡ b.locals) × ((name : Name) → lookup (same_name name) a.shared ≡ lookup (same_name name) b.shared))
