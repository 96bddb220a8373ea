-- A session's classes with what they say of slots, and how one more is defined (HyperSpec 7.5.3, 7.7 defclass).
use Rattle.std.specs.Prelude.{ℕ, zero, suc, ◌+◌, nat_lt, Bool, true, false, not, ◌&&◌, List, [], ◌∷◌, ◌++◌, Option, Some, None, is_some, map, unwrap_or, length, position, replicate, slice_get, slice_set, if◌then◌else◌}
use Rattle.std.specs.List.{filter, list_any}
use Rattle.std.specs.Option.{option_or}
use Rattle.lisp_data.specs.Name.{Name, same_name}
use Rattle.lisp_data.specs.declared.ids.CellId.{CellId}
use Rattle.clos_forms.specs.Distinct.{are_distinct}
use Rattle.clos_defclass.specs.Names.{default_names, slot_names}
use Rattle.clos_defclass.specs.declared.class.ClassDefinition.{ClassDefinition}
use Rattle.clos_defclass.specs.declared.slot.Allocation.{Allocation}
use Rattle.clos_defclass.specs.declared.slot.Allocation.TheVariants.{Instance, Class}
use Rattle.clos_defclass.specs.declared.slot.SlotSpecifier.{SlotSpecifier}
use Rattle.clos_hierarchy.specs.Classes.{Classes, list_in, listing, number_of, with_class}
use Rattle.clos_hierarchy.specs.Table.{Refusal, or_else, or_standard, program_error, refusal as refusal_by_names, when}
use Rattle.clos_hierarchy.specs.Table.{Table as NameTable}
use Rattle.clos_class.specs.declared.direct.ClassSlots.{ClassSlots}
use Rattle.clos_hierarchy.specs.Initial.{initial as predefined_only, predefined}
use Rattle.clos_class.specs.declared.reserve.NewCell.{NewCell}
use Rattle.clos_class.specs.Slots.{accessible, allocation, cell_in, initform}
use Rattle.clos_class.specs.SlotsView.{direct_slot, direct_slots, says_nothing}

pub record Table : Type 0 where
  pub table : NameTable  -- the classes by their names, with their superclasses
  pub slots : List ClassSlots  -- of each class what it says of slots

-- ---- what is wrong

abbrev pub is_shared : Allocation → Bool
is_shared Instance = false
is_shared Class = true

abbrev pub has_shared_slots : List SlotSpecifier → Bool
has_shared_slots ss = list_any (λ s. is_shared s.allocation) ss

-- no slot and no default initarg stands twice
abbrev pub is_unambiguous : ClassDefinition → Bool
is_unambiguous d = are_distinct (slot_names d.slots) && are_distinct (default_names d.defaults)

-- why a class can't be defined; one with shared slots has to be complete
abbrev pub refusal : NameTable → ClassDefinition → Option Refusal
refusal t d = or_else (when (not (is_unambiguous d)) program_error) (refusal_by_names t d.name (or_standard d.superclasses) (has_shared_slots d.slots))

-- ---- the class

abbrev pub number : NameTable → ClassDefinition → ℕ
number t d = number_of t.classes d.name

abbrev pub classes_with : NameTable → ClassDefinition → Classes
classes_with t d = with_class t.classes d.name (or_standard d.superclasses)

-- the class precedence list that it has then
abbrev pub list_with : NameTable → ClassDefinition → List ℕ
list_with t d = list_in (listing (classes_with t d) (number t d))

-- ---- its slots

-- the cell of a slot that this class itself makes shared
abbrev pub own_cell : List ClassSlots → ℕ → Name → Option CellId
own_cell rows n name = cell_in (allocation (direct_slots rows) (n ∷ []) name)

abbrev pub cell_at : List CellId → Option ℕ → Option CellId
cell_at cells None = None
cell_at cells (Some i) = slice_get cells i

abbrev pub no_cell : CellId
no_cell = record { 0 = 0 }

-- the cell that the class has for a slot, or else the one in its place among the new ones
abbrev pub cell_for : (Name → Option CellId) → List Name → List CellId → Name → CellId
cell_for own new cells name = unwrap_or (option_or (own name) (cell_at cells (position (same_name name) new))) no_cell

abbrev pub said : (Name → CellId) → ClassDefinition → ClassSlots
said cell d = record { slots = map (λ s. direct_slot s (cell s.name)) d.slots; defaults = d.defaults }

-- with what a class says in its place; a new one comes last
abbrev pub with_row : List ClassSlots → ℕ → ClassSlots → List ClassSlots
with_row rows n row = if nat_lt n (length rows) then slice_set rows n row else rows ++ row ∷ []

-- what all classes say where a class says this, its slots in these new cells
abbrev pub rows_with : List ClassSlots → ℕ → ClassDefinition → List Name → List CellId → List ClassSlots
rows_with rows n d new cells = with_row rows n (said (cell_for (own_cell rows n) new cells) d)

-- whether a slot of this name is made shared for which the class has no cell
abbrev pub needs_cell : (Name → Option CellId) → List SlotSpecifier → Name → Bool
needs_cell own ss name = list_any (λ s. same_name name s.name && (is_shared s.allocation && not (is_some (own s.name)))) ss

-- the slots that need new cells, in layout order
abbrev pub new_cells : List ClassSlots → ℕ → List ℕ → ClassDefinition → List Name
new_cells rows n l d = filter (needs_cell (own_cell rows n) d.slots) (accessible (direct_slots (rows_with rows n d [] [])) l)

-- so many cells, numbered from this one on
abbrev pub cells_from : ℕ → ℕ → List CellId
cells_from first zero = []
cells_from first (suc n) = cells_from first n ++ (record { 0 = first + n }) ∷ []

-- what a class with this class precedence list says: a shared slot keeps its cell, and the new cells are numbered from this one on, in
-- layout order
abbrev pub said_from : List ClassSlots → ℕ → List ℕ → ClassDefinition → ℕ → ClassSlots
said_from rows n l d first = said (cell_for (own_cell rows n) (new_cells rows n l d) (cells_from first (length (new_cells rows n l d)))) d

-- the classes after this definition, whose new cells are numbered from this one on
abbrev pub with_definition : Table → ClassDefinition → ℕ → Table
with_definition t d first = record {
  table = record t.table { classes = classes_with t.table d };
  slots = with_row t.slots (number t.table d) (said_from t.slots (number t.table d) (list_with t.table d) d first);
}

-- ---- what is told before it is defined

-- each slot that needs a new cell, with its initform
abbrev pub cells_to_make : List ClassSlots → ℕ → List ℕ → ClassDefinition → List NewCell
cells_to_make rows n l d = map (λ name. record { slot = name; initform = initform (direct_slots (rows_with rows n d [] [])) l name }) (new_cells rows n l d)

-- ---- from the start

abbrev pub initial : ℕ → Table
initial limit = record { table = predefined_only limit; slots = replicate (length predefined.names) says_nothing }
