-- The slots of a class, by its class precedence list (HyperSpec 4.3.4, 7.5.3). Classes are known by their numbers, and the most
-- specific one stands first in the list.
use lib.Pointwise.{pointwise}
use Rattle.std.specs.Prelude.{ℕ, ◌==◌, ◌&&◌, List, [], ◌∷◌, Bool, true, false, not, Option, Some, None, map, option_map, reverse}
use Rattle.std.specs.List.{filter, filter_map, flat_map, list_all}
use Rattle.std.specs.Map.{keys_of, lookup}
use Rattle.lisp_data.specs.Name.{Name, same_name}
use Rattle.lisp_data.specs.declared.ids.CellId.{CellId}
use Rattle.clos_forms.specs.Form.{Form}
use Rattle.clos_defclass.specs.declared.class.DefaultInitarg.{DefaultInitarg}
use Rattle.clos_class.specs.declared.direct.DirectSlot.{DirectSlot}
use Rattle.clos_class.specs.declared.direct.SlotAllocation.{SlotAllocation}
use Rattle.clos_class.specs.declared.direct.SlotAllocation.TheVariants.{Local, Shared}
use Rattle.clos_class.specs.declared.effective_slots.EffectiveSlot.{EffectiveSlot}

-- of each class its direct slots, in written order
abbrev pub DirectSlots : Type 0
DirectSlots = ℕ → List DirectSlot

-- of each class its default initargs, in written order
abbrev pub Defaults : Type 0
Defaults = ℕ → List DefaultInitarg

abbrev pub first : {X : Type 0} → List X → Option X
first [] = None
first (x ∷ xs) = Some x

-- of those that have one name, the first
abbrev pub first_of_each : {X : Type 0} → (X → Name) → List X → List X
first_of_each name [] = []
first_of_each name (x ∷ xs) = x ∷ filter (λ y. not (same_name (name x) (name y))) (first_of_each name xs)

-- names, each where it stands first
abbrev pub distinct : List Name → List Name
distinct ns = first_of_each (λ n. n) ns

-- ---- one slot

-- the slots of this name
abbrev pub called : Name → List DirectSlot → List DirectSlot
called name ss = filter (λ s. same_name name s.name) ss

-- the specifiers of a slot: the direct slots of this name of all classes of the list, the most specific first
abbrev pub specifiers : DirectSlots → List ℕ → Name → List DirectSlot
specifiers of l name = called name (flat_map of l)

-- the allocation is that of the most specific specifier
abbrev pub first_allocation : List DirectSlot → Option SlotAllocation
first_allocation ss = option_map (λ s. s.allocation) (first ss)

abbrev pub allocation : DirectSlots → List ℕ → Name → Option SlotAllocation
allocation of l name = first_allocation (specifiers of l name)

abbrev pub cell_in : Option SlotAllocation → Option CellId
cell_in None = None
cell_in (Some Local) = None
cell_in (Some (Shared c)) = Some c

-- the initform is that of the most specific specifier that has one
abbrev pub first_initform : List DirectSlot → Option Form
first_initform ss = first (filter_map (λ s. s.initform) ss)

abbrev pub initform : DirectSlots → List ℕ → Name → Option Form
initform of l name = first_initform (specifiers of l name)

-- the initargs are those of all specifiers
abbrev pub initargs : DirectSlots → List ℕ → Name → List Name
initargs of l name = distinct (flat_map (λ s. s.initargs) (specifiers of l name))

-- ---- default initargs: those of all classes of the list, for each name that of the most specific class

abbrev pub default_initargs : Defaults → List ℕ → List DefaultInitarg
default_initargs of l = first_of_each (λ d. d.name) (flat_map of l)

-- ---- layouts

abbrev pub names : List DirectSlot → List Name
names ss = map (λ s. s.name) ss

-- the accessible slots in layout order: from the last class of the list to the first, each slot where it stands first
abbrev pub accessible : DirectSlots → List ℕ → List Name
accessible of l = distinct (names (flat_map of (reverse l)))

-- the local slots, and the shared ones with their cells, both in layout order
pub record Layout : Type 0 where
  pub locals : List Name
  pub shared : List (Name × CellId)

abbrev pub is_local : Option SlotAllocation → Bool
is_local None = false
is_local (Some Local) = true
is_local (Some (Shared c)) = false

abbrev pub shared_in : Name → Option SlotAllocation → Option (Name × CellId)
shared_in name None = None
shared_in name (Some Local) = None
shared_in name (Some (Shared c)) = Some (name, c)

abbrev pub layout_of : DirectSlots → List ℕ → Layout
layout_of of l = record {
  locals = filter (λ n. is_local (allocation of l n)) (accessible of l);
  shared = filter_map (λ n. shared_in n (allocation of l n)) (accessible of l);
}

-- ---- whether two layouts are one: the local slots are compared in order, the shared ones as a map from names to cells

abbrev pub same_names : List Name → List Name → Bool
same_names = pointwise same_name

abbrev pub same_cell : Option CellId → Option CellId → Bool
same_cell None None = true
same_cell None (Some d) = false
same_cell (Some c) None = false
same_cell (Some c) (Some d) = c.0 == d.0

-- whether a name has the same cell in both, or none in both
abbrev pub agrees_on : List (Name × CellId) → List (Name × CellId) → Name → Bool
agrees_on a b name = same_cell (lookup (same_name name) a) (lookup (same_name name) b)

-- whether all names of both do
abbrev pub same_cells : List (Name × CellId) → List (Name × CellId) → Bool
same_cells a b = list_all (agrees_on a b) (keys_of a) && list_all (agrees_on a b) (keys_of b)

abbrev pub same_layout : Layout → Layout → Bool
same_layout a b = same_names a.locals b.locals && same_cells a.shared b.shared

-- ---- effective slots (AMOP 5.4): the accessible slots, as the instances of a class have them

-- a shared slot has a cell
abbrev pub effective_slot : DirectSlots → List ℕ → Name → EffectiveSlot
effective_slot of l name = record { name = name; cell = cell_in (allocation of l name); initargs = initargs of l name; initform = initform of l name }

-- in layout order
abbrev pub effective_slots : DirectSlots → List ℕ → List EffectiveSlot
effective_slots of l = map (effective_slot of l) (accessible of l)

-- ---- all that a class has by its class precedence list

pub record Effective : Type 0 where
  pub layout : Layout
  pub slots : List EffectiveSlot
  pub defaults : List DefaultInitarg

abbrev pub effective_of : DirectSlots → Defaults → List ℕ → Effective
effective_of of given l = record { layout = layout_of of l; slots = effective_slots of l; defaults = default_initargs given l }
