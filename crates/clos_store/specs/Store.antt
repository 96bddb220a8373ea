-- The instances of a session and the cells of their shared slots (HyperSpec 7.5.1, 7.5.2).
use Rattle.std.specs.Prelude.{ℕ, zero, suc, ◌+◌, ◌-◌, ◌==◌, nat_le, nat_lt, List, [], ◌∷◌, ◌++◌, Bool, Option, Some, None, if◌then◌else◌, map, option_map, length, position, slice_get, slice_set}
use Rattle.std.specs.Map.{lookup}
use Rattle.std.specs.Option.{option_map_or}
use Rattle.lisp_data.specs.Name.{Name, same_name}
use Rattle.lisp_data.specs.Value.{Val}
use Rattle.lisp_data.specs.declared.ids.CellId.{CellId}
use Rattle.clos_class.specs.Slots.{Layout}

-- slots by their names, each with its value; one that has none is unbound
abbrev pub Slots : Type 0
Slots = List (Name × Option Val)

-- an instance: its class, its local slots in layout order, and the cells of its shared slots
pub record Object : Type 0 where
  pub class : ℕ
  pub slots : Slots
  pub shared : List (Name × CellId)

pub record Contents : Type 0 where
  pub instances : List Object  -- in the order in which they were made; the first has the number 1
  pub cells : List (Option Val)  -- the same; the first has the number 0
  pub most_instances : ℕ
  pub most_cells : ℕ

abbrev pub empty : ℕ → ℕ → Contents
empty instances cells = record { instances = []; cells = []; most_instances = instances; most_cells = cells }

-- ---- slots

abbrev pub slot_names : Slots → List Name
slot_names ss = map (λ s. s.0) ss

abbrev pub if_bound : Option (Option Val) → Option Val
if_bound None = None
if_bound (Some value) = value

-- the value of the slot of this name, where there is one and it is bound
abbrev pub value_named : Slots → Name → Option Val
value_named ss name = if_bound (lookup (same_name name) ss)

-- the slots after the one of this name has this value, or none
abbrev pub with_value : Name → Option Val → Slots → Slots
with_value name value [] = []
with_value name value (s ∷ ss) = if same_name name s.0 then (s.0, value) ∷ ss else s ∷ with_value name value ss

-- the same of the slot at this place
abbrev pub value_at : Slots → ℕ → Option Val
value_at ss place = if_bound (option_map (λ s. s.1) (slice_get ss place))

abbrev pub with_value_at : ℕ → Option Val → Slots → Slots
with_value_at place value [] = []
with_value_at zero value (s ∷ ss) = (s.0, value) ∷ ss
with_value_at (suc place) value (s ∷ ss) = s ∷ with_value_at place value ss

-- ---- instances

-- a new instance of this class: all its slots are unbound (7.1, allocate-instance)
abbrev pub allocated : ℕ → Layout → Object
allocated class layout = record { class = class; slots = map (λ name. (name, None)) layout.locals; shared = layout.shared }

-- the layout that an instance keeps
abbrev pub kept_layout : Object → Layout
kept_layout o = record { locals = slot_names o.slots; shared = o.shared }

abbrev pub has_room : Contents → Bool
has_room w = nat_lt (length w.instances) w.most_instances

-- the number of the next one
abbrev pub next_instance : Contents → Option ℕ
next_instance w = if has_room w then Some (length w.instances + 1) else None

abbrev pub with_instance : Object → Contents → Contents
with_instance o w = record w { instances = w.instances ++ o ∷ [] }

-- the instance of this number
abbrev pub instance : Contents → ℕ → Option Object
instance w i = if i == 0 then None else slice_get w.instances (i - 1)

-- its slots, none where there is no such instance
abbrev pub slots_of : Contents → ℕ → Slots
slots_of w i = option_map_or (λ o. o.slots) (instance w i) []

abbrev pub shared_of : Contents → ℕ → List (Name × CellId)
shared_of w i = option_map_or (λ o. o.shared) (instance w i) []

-- the place of the slot of this name
abbrev pub place_named : Contents → ℕ → Name → Option ℕ
place_named w i name = position (same_name name) (slot_names (slots_of w i))

-- the instances after the one at this place was changed so
abbrev pub with_changed : (Object → Object) → ℕ → List Object → List Object
with_changed change n [] = []
with_changed change zero (o ∷ os) = change o ∷ os
with_changed change (suc n) (o ∷ os) = o ∷ with_changed change n os

-- the instance of this number has these slots, made of those it had
abbrev pub with_slots : (Slots → Slots) → ℕ → Contents → Contents
with_slots change i w = record w { instances = with_changed (λ o. record o { slots = change o.slots }) (i - 1) w.instances }

-- ---- cells

abbrev pub cell_value : Contents → ℕ → Option Val
cell_value w c = if_bound (slice_get w.cells c)

abbrev pub with_cell : Option Val → Contents → Contents
with_cell value w = record w { cells = w.cells ++ value ∷ [] }

-- one more cell with each of these values
abbrev pub with_cells : List (Option Val) → Contents → Contents
with_cells values w = record w { cells = w.cells ++ values }

abbrev pub with_cell_value : ℕ → Option Val → Contents → Contents
with_cell_value c value w = record w { cells = slice_set w.cells c value }

-- whether so many more cells may be made
abbrev pub has_room_for : ℕ → Contents → Bool
has_room_for n w = nat_le (length w.cells + n) w.most_cells

-- ---- the slot of an instance by its name, a local or a shared one (7.5.1)

abbrev pub cell_among : List (Option Val) → Option CellId → Option (Option Val)
cell_among cells None = None
cell_among cells (Some c) = slice_get cells c.0

abbrev pub cell_found : Contents → Option CellId → Option (Option Val)
cell_found w c = cell_among w.cells c

abbrev pub found_or : Option (Option Val) → Option (Option Val) → Option (Option Val)
found_or None shared = shared
found_or (Some value) shared = Some value

-- its value, or that it is unbound, where there is such a slot
abbrev pub slot_found : Contents → ℕ → Name → Option (Option Val)
slot_found w i name = found_or (lookup (same_name name) (slots_of w i)) (cell_found w (lookup (same_name name) (shared_of w i)))

abbrev pub with_cell_named : Option CellId → Option Val → Contents → Contents
with_cell_named None value w = w
with_cell_named (Some c) value w = with_cell_value c.0 value w

abbrev pub with_place : ℕ → Name → Option Val → Contents → Option ℕ → Contents
with_place i name value w None = with_cell_named (lookup (same_name name) (shared_of w i)) value w
with_place i name value w (Some place) = with_slots (with_value name value) i w

-- the slot of this name has this value, or none, where the instance has such a slot
abbrev pub with_slot : ℕ → Name → Option Val → Contents → Contents
with_slot i name value w = with_place i name value w (place_named w i name)

-- ---- what memory is reserved for, which no answer depends on but that nothing is refused for want of memory

-- what the store has, and how many more cells are sure to be made
pub record Held : Type 0 where
  pub contents : Contents
  pub reserved : ℕ
