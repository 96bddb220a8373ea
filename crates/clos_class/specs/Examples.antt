-- Slots of a class POINT-3D, which is 2, below POINT, which is 1, below a class 0 without slots: of POINT the slot X with an
-- initform, and COUNT, shared in the cell 7; of POINT-3D the slots Z, and COUNT again, now local, without an initform.
use Rattle.std.specs.Prelude.{◌≡◌, ℕ, List, [], ◌∷◌, false, Some, None, codes, slice_get, unwrap_or, refl}
use Rattle.lisp_data.specs.Name.{Name}
use Rattle.clos_forms.specs.Form.{Form}
use Rattle.clos_class.specs.declared.direct.SlotAllocation.TheVariants.{Local, Shared}
use Rattle.lisp_data.specs.declared.ids.CellId.{CellId}
use Rattle.clos_defclass.specs.declared.class.ClassDefinition.{ClassDefinition}
use Rattle.clos_defclass.specs.declared.slot.Allocation.{Allocation}
use Rattle.clos_defclass.specs.declared.slot.Allocation.TheVariants.{Instance, Class}
use Rattle.clos_defclass.specs.declared.slot.SlotSpecifier.{SlotSpecifier}
use Rattle.clos_class.specs.SlotsView.{direct_slots, says_nothing}
use Rattle.clos_class.specs.Table.{Table, new_cells, with_definition}
use Rattle.clos_class.specs.Slots.{DirectSlots, accessible, effective_slots, initargs, initform, layout_of}

abbrev called : List ℕ → Name
called text = record { text = text; keyword = false }

abbrev points : Form → DirectSlots
points zero_form n =
    unwrap_or
    (slice_get
    ([]
    ∷ (record { name = called (codes "X"); initargs = called (codes "X") ∷ []; initform = Some zero_form; allocation = Local }
    ∷ record { name = called (codes "COUNT"); initargs = called (codes "N") ∷ []; initform = Some zero_form; allocation = Shared (record { 0 = 7 }) }
    ∷ [])
    ∷ (record { name = called (codes "Z"); initargs = []; initform = None; allocation = Local }
    ∷ record { name = called (codes "COUNT"); initargs = called (codes "M") ∷ called (codes "N") ∷ []; initform = None; allocation = Local }
    ∷ [])
    ∷ [])
    n)
    []

-- the slots of the superclass come first
layout_order : (f : Form) → accessible (points f) (2 ∷ 1 ∷ 0 ∷ []) ≡ called (codes "X") ∷ called (codes "COUNT") ∷ called (codes "Z") ∷ []
layout_order f = refl

shared_above : (f : Form) → layout_of (points f) (1 ∷ 0 ∷ []) ≡ record { locals = called (codes "X") ∷ []; shared = (called (codes "COUNT"), record { 0 = 7 }) ∷ [] }
shared_above f = refl

local_below : (f : Form) → layout_of (points f) (2 ∷ 1 ∷ 0 ∷ []) ≡ record { locals = called (codes "X") ∷ called (codes "COUNT") ∷ called (codes "Z") ∷ []; shared = [] }
local_below f = refl

-- the most specific specifier has none
initform_above : (f : Form) → initform (points f) (2 ∷ 1 ∷ 0 ∷ []) (called (codes "COUNT")) ≡ Some f
initform_above f = refl

all_initargs : (f : Form) → initargs (points f) (2 ∷ 1 ∷ 0 ∷ []) (called (codes "COUNT")) ≡ called (codes "M") ∷ called (codes "N") ∷ []
all_initargs f = refl

slots_above : (f : Form) → effective_slots (points f) (1 ∷ 0 ∷ [])
    ≡ record { name = called (codes "X"); cell = None; initargs = called (codes "X") ∷ []; initform = Some f }
    ∷ record { name = called (codes "COUNT"); cell = Some (record { 0 = 7 }); initargs = called (codes "N") ∷ []; initform = Some f }
    ∷ []
slots_above f = refl

slots_below : (f : Form) → effective_slots (points f) (2 ∷ 1 ∷ 0 ∷ [])
    ≡ record { name = called (codes "X"); cell = None; initargs = called (codes "X") ∷ []; initform = Some f }
    ∷ record { name = called (codes "COUNT"); cell = None; initargs = called (codes "M") ∷ called (codes "N") ∷ []; initform = Some f }
    ∷ record { name = called (codes "Z"); cell = None; initargs = []; initform = None }
    ∷ []
slots_below f = refl

-- ---- a table of classes: STANDARD-OBJECT alone, and then COUNTER with a shared slot COUNT and a local one

abbrev standard : Name
standard = called (codes "STANDARD-OBJECT")

abbrev slot : List ℕ → Allocation → SlotSpecifier
slot text a = record { name = called text; initargs = []; accessors = []; initform = None; allocation = a }

abbrev counter : List SlotSpecifier → ClassDefinition
counter ss = record { name = called (codes "COUNTER"); superclasses = []; slots = ss; defaults = [] }

abbrev cell : ℕ → CellId
cell n = record { 0 = n }

abbrev start : Table
start = record { table = record { classes = record { names = standard ∷ []; above = [] ∷ [] }; predefined = 1; limit = 9 }; slots = says_nothing ∷ [] }

abbrev counted : Table
counted = with_definition start (counter (slot (codes "N") Instance ∷ slot (codes "COUNT") Class ∷ slot (codes "SUM") Class ∷ [])) 7

first_cells : (layout_of (direct_slots counted.slots) (1 ∷ 0 ∷ [])).shared ≡ (called (codes "COUNT"), cell 7) ∷ (called (codes "SUM"), cell 8) ∷ []
first_cells = refl

-- SUM keeps its cell, and MAX needs one
abbrev again : ClassDefinition
again = counter (slot (codes "MAX") Class ∷ slot (codes "SUM") Class ∷ [])

one_more : new_cells counted.slots 1 (1 ∷ 0 ∷ []) again ≡ called (codes "MAX") ∷ []
one_more = refl

-- the cell that is kept, and the new one
kept_cell : (layout_of (direct_slots (with_definition counted again 9).slots) (1 ∷ 0 ∷ [])).shared ≡ (called (codes "MAX"), cell 9) ∷ (called (codes "SUM"), cell 8) ∷ []
kept_cell = refl

-- a shared slot that comes back
back : new_cells (with_definition counted again 9).slots 1 (1 ∷ 0 ∷ []) (counter (slot (codes "COUNT") Class ∷ [])) ≡ called (codes "COUNT") ∷ []
back = refl
