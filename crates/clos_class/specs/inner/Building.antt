-- How layouts, slots and lists of initargs are built, one after another.
use Rattle.std.specs.Prelude.{not, List, [], ◌∷◌, ◌++◌, Option, Some, None, if◌then◌else◌}
use Rattle.std.specs.List.{filter, list_any}
use Rattle.std.specs.Map.{keys_of}
use Rattle.lisp_data.specs.Name.{Name, same_name}
use Rattle.lisp_data.specs.declared.ids.CellId.{CellId}
use Rattle.clos_class.specs.declared.direct.SlotAllocation.{SlotAllocation}
use Rattle.clos_class.specs.declared.direct.SlotAllocation.TheVariants.{Local, Shared}
use Rattle.clos_forms.specs.Form.{Form}
use Rattle.clos_class.specs.declared.effective_slots.EffectiveSlot.{EffectiveSlot}
use Rattle.clos_defclass.specs.declared.class.DefaultInitarg.{DefaultInitarg}
use Rattle.clos_class.specs.Slots.{Layout, cell_in, distinct, first_of_each}

-- those whose names are not among these
abbrev pub new_of : {X : Type 0} → (X → Name) → List Name → List X → List X
new_of name ks xs = filter (λ x. not (list_any (same_name (name x)) ks)) xs

-- names with one more, which comes last unless it is there
abbrev pub with_name : List Name → Name → List Name
with_name ns n = if list_any (same_name n) ns then ns else ns ++ n ∷ []

-- names with those of others that are not there, each once
abbrev pub with_names : List Name → List Name → List Name
with_names ns more = ns ++ new_of (λ n. n) ns (distinct more)

-- default initargs with those of others whose names are not known, the first of each name
abbrev pub completed : List Name → List DefaultInitarg → List DefaultInitarg → List DefaultInitarg
completed known found ds = found ++ new_of (λ d. d.name) known (first_of_each (λ d. d.name) ds)

abbrev pub no_slots : Layout
no_slots = record { locals = []; shared = [] }

abbrev pub with_cell : List (Name × CellId) → Name → CellId → List (Name × CellId)
with_cell es n c = if list_any (same_name n) (keys_of es) then es else es ++ (n, c) ∷ []

abbrev pub with_slot : Layout → Name → Option SlotAllocation → Layout
with_slot l n None = l
with_slot l n (Some Local) = record l { locals = with_name l.locals n }
with_slot l n (Some (Shared c)) = record l { shared = with_cell l.shared n c }

-- with one slot after another, each with the allocation that it has here
abbrev pub with_slots : (Name → Option SlotAllocation) → Layout → List Name → Layout
with_slots of l [] = l
with_slots of l (n ∷ ns) = with_slots of (with_slot l n (of n)) ns

abbrev pub or_no_names : Option (List Name) → List Name
or_no_names None = []
or_no_names (Some ns) = ns

-- the slot of a name, where this is what its specifiers say
abbrev pub slot_by : (Name → Option SlotAllocation) → (Name → List Name) → (Name → Option Form) → Name → EffectiveSlot
slot_by allocation initargs initform n = record { name = n; cell = cell_in (allocation n); initargs = initargs n; initform = initform n }
