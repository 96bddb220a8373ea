-- What the classes say of slots, by their numbers.
use Rattle.std.specs.Prelude.{ℕ, ◌==◌, Bool, true, false, List, [], Option, Some, None, option_copied, slice_get}
use Rattle.std.specs.Option.{option_map_or}
use Rattle.lisp_data.specs.declared.ids.CellId.{CellId}
use Rattle.clos_defclass.specs.declared.slot.Allocation.{Allocation}
use Rattle.clos_defclass.specs.declared.slot.Allocation.TheVariants.{Instance, Class}
use Rattle.clos_defclass.specs.declared.slot.SlotSpecifier.{SlotSpecifier}
use Rattle.clos_class.specs.declared.direct.ClassSlots.{ClassSlots}
use Rattle.clos_class.specs.declared.direct.DirectSlot.{DirectSlot}
use Rattle.clos_class.specs.declared.direct.SlotAllocation.{SlotAllocation}
use Rattle.clos_class.specs.declared.direct.SlotAllocation.TheVariants.{Local, Shared}
use Rattle.clos_class.specs.declared.rows.Rows.{Rows}
use Rattle.clos_class.specs.Slots.{Defaults, DirectSlots}

abbrev pub says_nothing : ClassSlots
says_nothing = record { slots = []; defaults = [] }

-- a class of which nothing is said has no direct slots
abbrev pub direct_slots : List ClassSlots → DirectSlots
direct_slots classes n = option_map_or (λ c. c.slots) (slice_get classes n) []

abbrev pub defaults : List ClassSlots → Defaults
defaults classes n = option_map_or (λ c. c.defaults) (slice_get classes n) []

-- what a class says, as rows are kept and for one class perhaps otherwise
abbrev pub or_said : Option ClassSlots → Bool → Option ClassSlots → Option ClassSlots
or_said None b o = o
or_said (Some s) true o = Some s
or_said (Some s) false o = o

abbrev pub row_of : Rows → ℕ → Option ClassSlots
row_of r n = or_said (option_copied r.said) (n == r.class.0) (slice_get r.rows.now n)

abbrev pub slots_in : Rows → DirectSlots
slots_in r n = option_map_or (λ c. c.slots) (row_of r n) []

abbrev pub defaults_in : Rows → Defaults
defaults_in r n = option_map_or (λ c. c.defaults) (row_of r n) []

-- a slot with allocation :class is in the cell
abbrev pub allocated : Allocation → CellId → SlotAllocation
allocated Instance cell = Local
allocated Class cell = Shared cell

abbrev pub direct_slot : SlotSpecifier → CellId → DirectSlot
direct_slot s cell = record { name = s.name; initargs = s.initargs; initform = s.initform; allocation = allocated s.allocation cell }
