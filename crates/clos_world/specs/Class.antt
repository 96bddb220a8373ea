-- The classes of a session, as its functions ask for them (HyperSpec 4.3).
use Rattle.std.specs.Prelude.{ℕ, List, Option, option_map, slice_get}
use Rattle.lisp_data.specs.Name.{Name}
use Rattle.clos_hierarchy.specs.Classes.{listing, list_in}
use Rattle.clos_hierarchy.specs.Classes as classes
use Rattle.clos_hierarchy.specs.Table.{list_if}
use Rattle.clos_class.specs.Slots.{Effective, Layout, effective_of, layout_of}
use Rattle.clos_class.specs.SlotsView.{defaults, direct_slots}
use Rattle.clos_class.specs.Table.{Table}

-- the number of the class of this name
abbrev pub named : Table → Name → Option ℕ
named t name = classes.named t.table.classes name

-- the name of the class of this number
abbrev pub class_name : Table → ℕ → Option Name
class_name t n = slice_get t.table.classes.names n

-- The class precedence list of a class, if it is complete: if all its superclasses, and theirs and so on, are defined.
abbrev pub precedence : Table → ℕ → Option (List ℕ)
precedence t n = list_if (listing t.table.classes n)

-- the same, or no classes; a class that has instances is complete
abbrev pub precedence_or_none : Table → ℕ → List ℕ
precedence_or_none t n = list_in (listing t.table.classes n)

-- what a class has by its class precedence list, if it is complete: its slots, their layout and its default initargs (7.5.3)
abbrev pub effective : Table → ℕ → Option Effective
effective t n = option_map (effective_of (direct_slots t.slots) (defaults t.slots)) (precedence t n)

-- the layout of its instances
abbrev pub layout : Table → ℕ → Option Layout
layout t n = option_map (layout_of (direct_slots t.slots)) (precedence t n)
