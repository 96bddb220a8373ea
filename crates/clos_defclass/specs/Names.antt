-- The names of slots and of default initargs (HyperSpec 7.7 defclass).
use Rattle.std.specs.Prelude.{List, [], ◌∷◌}
use Rattle.lisp_data.specs.Name.{Name}
use Rattle.clos_defclass.specs.declared.class.DefaultInitarg.{DefaultInitarg}
use Rattle.clos_defclass.specs.declared.slot.SlotSpecifier.{SlotSpecifier}

-- the names of slots, in order
abbrev pub slot_names : List SlotSpecifier → List Name
slot_names [] = []
slot_names (s ∷ ss) = s.name ∷ slot_names ss

-- the names of default initargs, in order
abbrev pub default_names : List DefaultInitarg → List Name
default_names [] = []
default_names (d ∷ ds) = d.name ∷ default_names ds
