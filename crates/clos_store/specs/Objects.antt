-- The classes of a session with their instances (HyperSpec 4.3.6): which of these are stale, and what it is to define a class.
use Rattle.std.specs.Prelude.{ℕ, List, Option, Some, None, length, option_map, if◌then◌else◌}
use Rattle.lisp_data.specs.Value.{Val}
use Rattle.clos_hierarchy.specs.Classes.{listing}
use Rattle.clos_hierarchy.specs.Table.{list_if}
use Rattle.clos_defclass.specs.declared.class.ClassDefinition.{ClassDefinition}
use Rattle.clos_class.specs.Slots.{Layout, layout_of, same_layout}
use Rattle.clos_class.specs.SlotsView.{direct_slots}
use Rattle.clos_class.specs.Table.{Table, with_definition}
use Rattle.clos_store.specs.Store.{Contents, Object, instance, kept_layout, with_cells}

-- the classes, with the instances and the cells of their shared slots
pub record Objects : Type 0 where
  pub classes : Table
  pub contents : Contents

-- the layout of the instances of a class, if it is complete
abbrev pub layout : Table → ℕ → Option Layout
layout t c = option_map (layout_of (direct_slots t.slots)) (list_if (listing t.table.classes c))

-- the layout that the class of an instance has now
abbrev pub layout_for : Table → Option Object → Option Layout
layout_for t None = None
layout_for t (Some o) = layout t o.class

-- this layout, where the instance keeps another
abbrev pub unless_kept : Object → Option Layout → Option Layout
unless_kept o None = None
unless_kept o (Some l) = if same_layout (kept_layout o) l then None else Some l

-- the layout that the class of an instance has now, where the instance keeps another (4.3.6)
abbrev pub due_for : Table → Option Object → Option Layout
due_for t None = None
due_for t (Some o) = unless_kept o (layout t o.class)

-- the same of the instance of this number
abbrev pub due : Table → Contents → ℕ → Option Layout
due t w i = due_for t (instance w i)

-- A class is defined, whose new cells have these values.
abbrev pub with_class : ClassDefinition → List (Option Val) → Objects → Objects
with_class d values w = record { classes = with_definition w.classes d (length w.contents.cells); contents = with_cells values w.contents }
