-- Classes that are defined (HyperSpec 7.7 defclass).
use Rattle.std.specs.Prelude.{ℕ, not, List, [], ◌∷◌, Option, Some, None, length, map, option_map}
use Rattle.lisp_data.specs.Name.{Name}
use Rattle.lisp_data.specs.Value.{Val}
use Rattle.clos_class.specs.Table.{cells_to_make, list_with, number, refusal, with_definition}
use Rattle.clos_class.specs.declared.reserve.NewCell.{NewCell}
use Rattle.clos_hierarchy.specs.Table.{Refusal, program_error, table_limit, invalid_superclass, superclass_cycle, incomplete_class, inconsistent_precedence, changed}
use Rattle.clos_forms.specs.Form.{Form}
use Rattle.clos_forms.specs.Quotation.{name_value}
use Rattle.clos_forms.specs.declared.operator.FunctionName.TheVariants.{Symbol}
use Rattle.clos_store.specs.Store.{has_room_for, with_cells}
use Rattle.clos_syntax.specs.clos_defclass.declared.class.ClassDefinition.{ClassDefinition}
use Rattle.clos_cache.specs.Cache.{Change, of_classes}
use Rattle.clos_generic.specs.Changes.{Changes}
use Rattle.clos_generic.specs.declared.changes.Definition.{Definition}
use Rattle.clos_generic.specs.declared.changes.Removal.{Removal}
use Rattle.clos_method.specs.declared.method.Method.{Method}
use Rattle.clos_watch.specs.declared.notice.Notice.{Notice}
use Rattle.clos_watch.specs.declared.notice.Notice.TheVariants.{ClassRedefined}
use Rattle.clos_world.specs.Class.{named}
use Rattle.clos_world.specs.Hearing.{telling}
use Rattle.clos_world.specs.World.{State}
use Rattle.clos_world.specs.declared.condition.Condition.{Condition}
use Rattle.clos_world.specs.declared.condition.ConditionKind.TheVariants.{ProgramError, InvalidSuperclass, InconsistentPrecedence, SuperclassCycle, IncompleteClass, TableLimit}
use Rattle.clos_definition.specs.Accessor.{accessor_methods, accessors_of, accessors_refusal, earlier_accessors, functions_for}
use Rattle.clos_definition.specs.Effect.{changes_of, changing, concerned, concerned_by}
use Rattle.clos_definition.specs.declared.effect.Effect.{Effect}
use Rattle.clos_definition.specs.Refusal.{or_else, table_full, table_refusal, when}

-- the condition of a definition of the class of this name that the table of classes refuses
abbrev pub condition_for : Name → Refusal → Condition
condition_for name program_error = record { kind = ProgramError; items = [] }
condition_for name table_limit = record { kind = TableLimit; items = [] }
condition_for name (invalid_superclass super) = record { kind = InvalidSuperclass; items = name_value name ∷ name_value super ∷ [] }
condition_for name superclass_cycle = record { kind = SuperclassCycle; items = name_value name ∷ [] }
condition_for name incomplete_class = record { kind = IncompleteClass; items = name_value name ∷ [] }
condition_for name (inconsistent_precedence other) = record { kind = InconsistentPrecedence; items = name_value other ∷ [] }

abbrev pub class_number : ClassDefinition → State → ℕ
class_number d w = number w.classes.table d

-- ---- its cells

-- the shared slots that need cells, in layout order, with their initforms
abbrev pub cells_needed : ClassDefinition → State → List NewCell
cells_needed d w = cells_to_make w.classes.slots (class_number d w) (list_with w.classes.table d) d

-- the forms of their first values
abbrev pub initforms : List NewCell → List (Option Form)
initforms cells = map (λ c. c.initform) cells

-- ---- its accessors

-- those of an earlier definition of the class go
abbrev pub class_removals : ClassDefinition → State → List Removal
class_removals d w = earlier_accessors (class_number d w) w.generics

abbrev pub class_functions : ClassDefinition → State → List Definition
class_functions d w = functions_for w.generics (accessors_of d.slots)

abbrev pub class_methods : ClassDefinition → State → List Method
class_methods d w = accessor_methods (class_number d w) w.generics (class_functions d w) (accessors_of d.slots)

abbrev pub class_changes : ClassDefinition → State → Changes
class_changes d w = changes_of (class_removals d w) (class_functions d w) (class_methods d w)

-- ---- defclass

-- why it can't be where the table of classes allows it: an accessor can't be, the table of generic functions has no room or would lose a method
-- of the system's, or there is no room for so many new cells
abbrev pub others_refusal : ClassDefinition → ℕ → State → Option Condition
others_refusal d cells w =
    or_else (accessors_refusal (class_number d w) (class_functions d w) (accessors_of d.slots) w)
    (or_else (table_refusal (Symbol d.name) (class_changes d w) w) (when (not (has_room_for cells w.store)) table_full))

-- why it can't be defined with so many new cells: the table of classes refuses it, or that
abbrev pub class_refusal : ClassDefinition → ℕ → State → Option Condition
class_refusal d cells w = or_else (option_map (condition_for d.name) (refusal w.classes.table d)) (others_refusal d cells w)

-- with the class, whose new cells have these values
abbrev pub with_class : ClassDefinition → List (Option Val) → State → State
with_class d values w = record w {
  classes = with_definition w.classes d (length w.store.cells);
  store = with_cells values w.store;
}

-- with its accessors, and without those of an earlier definition
abbrev pub with_accessors : ClassDefinition → State → State
with_accessors d w = changing (class_removals d w) (class_functions d w) (class_methods d w) w

-- a class that is there is defined again; of one that is new nobody could hear (AMOP chapter 6)
abbrev pub of_class : Option ℕ → List Notice
of_class None = []
of_class (Some c) = ClassRedefined (record { 0 = c }) ∷ []

abbrev pub class_notices : ClassDefinition → State → List Notice
class_notices d w = of_class (named w.classes d.name)

-- after this is told
abbrev pub noting : List Notice → State → State
noting notices w = record w { hearing = telling notices w.hearing }

-- the state after it is defined; of the class is told before its accessors
abbrev pub with_defined_class : ClassDefinition → List (Option Val) → State → State
with_defined_class d values w = with_class d values (with_accessors d (noting (class_notices d w) w))

-- ---- the calls that it concerns

abbrev pub accessors_concerned : ClassDefinition → State → List Change
accessors_concerned d w = concerned (class_removals d w) (class_functions d w) (class_methods d w) w.generics

-- those with arguments of classes whose precedence lists change as it is defined
abbrev pub lists_concerned : ClassDefinition → List (Option Val) → State → Change
lists_concerned d values w = of_classes (changed w.classes.table.classes (with_class d values w).classes.table.classes)

-- and those of its accessors
abbrev pub class_concerned : ClassDefinition → List (Option Val) → State → List Change
class_concerned d values w = lists_concerned d values w ∷ accessors_concerned d w

-- the same, where its accessors are prepared
abbrev pub class_concerned_by : ClassDefinition → List (Option Val) → Effect → State → List Change
class_concerned_by d values accessors w = lists_concerned d values w ∷ concerned_by accessors w.generics
