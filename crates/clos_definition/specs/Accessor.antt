-- The accessors of the slots of a class: methods that read and write them (HyperSpec 7.5.2).
use Rattle.std.specs.Prelude.{ℕ, ◌+◌, codes, Bool, false, not, ◌||◌, is_some, List, [], ◌∷◌, ◌++◌, Option, None, Some, length, map, position, slice_get, unwrap_or, if◌then◌else◌}
use Rattle.std.specs.List.{flat_map}
use Rattle.lisp_data.specs.Name.{Name}
use Rattle.lisp_data.specs.Print.{Specializer, on_class}
use Rattle.clos_hierarchy.specs.Initial.{number as predefined_number}
use Rattle.clos_forms.specs.declared.operator.FunctionName.{FunctionName}
use Rattle.clos_forms.specs.declared.operator.FunctionName.TheVariants.{Symbol}
use Rattle.clos_syntax.specs.clos_defclass.declared.slot.Accessor.{Accessor}
use Rattle.clos_syntax.specs.clos_defclass.declared.slot.Accessor.TheVariants.{Reader, Writer}
use Rattle.clos_syntax.specs.clos_defclass.declared.slot.SlotSpecifier.{SlotSpecifier}
use Rattle.clos_generic.specs.Accessors.{accessors_there}
use Rattle.clos_generic.specs.Changes.{addition_fits}
use Rattle.clos_generic.specs.Initial.{standard_options}
use Rattle.clos_generic.specs.Table.{Table, named, same_function}
use Rattle.clos_generic.specs.declared.changes.Definition.{Definition}
use Rattle.clos_generic.specs.declared.changes.Removal.{Removal}
use Rattle.clos_method.specs.declared.method.Method.{Method}
use Rattle.clos_method.specs.declared.method.MethodBody.{MethodBody}
use Rattle.clos_method.specs.declared.method.MethodBody.TheVariants as body
use Rattle.clos_method.specs.declared.origin.Origin.TheVariants.{Accessor as ByAccessor}
use Rattle.clos_method.specs.declared.shape.Shape.{Shape}
use Rattle.clos_world.specs.World.{State}
use Rattle.clos_world.specs.declared.condition.Condition.{Condition}
use Rattle.clos_definition.specs.Effect.{addition_of, removal}
use Rattle.clos_definition.specs.Refusal.{not_congruent, or_else, taken_refusal, when}
use Rattle.clos_definition.specs.declared.accessor.SlotAccessor.{SlotAccessor}

abbrev pub of_slot : Name → Accessor → SlotAccessor
of_slot name a = record { slot = name; accessor = a }

-- those of all slots, in order
abbrev pub accessors_of : List SlotSpecifier → List SlotAccessor
accessors_of [] = []
accessors_of (s ∷ ss) = map (of_slot s.name) s.accessors ++ accessors_of ss

-- ---- the method of an accessor

-- the function that it is a method of
abbrev pub accessor_name : Accessor → FunctionName
accessor_name (Reader name) = Symbol name
accessor_name (Writer name) = name

abbrev pub function_of : SlotAccessor → FunctionName
function_of a = accessor_name a.accessor

abbrev pub accessor_required : Accessor → ℕ
accessor_required (Reader name) = 1
accessor_required (Writer name) = 2

abbrev pub accessor_shape : Accessor → Shape
accessor_shape a = record { required = accessor_required a; optional = 0; rest = false; keys = None }

-- A reader has an instance of the class, a writer the new value before it.
abbrev pub accessor_specializers : ℕ → Accessor → List Specializer
accessor_specializers c (Reader name) = on_class c ∷ []
accessor_specializers c (Writer name) = on_class (predefined_number (codes "T")) ∷ on_class c ∷ []

abbrev pub accessor_body : Name → Accessor → MethodBody
accessor_body slot (Reader name) = body.Reader slot
accessor_body slot (Writer name) = body.Writer slot

-- of this class, and of the function of this number
abbrev pub accessor_method : ℕ → ℕ → SlotAccessor → Method
accessor_method c g a = record {
  generic = record { 0 = g };
  qualifiers = [];
  specializers = accessor_specializers c a.accessor;
  shape = accessor_shape a.accessor;
  origin = ByAccessor (record { 0 = c });
  body = accessor_body a.slot a.accessor;
}

-- ---- those of an earlier definition of the class, which go if they are still there (4.3.6)

-- the removal of the method of this number from its function
abbrev pub removal_in : ℕ → Option Method → List Removal
removal_in n None = []
removal_in n (Some m) = removal m.generic.0 n ∷ []

-- those of the methods of these numbers
abbrev pub removals_of : List Method → List ℕ → List Removal
removals_of methods ns = flat_map (λ n. removal_in n (slice_get methods n)) ns

-- the accessor methods that came with an earlier definition of this class, and are still there
abbrev pub earlier_accessors : ℕ → Table → List Removal
earlier_accessors c t = removals_of t.methods (accessors_there t c)

-- ---- their functions, which are made where there are none

abbrev pub function_made : SlotAccessor → Definition
function_made a = record { name = function_of a; options = standard_options (accessor_shape a.accessor) }

-- the place of the definition of this name
abbrev pub place_of : FunctionName → List Definition → Option ℕ
place_of name ds = position (λ d. same_function d.name name) ds

-- whether there is a function of this name, or these definitions make one
abbrev pub is_there : Table → List Definition → FunctionName → Bool
is_there t ds name = is_some (named t name) || is_some (place_of name ds)

-- these definitions with those that are missing for these accessors, each once
abbrev pub with_functions : Table → List Definition → List SlotAccessor → List Definition
with_functions t ds [] = ds
with_functions t ds (a ∷ more) = with_functions t (if is_there t ds (function_of a) then ds else ds ++ function_made a ∷ []) more

abbrev pub functions_for : Table → List SlotAccessor → List Definition
functions_for t more = with_functions t [] more

-- the number that the function of this name has after these definitions of new ones
abbrev pub number_after : Table → List Definition → FunctionName → ℕ
number_after t ds name = unwrap_or (named t name) (length t.functions + unwrap_or (place_of name ds) (length ds))

-- the methods of these accessors of a class
abbrev pub accessor_methods : ℕ → Table → List Definition → List SlotAccessor → List Method
accessor_methods c t ds more = map (λ a. accessor_method c (number_after t ds (function_of a)) a) more

-- ---- why one can't be: the name is a function's, or its function takes other arguments

abbrev pub fits : ℕ → Table → List Definition → SlotAccessor → Bool
fits c t ds a = addition_fits t ds (addition_of (accessor_method c (number_after t ds (function_of a)) a))

abbrev pub accessor_refusal : ℕ → List Definition → SlotAccessor → State → Option Condition
accessor_refusal c ds a w =
    or_else (taken_refusal (function_of a) w) (when (not (fits c w.generics ds a)) (not_congruent (function_of a)))

-- the first of them
abbrev pub accessors_refusal : ℕ → List Definition → List SlotAccessor → State → Option Condition
accessors_refusal c ds [] w = None
accessors_refusal c ds (a ∷ more) w = or_else (accessor_refusal c ds a w) (accessors_refusal c ds more w)
