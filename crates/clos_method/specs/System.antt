-- The system's generic functions and the method that each has (HyperSpec 7.1, 7.3, 7.6.6.1, 7.7).
use Rattle.std.specs.Prelude.{ℕ, codes, Bool, true, false, List, [], ◌∷◌, Option, Some, None, map}
use Rattle.clos_hierarchy.specs.Initial.{number}
use Rattle.lisp_data.specs.Print.{Specializer, on_class}
use Rattle.clos_method.specs.declared.shape.Keywords.{Keywords}
use Rattle.clos_method.specs.declared.shape.Shape.{Shape}
use Rattle.clos_method.specs.declared.system.SystemFunction.{SystemFunction}
use Rattle.clos_method.specs.declared.system.SystemFunction.TheVariants.{InitializeInstance, ReinitializeInstance, SharedInitialize, UpdateInstanceForRedefinedClass, UpdateInstanceForDifferentClass, SlotUnbound, SlotMissing, NoApplicableMethod, NoNextMethod}

abbrev pub system_functions : List SystemFunction
system_functions =
    InitializeInstance ∷ ReinitializeInstance ∷ SharedInitialize ∷ UpdateInstanceForRedefinedClass ∷ UpdateInstanceForDifferentClass
    ∷ SlotUnbound ∷ SlotMissing ∷ NoApplicableMethod ∷ NoNextMethod ∷ []

-- its number, its place among them, which is also that of its method
abbrev pub system_number : SystemFunction → ℕ
system_number InitializeInstance = 0
system_number ReinitializeInstance = 1
system_number SharedInitialize = 2
system_number UpdateInstanceForRedefinedClass = 3
system_number UpdateInstanceForDifferentClass = 4
system_number SlotUnbound = 5
system_number SlotMissing = 6
system_number NoApplicableMethod = 7
system_number NoNextMethod = 8

abbrev pub system_text : SystemFunction → List ℕ
system_text InitializeInstance = codes "INITIALIZE-INSTANCE"
system_text ReinitializeInstance = codes "REINITIALIZE-INSTANCE"
system_text SharedInitialize = codes "SHARED-INITIALIZE"
system_text UpdateInstanceForRedefinedClass = codes "UPDATE-INSTANCE-FOR-REDEFINED-CLASS"
system_text UpdateInstanceForDifferentClass = codes "UPDATE-INSTANCE-FOR-DIFFERENT-CLASS"
system_text SlotUnbound = codes "SLOT-UNBOUND"
system_text SlotMissing = codes "SLOT-MISSING"
system_text NoApplicableMethod = codes "NO-APPLICABLE-METHOD"
system_text NoNextMethod = codes "NO-NEXT-METHOD"

abbrev t_class : ℕ
t_class = number (codes "T")

abbrev standard_object : ℕ
standard_object = number (codes "STANDARD-OBJECT")

abbrev standard_generic_function : ℕ
standard_generic_function = number (codes "STANDARD-GENERIC-FUNCTION")

abbrev standard_method : ℕ
standard_method = number (codes "STANDARD-METHOD")

-- the classes on which its method is specialized, one for each required parameter
abbrev pub system_classes : SystemFunction → List ℕ
system_classes InitializeInstance = standard_object ∷ []
system_classes ReinitializeInstance = standard_object ∷ []
system_classes SharedInitialize = standard_object ∷ t_class ∷ []
system_classes UpdateInstanceForRedefinedClass = standard_object ∷ t_class ∷ t_class ∷ t_class ∷ []
system_classes UpdateInstanceForDifferentClass = standard_object ∷ standard_object ∷ []
system_classes SlotUnbound = t_class ∷ t_class ∷ t_class ∷ []
system_classes SlotMissing = t_class ∷ t_class ∷ t_class ∷ t_class ∷ []
system_classes NoApplicableMethod = t_class ∷ []
system_classes NoNextMethod = standard_generic_function ∷ standard_method ∷ []

abbrev pub system_specializers : SystemFunction → List Specializer
system_specializers f = map on_class (system_classes f)

-- ---- lambda lists

abbrev others_allowed : Option Keywords
others_allowed = Some (record { names = []; allow_other_keys = true })

-- (instance &rest initargs &key &allow-other-keys), with so many parameters before &rest
abbrev with_initargs : ℕ → Shape
with_initargs n = record { required = n; optional = 0; rest = true; keys = others_allowed }

-- with so many required parameters, so many optional ones, and &rest or not
abbrev without_keys : ℕ → ℕ → Bool → Shape
without_keys required optional rest = record { required = required; optional = optional; rest = rest; keys = None }

abbrev pub system_shape : SystemFunction → Shape
system_shape InitializeInstance = with_initargs 1
system_shape ReinitializeInstance = with_initargs 1
system_shape SharedInitialize = with_initargs 2
system_shape UpdateInstanceForRedefinedClass = with_initargs 4
system_shape UpdateInstanceForDifferentClass = with_initargs 2
system_shape SlotUnbound = without_keys 3 0 false
system_shape SlotMissing = without_keys 4 1 false
system_shape NoApplicableMethod = without_keys 1 0 true
system_shape NoNextMethod = without_keys 2 0 true

abbrev pub system_required : SystemFunction → ℕ
system_required f = (system_shape f).required

abbrev pub system_optional : SystemFunction → ℕ
system_optional f = (system_shape f).optional

abbrev pub system_rest : SystemFunction → Bool
system_rest f = (system_shape f).rest

abbrev pub system_keys : SystemFunction → Option Keywords
system_keys f = (system_shape f).keys

-- Its method has no &key.
abbrev pub system_method_shape : SystemFunction → Shape
system_method_shape f = record (system_shape f) { keys = None }
