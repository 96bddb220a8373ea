-- Slot specifiers (HyperSpec 7.7 defclass, 7.5.3).
use Rattle.std.specs.Prelude.{List, [], ◌∷◌, ◌++◌, Bool, true, false, ◌&&◌, ◌||◌, codes, Option, Some, None, if◌then◌else◌}
use Rattle.lisp_data.specs.Name.{Name}
use Rattle.lisp_data.specs.Datum.{Dat, integer, symbol, string, list, dotted, method, Dats, nil, cons}
use Rattle.clos_forms.specs.Binding.{each}
use Rattle.clos_forms.specs.Fault.{◌>>=◌}
use Rattle.clos_forms.specs.FunctionName.{symbol_in}
use Rattle.clos_forms.specs.declared.operator.FunctionName.TheVariants.{Setf}
use Rattle.clos_lambda.specs.PlainForm.{form_in}
use Rattle.clos_lambda.specs.Property.{anything, documentation_in, is_key, values_of, value_in}
use Rattle.clos_syntax.specs.FunctionName.{method_function_in, method_symbol_in}
use Rattle.clos_defclass.specs.declared.slot.Accessor.{Accessor}
use Rattle.clos_defclass.specs.declared.slot.Accessor.TheVariants.{Reader, Writer}
use Rattle.clos_defclass.specs.declared.slot.Allocation.{Allocation}
use Rattle.clos_defclass.specs.declared.slot.Allocation.TheVariants.{Instance, Class}
use Rattle.clos_defclass.specs.declared.slot.SlotSpecifier.{SlotSpecifier}

-- ---- accessors

abbrev pub reader_in : Dat → Option (List Accessor)
reader_in d = method_symbol_in d >>= λ n. Some (Reader n ∷ [])

abbrev pub writer_in : Dat → Option (List Accessor)
writer_in d = method_function_in d >>= λ f. Some (Writer f ∷ [])

-- a reader and a writer
abbrev pub accessor_in : Dat → Option (List Accessor)
accessor_in d = method_symbol_in d >>= λ n. Some (Reader n ∷ Writer (Setf n) ∷ [])

-- those that an option asks for
abbrev pub accessors_at : Dat → Dat → Option (List Accessor)
accessors_at k v =
    if is_key (codes "READER") k then reader_in v
    else if is_key (codes "WRITER") k then writer_in v
    else if is_key (codes "ACCESSOR") k then accessor_in v
    else Some []

-- those that options ask for, in the order of the options
abbrev pub accessors_in : Dats → Option (List Accessor)
accessors_in nil = Some []
accessors_in (cons k nil) = Some []
accessors_in (cons k (cons v l)) = accessors_at k v >>= λ xs. accessors_in l >>= λ ys. Some (xs ++ ys)

-- ---- the other options

abbrev pub is_slot_key : Dat → Bool
is_slot_key k =
    is_key (codes "INITARG") k || is_key (codes "READER") k || is_key (codes "WRITER") k || is_key (codes "ACCESSOR") k
    || is_key (codes "INITFORM") k || is_key (codes "ALLOCATION") k || is_key (codes "TYPE") k || is_key (codes "DOCUMENTATION") k

abbrev pub are_slot_options : Dats → Bool
are_slot_options nil = true
are_slot_options (cons k nil) = false
are_slot_options (cons k (cons v l)) = is_slot_key k && are_slot_options l

abbrev pub allocation_in : Dat → Option Allocation
allocation_in d = if is_key (codes "INSTANCE") d then Some Instance else if is_key (codes "CLASS") d then Some Class else None

abbrev pub or_instance : Option Allocation → Allocation
or_instance None = Instance
or_instance (Some a) = a

-- ---- slots

abbrev pub slot_from : Name → Dats → Option SlotSpecifier
slot_from name l =
    each symbol_in (values_of (codes "INITARG") l)
    >>= λ initargs. accessors_in l
    >>= λ accessors. value_in form_in (codes "INITFORM") l
    >>= λ initform. value_in allocation_in (codes "ALLOCATION") l
    >>= λ allocation. value_in anything (codes "TYPE") l
    >>= λ t. value_in documentation_in (codes "DOCUMENTATION") l
    >>= λ d. Some (record { name = name; initargs = initargs; accessors = accessors; initform = initform; allocation = or_instance allocation })

abbrev pub slot_with : Name → Dats → Option SlotSpecifier
slot_with name l = if are_slot_options l then slot_from name l else None

abbrev pub listed_slot : Dats → Option SlotSpecifier
listed_slot nil = None
listed_slot (cons name l) = symbol_in name >>= λ n. slot_with n l

-- a name, or a list of a name and options
abbrev pub slot_in : Dat → Option SlotSpecifier
slot_in (integer n) = None
slot_in (symbol name) = slot_with name nil
slot_in (string s) = None
slot_in (list l) = listed_slot l
slot_in (dotted l d) = None
slot_in (method n) = None
