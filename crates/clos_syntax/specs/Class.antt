-- Classes (HyperSpec 7.7 defclass).
use Rattle.std.specs.Prelude.{ℕ, List, [], ◌∷◌, ◌||◌, codes, Option, Some, None, if◌then◌else◌}
use Rattle.lisp_data.specs.Name.{Name}
use Rattle.lisp_data.specs.Datum.{Dat, Dats, nil, cons}
use Rattle.clos_forms.specs.Binding.{each}
use Rattle.clos_forms.specs.Distinct.{are_distinct}
use Rattle.clos_forms.specs.Fault.{◌>>=◌}
use Rattle.clos_forms.specs.FunctionName.{symbol_in}
use Rattle.clos_forms.specs.clos_names.Names.{is_one_of}
use Rattle.clos_forms.specs.Part.{only_in}
use Rattle.clos_lambda.specs.Lists.{list_in, or_none}
use Rattle.clos_lambda.specs.Sections.{is_symbol_called}
use Rattle.clos_lambda.specs.PlainForm.{form_in}
use Rattle.clos_lambda.specs.Property.{documentation_in, is_option, option_in, arguments_in}
use Rattle.clos_defclass.specs.Names.{default_names, slot_names}
use Rattle.clos_defclass.specs.declared.class.ClassDefinition.{ClassDefinition}
use Rattle.clos_defclass.specs.declared.class.DefaultInitarg.{DefaultInitarg}
use Rattle.clos_defclass.specs.declared.slot.SlotSpecifier.{SlotSpecifier}
use Rattle.clos_syntax.specs.Slot.{slot_in}

-- the classes that there are from the start (4.3.7)
abbrev pub predefined_classes : List (List ℕ)
predefined_classes =
    codes "T" ∷ codes "STANDARD-OBJECT" ∷ codes "INTEGER" ∷ codes "RATIONAL" ∷ codes "REAL" ∷ codes "NUMBER" ∷ codes "NULL" ∷ codes "SYMBOL"
    ∷ codes "LIST" ∷ codes "SEQUENCE" ∷ codes "CONS" ∷ codes "STRING" ∷ codes "VECTOR" ∷ codes "ARRAY" ∷ codes "FUNCTION" ∷ codes "GENERIC-FUNCTION"
    ∷ codes "STANDARD-GENERIC-FUNCTION" ∷ codes "CLASS" ∷ codes "STANDARD-CLASS" ∷ codes "BUILT-IN-CLASS" ∷ codes "STANDARD-METHOD" ∷ codes "METHOD" ∷ []

abbrev pub unless_predefined : Name → Option Name
unless_predefined name = if is_one_of predefined_classes name then None else Some name

abbrev pub new_class_in : Dat → Option Name
new_class_in d = symbol_in d >>= unless_predefined

abbrev pub if_distinct_names : List Name → Option (List Name)
if_distinct_names ns = if are_distinct ns then Some ns else None

-- ---- superclasses and slots

-- symbols, none twice
abbrev pub superclasses_in : Dat → Option (List Name)
superclasses_in d = list_in d >>= each symbol_in >>= if_distinct_names

abbrev pub if_distinct_slots : List SlotSpecifier → Option (List SlotSpecifier)
if_distinct_slots ss = if are_distinct (slot_names ss) then Some ss else None

abbrev pub slots_in : Dat → Option (List SlotSpecifier)
slots_in d = list_in d >>= each slot_in >>= if_distinct_slots

-- ---- options

abbrev pub class_option_in : Dat → Option (Unit {0})
class_option_in d =
    if is_option (codes "DEFAULT-INITARGS") d || is_option (codes "DOCUMENTATION") d || is_option (codes "METACLASS") d then Some tt else None

abbrev pub default_with : Dat → Dat → Option DefaultInitarg
default_with k v = symbol_in k >>= λ n. form_in v >>= λ f. Some (record { name = n; form = f })

-- names and forms in turn
abbrev pub defaults_from : Dats → Option (List DefaultInitarg)
defaults_from nil = Some []
defaults_from (cons k nil) = None
defaults_from (cons k (cons v l)) = default_with k v >>= λ x. defaults_from l >>= λ xs. Some (x ∷ xs)

abbrev pub if_distinct_defaults : List DefaultInitarg → Option (List DefaultInitarg)
if_distinct_defaults ds = if are_distinct (default_names ds) then Some ds else None

abbrev pub defaults_in : Dat → Option (List DefaultInitarg)
defaults_in d = arguments_in d >>= defaults_from >>= if_distinct_defaults

-- the one datum after an option's keyword
abbrev pub only_argument_in : Dat → Option Dat
only_argument_in d = arguments_in d >>= only_in

-- a string alone
abbrev pub documentation_option_in : Dat → Option (Unit {0})
documentation_option_in d = only_argument_in d >>= documentation_in

abbrev pub standard_class_in : Dat → Option (Unit {0})
standard_class_in d = if is_symbol_called (codes "STANDARD-CLASS") d then Some tt else None

-- (:metaclass standard-class)
abbrev pub metaclass_in : Dat → Option (Unit {0})
metaclass_in d = only_argument_in d >>= standard_class_in

-- the default initargs of a defclass's options
abbrev pub class_options_in : Dats → Option (List DefaultInitarg)
class_options_in l =
    each class_option_in l
    >>= λ known. option_in documentation_option_in (codes "DOCUMENTATION") l
    >>= λ documentation. option_in metaclass_in (codes "METACLASS") l
    >>= λ metaclass. option_in defaults_in (codes "DEFAULT-INITARGS") l
    >>= λ defaults. Some (or_none defaults)

-- ---- classes

abbrev pub class_with : Dat → Dat → Dat → Dats → Option ClassDefinition
class_with name superclasses slots options =
    new_class_in name
    >>= λ n. superclasses_in superclasses
    >>= λ cs. slots_in slots
    >>= λ ss. class_options_in options
    >>= λ ds. Some (record { name = n; superclasses = cs; slots = ss; defaults = ds })

-- a name, superclasses, slots, and options
abbrev pub class_in : Dats → Option ClassDefinition
class_in nil = None
class_in (cons name nil) = None
class_in (cons name (cons superclasses nil)) = None
class_in (cons name (cons superclasses (cons slots options))) = class_with name superclasses slots options
