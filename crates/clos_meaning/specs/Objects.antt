-- The classes of which instances can be made (HyperSpec 7.1.1).
use Rattle.std.specs.Prelude.{ℕ, List, [], ◌∷◌, Option, Some, None, Result, Ok, Err, if◌then◌else◌}
use Rattle.lisp_data.specs.Name.{Name}
use Rattle.lisp_data.specs.Value.{Val, integer, symbol, string, list, class, generic, method, instance, nil, cons}
use Rattle.clos_forms.specs.Quotation.{name_value}
use Rattle.clos_world.specs.clos_hierarchy.Initial.{is_standard}
use Rattle.clos_world.specs.clos_class.Table.{Table}
use Rattle.clos_world.specs.Class.{named, precedence, class_name}
use Rattle.clos_world.specs.Condition.{nil_name}
use Rattle.clos_world.specs.declared.condition.Condition.{Condition}
use Rattle.clos_world.specs.declared.condition.ConditionKind.TheVariants.{TypeError, UndefinedClass, Unsupported}
use Rattle.clos_meaning.specs.ClassFunctions.{incomplete_class}

-- a class without a class precedence list is not complete; the condition tells its name
abbrev pub if_complete : ℕ → Option Name → Option (List ℕ) → Result ℕ Condition
if_complete n name None = Err (incomplete_class name)
if_complete n name (Some l) = Ok n

-- a class of which there can be instances: a standard one that is complete
abbrev pub instantiable : Table → ℕ → Result ℕ Condition
instantiable cs n = if is_standard cs.table n then if_complete n (class_name cs n) (precedence cs n) else Err (record { kind = Unsupported; items = [] })

-- the class that a symbol names; where it names none, UNDEFINED-CLASS
abbrev pub class_found : Table → Name → Option ℕ → Result ℕ Condition
class_found cs name None = Err (record { kind = UndefinedClass; items = name_value name ∷ [] })
class_found cs name (Some n) = instantiable cs n

-- the class that a value designates
abbrev pub designated : Table → Val → Result ℕ Condition
designated cs (symbol name) = class_found cs name (named cs name)
designated cs (list nil) = class_found cs nil_name (named cs nil_name)
designated cs (list (cons v l)) = Err (record { kind = TypeError; items = list (cons v l) ∷ [] })
designated cs (integer n) = Err (record { kind = TypeError; items = integer n ∷ [] })
designated cs (string s) = Err (record { kind = TypeError; items = string s ∷ [] })
designated cs (class n) = instantiable cs n
designated cs (generic n) = Err (record { kind = TypeError; items = generic n ∷ [] })
designated cs (method n) = Err (record { kind = TypeError; items = method n ∷ [] })
designated cs (instance n) = Err (record { kind = TypeError; items = instance n ∷ [] })
