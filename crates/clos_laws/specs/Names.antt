-- The names of the functions of the language (HyperSpec 3.1.2.1.2.3).
use Rattle.std.specs.Prelude.{◌≡◌, Bool, true, false, map, refl}
use Rattle.lisp_data.specs.Name.{Name}
use Rattle.clos_forms.specs.clos_names.Callee.{callee_of}
use Rattle.clos_forms.specs.clos_names.Names.{functions, is_one_of, system_functions as system_names}
use Rattle.clos_forms.specs.clos_names.declared.callee.Callee.{Callee}
use Rattle.clos_forms.specs.clos_names.declared.callee.Callee.TheVariants.{Defined}
use Rattle.clos_session.specs.clos_world.clos_method.System.{system_functions, system_text}

-- whether it is a function of the language, and not one that the program or the system may have defined
abbrev pub is_of_language : Callee → Bool
is_of_language Defined = false
is_of_language c = true

-- A name is among the names of these functions exactly where a call of it calls one.
abbrev pub FunctionsAreNamed : Type 0
FunctionsAreNamed = (name : Name) → is_of_language (callee_of name) ≡ is_one_of functions name

-- The generic functions of the system have the names that are listed, in this order.
pub each_system_name : map system_text system_functions ≡ system_names
each_system_name = refl
