-- Names that a program may give its functions (HyperSpec 11.1.2.1.2).
use Rattle.std.specs.Prelude.{Bool, ◌||◌, Option, Some, None, if◌then◌else◌}
use Rattle.lisp_data.specs.Name.{Name}
use Rattle.lisp_data.specs.Print.{Called, by_symbol, by_setf}
use Rattle.lisp_data.specs.Datum.{Dat}
use Rattle.clos_forms.specs.Fault.{◌>>=◌}
use Rattle.clos_forms.specs.FunctionName.{function_named, symbol_in}
use Rattle.clos_forms.specs.clos_names.Names.{is_one_of, functions, system_functions, closed_functions}
use Rattle.clos_forms.specs.clos_names.Special.{special_operators}
use Rattle.clos_forms.specs.declared.operator.FunctionName.{FunctionName}
use Rattle.clos_forms.specs.declared.operator.FunctionName.TheVariants.{Symbol, Setf}

-- names on which a program has no methods
abbrev pub is_taken : Name → Bool
is_taken name = is_one_of special_operators name || is_one_of functions name || is_one_of closed_functions name

abbrev pub unless_taken : Name → Option Name
unless_taken name = if is_taken name then None else Some name

-- names of functions that a program neither defines nor defines again
abbrev pub unless_system : Name → Option Name
unless_system name = if is_one_of system_functions name then None else unless_taken name

-- a symbol's name is tested; that of SETF and a symbol is free whatever the symbol
abbrev pub if_free : (Name → Option Name) → Called → Option FunctionName
if_free free (by_symbol name) = free name >>= λ n. Some (Symbol n)
if_free free (by_setf name) = Some (Setf name)

-- the name of a function that gets methods
abbrev pub method_function_in : Dat → Option FunctionName
method_function_in d = function_named d >>= if_free unless_taken

-- the name of a function that is defined
abbrev pub new_function_in : Dat → Option FunctionName
new_function_in d = function_named d >>= if_free unless_system

-- a symbol that names a function that gets methods
abbrev pub method_symbol_in : Dat → Option Name
method_symbol_in d = symbol_in d >>= unless_taken
