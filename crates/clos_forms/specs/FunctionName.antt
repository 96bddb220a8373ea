-- Names of functions (HyperSpec glossary, function name), and symbols where one is wanted.
use Rattle.std.specs.Prelude.{Option, Some, None, codes, if◌then◌else◌}
use Rattle.lisp_data.specs.Name.{Name}
use Rattle.lisp_data.specs.Print.{Called, by_symbol, by_setf}
use Rattle.lisp_data.specs.Datum.{Dat, integer, symbol, string, list, dotted, method, Dats, nil, cons}
use Rattle.clos_forms.specs.Fault.{◌>>=◌}
use Rattle.clos_names.specs.Names.{is_called, is_constant}
use Rattle.clos_forms.specs.Part.{only_in}

-- the name of any symbol, also of NIL, T or a keyword
abbrev pub symbol_in : Dat → Option Name
symbol_in (integer n) = None
symbol_in (symbol name) = Some name
symbol_in (string s) = None
symbol_in (list l) = None
symbol_in (dotted l d) = None
symbol_in (method n) = None

-- a name other than NIL, T and the keywords, which may not be bound or set (3.1.2.1.1.3)
abbrev pub unless_constant : Name → Option Name
unless_constant name = if is_constant name then None else Some name

-- a symbol that may be bound or set (3.1.2.1.1)
abbrev pub variable_in : Dat → Option Name
variable_in d = symbol_in d >>= unless_constant

-- the one symbol of a list
abbrev pub only_symbol_in : Dats → Option Name
only_symbol_in l = only_in l >>= symbol_in

-- the symbol after SETF
abbrev pub setf_name : Name → Dats → Option Called
setf_name head rest = if is_called (codes "SETF") head then only_symbol_in rest >>= (λ n. Some (by_setf n)) else None

-- (setf symbol), and no other list
abbrev pub listed_name : Dats → Option Called
listed_name nil = None
listed_name (cons head rest) = symbol_in head >>= λ n. setf_name n rest

-- a symbol, or a list of SETF and a symbol
abbrev pub function_named : Dat → Option Called
function_named (integer n) = None
function_named (symbol name) = Some (by_symbol name)
function_named (string s) = None
function_named (list l) = listed_name l
function_named (dotted l d) = None
function_named (method n) = None
