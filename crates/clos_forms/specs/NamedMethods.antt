-- What stands in a call-method form: the methods that it names (HyperSpec 7.6.6.2, 7.7 call-method).
use Rattle.std.specs.Prelude.{ℕ, List, [], ◌∷◌, ◌++◌, Option, Some, None, codes, if◌then◌else◌}
use Rattle.lisp_data.specs.Name.{Name}
use Rattle.lisp_data.specs.Datum.{Dat, integer, symbol, string, list, dotted, method, Dats, nil, cons}
use Rattle.clos_forms.specs.Binding.{each_in}
use Rattle.clos_forms.specs.Fault.{◌>>=◌}
use Rattle.clos_forms.specs.FunctionName.{symbol_in}
use Rattle.clos_names.specs.Names.{is_called}
use Rattle.clos_forms.specs.Operator.{Callable, the_method, made, call_method}
use Rattle.clos_forms.specs.Part.{Part, Shape, shape, optional, only_in, at_most_one}

-- the method of this number, or one that is made of the form of this datum
pub data NamedMethod : Type 0 where
  numbered : ℕ → NamedMethod
  made_of : Dat → NamedMethod

-- what is called
abbrev pub callable_of : NamedMethod → Callable
callable_of (numbered n) = the_method n
callable_of (made_of d) = made

-- the datum of the form of which the method is made, where it is
abbrev pub form_in : NamedMethod → Option Dat
form_in (numbered n) = None
form_in (made_of d) = Some d

-- the same of each, in order
abbrev pub callables_of : List NamedMethod → List Callable
callables_of [] = []
callables_of (m ∷ ms) = callable_of m ∷ callables_of ms

-- the forms of those that are made
abbrev pub made_parts : List NamedMethod → List Part
made_parts [] = []
made_parts (m ∷ ms) = optional (form_in m) ++ made_parts ms

-- MAKE-METHOD, and exactly one form
abbrev pub headed_method : Name → Dats → Option NamedMethod
headed_method head rest = if is_called (codes "MAKE-METHOD") head then only_in rest >>= (λ d. Some (made_of d)) else None

-- (make-method form), and no other list
abbrev pub listed_method : Dats → Option NamedMethod
listed_method nil = None
listed_method (cons head rest) = symbol_in head >>= λ n. headed_method n rest

-- a method, or (make-method form)
abbrev pub method_in : Dat → Option NamedMethod
method_in (integer n) = None
method_in (symbol name) = None
method_in (string s) = None
method_in (list l) = listed_method l
method_in (dotted l d) = None
method_in (method n) = Some (numbered n)

-- a list of methods, which may be written NIL; where none is given there are no methods
abbrev pub methods_if_any : Option Dat → Option (List NamedMethod)
methods_if_any None = Some []
methods_if_any (Some d) = each_in method_in d

-- one list of next methods at most
abbrev pub next_methods_in : Dats → Option (List NamedMethod)
next_methods_in l = at_most_one l >>= methods_if_any

-- a call of a method with its next methods, and the forms of those that are made
abbrev pub calling : NamedMethod → List NamedMethod → Shape
calling m ms = shape (call_method (callable_of m) (callables_of ms)) (optional (form_in m) ++ made_parts ms)

-- the method that is called, and its next methods
abbrev pub call_method_shape : Dats → Option Shape
call_method_shape nil = None
call_method_shape (cons d rest) = method_in d >>= λ m. next_methods_in rest >>= λ ms. Some (calling m ms)
