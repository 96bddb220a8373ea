-- The state of a session (HyperSpec 3.1.1, 4.3, 7.6): lists that only grow at their ends.
use Rattle.std.specs.Prelude.{ℕ, List, [], ◌∷◌, Option, Some, None, codes, reverse, take, option_map, unwrap_or, slice_get, if◌then◌else◌}
use Rattle.lisp_data.specs.Name.{Name, same_name}
use Rattle.lisp_data.specs.Value.{Val, integer, symbol, string, list, class, generic, method, instance, nil, cons}
use Rattle.lisp_data.specs.Print.{Names, MethodParts}
use Rattle.clos_forms.specs.OperatorView.{called_of}
use Rattle.clos_comb.specs.Table as combinations
use Rattle.clos_generic.specs.Table as generics
use Rattle.clos_method.specs.declared.method.Method.{Method}
use Rattle.clos_world.specs.declared.limits.Limits.{Limits}
use Rattle.clos_world.specs.declared.functions.Function.{Function}
use Rattle.clos_world.specs.declared.tables.World.{World}
use Rattle.clos_world.specs.Globals.{Variables}
use Rattle.clos_hierarchy.specs.Initial.{number, class_of_class}
use Rattle.clos_class.specs.Table.{Table}
use Rattle.clos_store.specs.Store.{Contents}
use Rattle.clos_store.specs.Store as store
use Rattle.clos_world.specs.Hearing.{Hearing, hearing_of}
use Rattle.clos_world.specs.Class.{class_name}

-- what a lexical name denotes: a variable that holds a value (3.1.2.1.1), or the slot of this name of an object (7.7 with-slots)
pub data Denoted : Type 0 where
  held : Val → Denoted
  in_slot : Name → Val → Denoted

-- a lexical name, and what it denotes
abbrev pub Local : Type 0
Local = Name × Denoted

pub record State : Type 0 where
  pub classes : Table
  pub generics : generics.Table  -- with all methods ever made
  pub combinations : combinations.Table  -- the program's method combinations
  pub functions : List (Name × Function)  -- by symbols, in order of definition
  pub setters : List (Name × Function)  -- the functions (setf name), by that name
  pub globals : Variables  -- in order of definition
  pub hearing : Hearing  -- the dependents of classes and generic functions, and the notices of all changes
  pub store : Contents  -- the instances, and the cells of shared slots
  pub written : List ℕ
  pub limits : Limits
  pub locals : List Local  -- the lexical names of the body that runs, the innermost first; between forms none

-- a session's tables as lists; what memory is reserved for is none of the state
abbrev pub seen : World → State
seen w = record {
  classes = w.objects.classes;
  generics = w.generics.table;
  combinations = w.combinations;
  functions = w.functions;
  setters = w.setters;
  globals = w.globals;
  hearing = hearing_of w.hearing;
  store = w.objects.contents;
  written = w.written.items;
  limits = w.limits;
  locals = [];
}

-- the same, with these lexical names
abbrev pub bound_as : List Local → State → State
bound_as locals w = record w { locals = locals }

-- the same, with none
abbrev pub unbound : State → State
unbound w = bound_as [] w

-- what the innermost of this name denotes
abbrev pub local_named : List Local → Name → Option Denoted
local_named [] name = None
local_named (l ∷ ls) name = if same_name l.0 name then Some l.1 else local_named ls name

-- so many of the outermost
abbrev pub outermost : ℕ → List Local → List Local
outermost n ls = reverse (take n (reverse ls))

-- the class of an instance
abbrev pub class_of_instance : State → ℕ → Option ℕ
class_of_instance w i = option_map (λ o. o.class) (store.instance w.store i)

-- the class of a value (4.3.7)
abbrev pub class_of : State → Val → ℕ
class_of w (integer n) = number (codes "INTEGER")
class_of w (symbol s) = number (codes "SYMBOL")
class_of w (string s) = number (codes "STRING")
class_of w (list nil) = number (codes "NULL")
class_of w (list (cons v l)) = number (codes "CONS")
class_of w (class n) = class_of_class w.classes.table n
class_of w (generic n) = number (codes "STANDARD-GENERIC-FUNCTION")
class_of w (method n) = number (codes "STANDARD-METHOD")
class_of w (instance i) = unwrap_or (class_of_instance w i) (number (codes "STANDARD-OBJECT"))

abbrev pub parts_of : Method → MethodParts
parts_of m = record { generic = m.generic.0; qualifiers = m.qualifiers; specializers = m.specializers }

-- what the numbers in values stand for
abbrev pub names_of : State → Names
names_of w = record {
  class = λ n. class_name w.classes n;
  generic = λ n. option_map (λ g. called_of g.name) (slice_get w.generics.functions n);
  method = λ n. option_map parts_of (slice_get w.generics.methods n);
  class_of = λ i. class_of_instance w i;
}
