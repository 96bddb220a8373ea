-- The generic functions with which a session begins: the system's (HyperSpec 7.1, 7.3, 7.6.6.1, 7.7).
use Rattle.std.specs.Prelude.{ℕ, zero, suc, codes, false, List, [], ◌∷◌, ◌++◌, length, map}
use Rattle.lisp_data.specs.Datum.{nil}
use Rattle.clos_forms.specs.declared.operator.FunctionName.TheVariants.{Symbol}
use Rattle.clos_method.specs.Method.{system_method}
use Rattle.clos_method.specs.System.{system_functions, system_number, system_required, system_shape, system_text}
use Rattle.clos_method.specs.declared.shape.Shape.{Shape}
use Rattle.clos_method.specs.declared.system.SystemFunction.{SystemFunction}
use Rattle.clos_syntax.specs.declared.generic.CombinationUse.{CombinationUse}
use Rattle.clos_generic.specs.Table.{Function, Table, with_method}
use Rattle.clos_generic.specs.TableView.{with_made}
use Rattle.clos_generic.specs.declared.options.Options.{Options}

-- from left to right (7.6.6.1.2): the places of so many required parameters
abbrev pub left_to_right : ℕ → List ℕ
left_to_right zero = []
left_to_right (suc n) = left_to_right n ++ n ∷ []

-- the standard method combination (7.6.6.2), without arguments
abbrev pub standard : CombinationUse
standard = record { name = record { text = codes "STANDARD"; keyword = false }; arguments = nil }

abbrev pub system_generic : SystemFunction → Function
system_generic f = record {
  name = Symbol (record { text = system_text f; keyword = false });
  shape = system_shape f;
  precedence = left_to_right (system_required f);
  combination = standard;
  methods = system_number f ∷ [];
}

abbrev pub empty : ℕ → ℕ → Table
empty functions methods = record { functions = []; methods = []; most_functions = functions; most_methods = methods }

-- of a function of this shape, where no options are written
abbrev pub standard_options : Shape → Options
standard_options s = record { shape = s; precedence = left_to_right s.required; combination = standard }

abbrev pub system_options : SystemFunction → Options
system_options f = standard_options (system_shape f)

-- with one more, and its method
abbrev pub with_system : SystemFunction → Table → Table
with_system f t = with_method (length t.functions) (system_method f) (with_made (system_generic f).name (system_options f) t)

-- with these, one after another
abbrev pub with_systems : List SystemFunction → Table → Table
with_systems [] t = t
with_systems (f ∷ fs) t = with_systems fs (with_system f t)

-- room for so many functions and methods besides
abbrev pub initial : ℕ → ℕ → Table
initial functions methods = record {
  functions = map system_generic system_functions;
  methods = map system_method system_functions;
  most_functions = functions;
  most_methods = methods;
}
