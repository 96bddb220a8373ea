-- The table of generic functions as its contracts see it.
use Rattle.std.specs.Prelude.{◌≡◌, ℕ, ◌<◌, ◌==◌, Bool, true, List, [], ◌∷◌, ◌++◌, Option, Some, None, length, option_map, map, slice_get, if◌then◌else◌}
use Rattle.std.specs.List.{list_any}
use Rattle.lisp_data.specs.Name.{Name}
use Rattle.lisp_data.specs.declared.ids.GenericId.{GenericId}
use Rattle.clos_forms.specs.declared.operator.FunctionName.{FunctionName}
use Rattle.clos_method.specs.MethodIds.{method_numbers}
use Rattle.clos_method.specs.declared.method.Method.{Method}
use Rattle.clos_generic.specs.Table.{Function, Table, made, methods_in, named_in, redefined, same_function, with_changed}
use Rattle.clos_generic.specs.declared.options.Options.{Options}
use Rattle.clos_generic.specs.declared.function.Function as code

-- a function as the definitions have it
abbrev pub function_of : code.Function → Function
function_of f = record {
  name = f.name;
  shape = f.options.shape;
  precedence = f.options.precedence;
  combination = f.options.combination;
  methods = method_numbers f.methods.items;
}

abbrev pub functions_in : List code.Function → List Function
functions_in fs = map function_of fs

-- with one more function
abbrev pub with_made : FunctionName → Options → Table → Table
with_made name o t = record t { functions = t.functions ++ made name o ∷ [] }

-- with other options of the function of this number
abbrev pub with_redefined : ℕ → Options → Table → Table
with_redefined g o t = record t { functions = with_changed (redefined o) g t.functions }

-- whether the method of this number is one of this function's
abbrev pub is_method_of : List Function → ℕ → ℕ → Bool
is_method_of fs g n = list_any (λ k. k == n) (methods_in (slice_get fs g))

-- Each method of a function is among all methods.
abbrev pub AreThere : List Function → List Method → Type 0
AreThere fs methods = (g n : ℕ) → is_method_of fs g n ≡ true → n < length methods

-- of each of these names this is the number of its function
abbrev pub IsIndexed : List Function → (Name → FunctionName) → (Name → Option GenericId) → Type 0
IsIndexed fs called numbered = (name : Name) → option_map (λ g. g.0) (numbered name) ≡ named_in fs (called name)

-- the number of the one name
abbrev pub noted : FunctionName → GenericId → FunctionName → Option GenericId
noted name id n = if same_function name n then Some id else None
