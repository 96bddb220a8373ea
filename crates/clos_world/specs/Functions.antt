-- Functions that defun defines (HyperSpec 5.3), by their names.
use Rattle.std.specs.Prelude.{List, [], ◌∷◌, Option, if◌then◌else◌}
use Rattle.std.specs.Map.{lookup}
use Rattle.lisp_data.specs.Name.{Name, same_name}
use Rattle.clos_world.specs.declared.functions.Function.{Function}

abbrev pub Named : Type 0
Named = List (Name × Function)

-- the function of this name
abbrev pub function_in : Named → Name → Option Function
function_in fs name = lookup (same_name name) fs

-- the functions after this one is defined: a new name comes last
abbrev pub with_function : Name → Function → Named → Named
with_function name function [] = (name, function) ∷ []
with_function name function (f ∷ fs) = if same_name name f.0 then (f.0, function) ∷ fs else f ∷ with_function name function fs
