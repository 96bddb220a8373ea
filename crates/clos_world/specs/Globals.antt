-- Global variables (HyperSpec 3.1.2.1.1): each name with its value, where it has one.
use Rattle.std.specs.Prelude.{List, [], ◌∷◌, Bool, Option, Some, None, is_some, if◌then◌else◌}
use Rattle.std.specs.List.{list_any}
use Rattle.std.specs.Map.{lookup}
use Rattle.lisp_data.specs.Name.{Name, same_name}
use Rattle.lisp_data.specs.Value.{Val}

abbrev pub Variables : Type 0
Variables = List (Name × Option Val)

-- whether there is a variable of this name, with a value or without
abbrev pub is_global : Variables → Name → Bool
is_global gs name = is_some (lookup (same_name name) gs)

abbrev pub if_bound : Option (Option Val) → Option Val
if_bound None = None
if_bound (Some value) = value

-- the value of the variable of this name, where it has one
abbrev pub global_value : Variables → Name → Option Val
global_value gs name = if_bound (lookup (same_name name) gs)

-- the variables after this one has this value, or none: a new one comes last
abbrev pub with_global : Name → Option Val → Variables → Variables
with_global name value [] = (name, value) ∷ []
with_global name value (g ∷ gs) = if same_name name g.0 then (g.0, value) ∷ gs else g ∷ with_global name value gs

-- whether one of these names is a global variable's
abbrev pub any_global : Variables → List Name → Bool
any_global gs names = list_any (λ n. is_global gs n) names
