-- What the names in a template stand for: groups, parameters and locals, the innermost last.
use Rattle.std.specs.Prelude.{List, [], ◌∷◌, Option, Some, None, if◌then◌else◌}
use Rattle.lisp_data.specs.Name.{Name, same_name}
use Rattle.lisp_data.specs.Datum.{Dat}

-- a group, a parameter or a local, with the datum for which it stands
pub record Binding : Type 0 where
  pub name : Name
  pub value : Dat

-- all that is bound where a template stands; of two with one name the later one hides the earlier
abbrev pub Env : Type 0
Env = List Binding

-- a name that is to stand for this datum
abbrev pub bound : Name → Dat → Binding
bound name d = record { name = name; value = d }

-- what a name stands for further in; else this binding's datum, where it is one of that name
abbrev pub or_here : Option Dat → Binding → Name → Option Dat
or_here (Some d) b name = Some d
or_here None b name = if same_name b.name name then Some b.value else None

-- the innermost of this name
abbrev pub value_of : Env → Name → Option Dat
value_of [] name = None
value_of (b ∷ bs) name = or_here (value_of bs name) b name
