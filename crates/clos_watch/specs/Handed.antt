-- The dependents that a session was handed, in a list.
use Rattle.std.specs.Prelude.{suc, ℕ, List, [], ◌∷◌, Option, Some, None, option_map, if◌then◌else◌}
use Rattle.lisp_data.specs.Name.{Name, same_name}

-- what is known of the one at a place, where there is one
abbrev pub at_place : {A B : Type 0} → (A → B) → B → Option A → B
at_place f b None = b
at_place f b (Some a) = f a

-- the place of the first of this name
abbrev pub place_of : List Name → Name → Option ℕ
place_of [] name = None
place_of (n ∷ ns) name = if same_name n name then Some 0 else option_map suc (place_of ns name)
