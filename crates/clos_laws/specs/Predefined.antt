-- The class precedence lists of the predefined classes (HyperSpec 4.3.7, figure 4-8).
use Rattle.std.specs.Prelude.{◌≡◌, ℕ, List, ◌∷◌, map, refl}
use Rattle.clos_session.specs.clos_world.clos_hierarchy.Classes.{list_in, listing}
use Rattle.clos_session.specs.clos_world.clos_hierarchy.Initial.{Row, number, predefined, rows}

-- the class of a row, and those after it
abbrev pub list_of_row : Row → List ℕ
list_of_row r = map number (r.0 ∷ r.1)

-- the list that is worked out for it
abbrev pub list_worked_out : Row → List ℕ
list_worked_out r = list_in (listing predefined (number r.0))

-- They are one, for each of the 22.
pub each_list : map list_worked_out rows ≡ map list_of_row rows
each_list = refl
