-- The classes directly below each name, as they are noted.
use Rattle.std.specs.Prelude.{◌≡◌, ℕ, true, List, [], Option, Some, None, position}
use Rattle.std.specs.List.{list_any}
use Rattle.lisp_data.specs.Name.{Name, same_name}
use Rattle.clos_precedence.specs.Precedence.{has}
use Rattle.clos_hierarchy.specs.Classes.{Classes, names_above}
use Rattle.clos_hierarchy.specs.inner.Below.{below_at}

-- names, and by the place of each the classes that are noted below it
pub record Index : Type 0 where
  pub names : List Name
  pub rows : List (List ℕ)

-- the row of the name at this place, where it has one
abbrev pub row_if : Option ℕ → List (List ℕ) → List ℕ
row_if None rows = []
row_if (Some n) rows = below_at rows n

-- the classes that are noted below a name
abbrev pub directly_below : Index → Name → List ℕ
directly_below d x = row_if (position (same_name x) d.names) d.rows

-- what was noted is noted still
abbrev pub Spreads : Index → Index → Type 0
Spreads old new = (x : Name) (n : ℕ) → has (directly_below old x) n ≡ true → has (directly_below new x) n ≡ true

-- each class is noted below the names of its direct superclasses
abbrev pub AreDirect : Classes → Index → Type 0
AreDirect cs d = (n : ℕ) (x : Name) → list_any (same_name x) (names_above cs n) ≡ true → has (directly_below d x) n ≡ true

-- the classes that are noted below the name of a class, where there is such a class
abbrev pub below_if : Index → Option Name → List ℕ
below_if d None = []
below_if d (Some x) = directly_below d x
