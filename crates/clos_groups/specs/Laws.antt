-- What follows from the definitions of groups (HyperSpec 7.7 define-method-combination).
use Rattle.std.specs.Prelude.{◌≡◌, ◌↔◌, ℕ, List, Some}
use Rattle.lisp_data.specs.Value.{Val}
use Rattle.clos_groups.specs.Group.{IsFirstToTake, group_for}
use Rattle.clos_combination.specs.declared.group.GroupSpecifier.{GroupSpecifier}

-- the group at a place is the one of these qualifiers exactly where it takes them, and none before it does
abbrev pub TakesFirst : Type 0
TakesFirst = (gs : List GroupSpecifier) (qs : List Val) (k : ℕ) → (group_for gs qs ≡ Some k) ↔ IsFirstToTake gs qs k
