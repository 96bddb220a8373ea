-- Groups of methods (HyperSpec 7.6.6.2, 7.6.6.4, 7.7 define-method-combination).
use Rattle.std.specs.Prelude.{◌≡◌, ℕ, ◌<◌, ◌+◌, ◌==◌, Bool, true, false, is_some, List, [], ◌∷◌, filter, if◌then◌else◌, Option, Some, None, slice_get}
use Rattle.std.specs.List.{list_any}
use Rattle.lisp_data.specs.Value.{Val}
use Rattle.clos_combination.specs.Pattern.{matches}
use Rattle.clos_method.specs.declared.method.Method.{Method}
use Rattle.clos_combination.specs.declared.group.GroupSpecifier.{GroupSpecifier}

-- whether one of its patterns matches these qualifiers
abbrev pub takes : GroupSpecifier → List Val → Bool
takes g qs = list_any (λ p. matches p qs) g.patterns

-- the place of the first group that takes these qualifiers, where the first of these groups is at this place
abbrev pub first_from : ℕ → List GroupSpecifier → List Val → Option ℕ
first_from k [] qs = None
first_from k (g ∷ gs) qs = if takes g qs then Some k else first_from (k + 1) gs qs

-- the place of the group of a method with these qualifiers
abbrev pub group_for : List GroupSpecifier → List Val → Option ℕ
group_for gs qs = first_from 0 gs qs

-- the place of the group of this method, where there is one
abbrev pub group_with : List GroupSpecifier → Option Method → Option ℕ
group_with gs None = None
group_with gs (Some m) = group_for gs m.qualifiers

-- the place of the group of the method of this number
abbrev pub group_of : List Method → List GroupSpecifier → ℕ → Option ℕ
group_of methods gs m = group_with gs (slice_get methods m)

-- whether a group takes the method of this number
abbrev pub has_group : List Method → List GroupSpecifier → ℕ → Bool
has_group methods gs m = is_some (group_of methods gs m)

-- whether something was found, at this place
abbrev pub is_the : Option ℕ → ℕ → Bool
is_the None k = false
is_the (Some j) k = j == k

-- whether a method is of the group at this place
abbrev pub is_in : List Method → List GroupSpecifier → ℕ → ℕ → Bool
is_in methods gs k m = is_the (group_of methods gs m) k

-- those of these methods that are of the group at this place, in the same order
abbrev pub members : List Method → List GroupSpecifier → ℕ → List ℕ → List ℕ
members methods gs k ms = filter (is_in methods gs k) ms

-- ---- the same as a relation: the group at this place takes the qualifiers, and none before it does

-- whether there is a group, and it takes these qualifiers
abbrev pub takes_at : List Val → Option GroupSpecifier → Bool
takes_at qs None = false
takes_at qs (Some g) = takes g qs

-- these qualifiers are of the group at this place: it takes them, and no group before it does
pub record IsFirstToTake (gs : List GroupSpecifier) (qs : List Val) (k : ℕ) : Type 0 where
  pub takes_it : takes_at qs (slice_get gs k) ≡ true
  pub none_before : (j : ℕ) → j < k → takes_at qs (slice_get gs j) ≡ false
