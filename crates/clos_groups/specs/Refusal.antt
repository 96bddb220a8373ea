-- What keeps the methods of groups from being combined (HyperSpec 7.6.6.2, 7.7 define-method-combination).
use Rattle.std.specs.Prelude.{ℕ, ◌+◌, ◌==◌, Bool, false, not, ◌&&◌, List, [], ◌∷◌, filter, Option, Some, None, if◌then◌else◌, slice_get}
use Rattle.std.specs.List.{find, list_any}
use Rattle.lisp_data.specs.Print.{Specializer}
use Rattle.clos_method.specs.Specializer.{same_specializers}
use Rattle.clos_method.specs.declared.method.Method.{Method}
use Rattle.clos_groups.specs.Group.{has_group, is_in, members}
use Rattle.clos_combination.specs.declared.group.GroupSpecifier.{GroupSpecifier}

-- why methods are not combined, with the method, the group or the pair that is at fault
pub data Refusal : Type 0 where
  invalid_method : ℕ → Refusal  -- no group takes this method
  group_empty : ℕ → Refusal  -- there has to be a method in the group at this place
  ambiguous_methods : ℕ → ℕ → Refusal  -- these are of one group, and their specializers are equal

-- the first method that no group takes
abbrev pub ungrouped : List Method → List GroupSpecifier → List ℕ → Option ℕ
ungrouped methods gs ms = find (λ m. not (has_group methods gs m)) ms

-- the place of the first group from this place on that has no method, and has to have one
abbrev pub empty_from : List Method → List GroupSpecifier → List ℕ → ℕ → List GroupSpecifier → Option ℕ
empty_from methods gs ms k [] = None
empty_from methods gs ms k (g ∷ rest) =
    if g.required && not (list_any (is_in methods gs k) ms) then Some k else empty_from methods gs ms (k + 1) rest

-- ---- methods of equal specializers

-- whether there is a method, and it has these specializers
abbrev pub is_specialized_so : List Specializer → Option Method → Bool
is_specialized_so ss None = false
is_specialized_so ss (Some m) = same_specializers m.specializers ss

-- the first of these methods that has these specializers
abbrev pub specialized_so : List Method → List Specializer → List ℕ → Option ℕ
specialized_so methods ss ms = find (λ m. is_specialized_so ss (slice_get methods m)) ms

-- the first of these methods that has the specializers of this one
abbrev pub twin_of : List Method → Option Method → List ℕ → Option ℕ
twin_of methods None ms = None
twin_of methods (Some m) ms = specialized_so methods m.specializers ms

-- the pair of this method and its twin, where it has one; else a later pair
abbrev pub or_later : ℕ → Option ℕ → Option (ℕ × ℕ) → Option (ℕ × ℕ)
or_later m (Some n) later = Some (m, n)
or_later m None later = later

-- of the pairs of equal specializers the one whose earlier method, and then whose later one, comes first
abbrev pub twins : List Method → List ℕ → Option (ℕ × ℕ)
twins methods [] = None
twins methods (m ∷ ms) = or_later m (twin_of methods (slice_get methods m) ms) (twins methods ms)

-- those of the methods that were added, in order of addition, that are among these
abbrev pub among : List ℕ → List ℕ → List ℕ
among ms added = filter (λ m. list_any (λ n. n == m) ms) added

-- the pair of a group, where it has one; else that of a later group
abbrev pub or_twins : Option (ℕ × ℕ) → Option (ℕ × ℕ) → Option (ℕ × ℕ)
or_twins (Some p) later = Some p
or_twins None later = later

-- the pair of the first group from this place on that has one; these methods are in order of addition
abbrev pub ambiguous_from : List Method → List GroupSpecifier → List ℕ → ℕ → List GroupSpecifier → Option (ℕ × ℕ)
ambiguous_from methods gs ms k [] = None
ambiguous_from methods gs ms k (g ∷ rest) = or_twins (twins methods (members methods gs k ms)) (ambiguous_from methods gs ms (k + 1) rest)

-- ---- the first of these that is so

-- a pair is refused
abbrev pub told_pair : Option (ℕ × ℕ) → Option Refusal
told_pair None = None
told_pair (Some p) = Some (ambiguous_methods p.0 p.1)

-- an empty group comes before a pair
abbrev pub or_ambiguous : Option ℕ → Option (ℕ × ℕ) → Option Refusal
or_ambiguous (Some k) pair = Some (group_empty k)
or_ambiguous None pair = told_pair pair

-- a method without a group comes before an empty group
abbrev pub or_empty : Option ℕ → Option ℕ → Option (ℕ × ℕ) → Option Refusal
or_empty (Some m) empty pair = Some (invalid_method m)
or_empty None empty pair = or_ambiguous empty pair

-- Why these methods of a function, of which these were added in this order, are not combined by groups.
abbrev pub refusal : List Method → List GroupSpecifier → List ℕ → List ℕ → Option Refusal
refusal methods gs added ms =
    or_empty (ungrouped methods gs ms) (empty_from methods gs ms 0 gs) (ambiguous_from methods gs (among ms added) 0 gs)
