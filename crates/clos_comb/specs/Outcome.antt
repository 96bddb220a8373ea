-- What applicable methods are combined into (HyperSpec 7.6.6).
use Rattle.std.specs.Prelude.{ℕ, codes, Bool, true, false, List, Option, Some, None, option_map, slice_get, unwrap_or}
use Rattle.lisp_data.specs.Name.{Name}
use Rattle.clos_forms.specs.Form.{Form}
use Rattle.clos_groups.specs.Refusal as group
use Rattle.clos_groups.specs.Refusal.{Refusal}
use Rattle.clos_groups.specs.clos_combination.declared.group.GroupSpecifier.{GroupSpecifier}
use Rattle.clos_comb.specs.Groups.{plain}

pub data Combined : Type 0 where
  effective : Form → Combined  -- the effective method
  invalid_method : ℕ → Combined  -- no group takes this method
  group_empty : Name → Combined  -- the group of this name has no method, and has to have one
  ambiguous_methods : ℕ → ℕ → Combined  -- these are of one group, and their specializers are equal; the first was added first
  bad_expansion : Combined  -- arguments or orders do not fit, or what comes of them is no effective form
  expansion_limit : Combined  -- a long form's template makes too many conses, or what comes of it nests too deep

-- the form of a datum; a datum that has none is a bad expansion
abbrev pub formed : Option Form → Combined
formed None = bad_expansion
formed (Some f) = effective f

-- the name of the group at this place
abbrev pub name_at : List GroupSpecifier → ℕ → Name
name_at gs k = unwrap_or (option_map (λ g. g.name) (slice_get gs k)) (plain (codes "NIL"))

-- why methods are not combined by these groups
abbrev pub refused : List GroupSpecifier → Refusal → Combined
refused gs (group.invalid_method m) = invalid_method m
refused gs (group.group_empty k) = group_empty (name_at gs k)
refused gs (group.ambiguous_methods m n) = ambiguous_methods m n

-- what they are combined into, unless they are refused
abbrev pub unless_refused : List GroupSpecifier → Option Refusal → Combined → Combined
unless_refused gs None c = c
unless_refused gs (Some r) c = refused gs r

-- the same, where PRIMARY is the one group that has to have a method
abbrev pub refused_primary : Refusal → Combined
refused_primary (group.invalid_method m) = invalid_method m
refused_primary (group.group_empty k) = group_empty (plain (codes "PRIMARY"))
refused_primary (group.ambiguous_methods m n) = ambiguous_methods m n

-- whether a refusal is about a method that no group takes
abbrev pub is_method : Refusal → Bool
is_method (group.invalid_method m) = true
is_method (group.group_empty k) = false
is_method (group.ambiguous_methods m n) = false
