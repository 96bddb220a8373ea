-- The method combinations of a session (HyperSpec 7.6.6.4, 7.7 define-method-combination).
use Rattle.std.specs.Prelude.{ℕ, codes, Bool, not, ◌||◌, nat_lt, is_some, List, [], ◌∷◌, length, map, Option, Some, None, option_map, if◌then◌else◌}
use Rattle.std.specs.List.{find}
use Rattle.std.specs.Map.{lookup}
use Rattle.std.specs.Str.{bytes_eq}
use Rattle.lisp_data.specs.Name.{Name, same_name}
use Rattle.lisp_data.specs.Datum.{Dats}
use Rattle.clos_forms.specs.clos_names.Names.{is_called}
use Rattle.clos_groups.specs.clos_combination.declared.combination.CombinationDefinition.{CombinationDefinition}
use Rattle.clos_groups.specs.clos_combination.declared.combination.CombinationDefinition.TheVariants.{Short, Long}
use Rattle.clos_groups.specs.clos_combination.declared.combination.LongForm.{LongForm}
use Rattle.clos_groups.specs.clos_combination.declared.combination.ShortForm.{ShortForm}
use Rattle.clos_comb.specs.Arguments.{is_no_data, short_direction, takes}
use Rattle.clos_comb.specs.Groups.{plain}

-- what a name of a combination stands for
pub data Combination : Type 0 where
  standard : Combination
  short : ShortForm → Combination
  long : LongForm → Combination

-- the program's combinations
pub record Table : Type 0 where
  pub defined : List (Name × CombinationDefinition)  -- each by its name, in order of first definition
  pub limit : ℕ  -- so many may be defined

-- none yet
abbrev pub initial : ℕ → Table
initial limit = record { defined = []; limit = limit }

-- ---- the system's combinations

-- the names of the built-in short forms (7.6.6.4)
abbrev pub built_in_names : List (List ℕ)
built_in_names =
    codes "+" ∷ codes "AND" ∷ codes "APPEND" ∷ codes "LIST" ∷ codes "MAX" ∷ codes "MIN" ∷ codes "NCONC" ∷ codes "OR" ∷ codes "PROGN" ∷ []

-- a short form whose operator is that of its name; of all but LIST the call of one method stands alone
abbrev pub built_in_form : List ℕ → ShortForm
built_in_form text = record { name = plain text; operator = plain text; identity = not (bytes_eq text (codes "LIST")) }

-- the built-in short forms
abbrev pub built_in : List ShortForm
built_in = map built_in_form built_in_names

-- the one of this name
abbrev pub built_in_named : Name → Option ShortForm
built_in_named name = find (λ s. same_name s.name name) built_in

-- whether the system has a combination of this name, which can't be defined again
abbrev pub is_predefined : Name → Bool
is_predefined name = is_called (codes "STANDARD") name || is_some (built_in_named name)

-- ---- combinations by their names

-- what a definition defines
abbrev pub combination_of : CombinationDefinition → Combination
combination_of (Short s) = short s
combination_of (Long f) = long f

-- the one that the program defined
abbrev pub defined_named : Table → Name → Option Combination
defined_named t name = option_map combination_of (lookup (same_name name) t.defined)

-- a built-in one, or else the program's
abbrev pub or_defined : Option ShortForm → Option Combination → Option Combination
or_defined (Some s) o = Some (short s)
or_defined None o = o

-- the combination of this name
abbrev pub combination_named : Table → Name → Option Combination
combination_named t name = if is_called (codes "STANDARD") name then Some standard else or_defined (built_in_named name) (defined_named t name)

-- ---- definitions

-- the name of what is defined
abbrev pub name_of : CombinationDefinition → Name
name_of (Short s) = s.name
name_of (Long f) = f.name

-- the combinations after this one is defined: a new name comes last
abbrev pub with_named : Name → CombinationDefinition → List (Name × CombinationDefinition) → List (Name × CombinationDefinition)
with_named name c [] = (name, c) ∷ []
with_named name c (e ∷ es) = if same_name name e.0 then (e.0, c) ∷ es else e ∷ with_named name c es

-- the table after it
abbrev pub with_combination : CombinationDefinition → Table → Table
with_combination c t = record t { defined = with_named (name_of c) c t.defined }

-- whether there is one of this name, or room for a new one
abbrev pub has_room : Table → Name → Bool
has_room t name = is_some (lookup (same_name name) t.defined) || nat_lt (length t.defined) t.limit

-- ---- uses

-- whether a combination takes these arguments
abbrev pub takes_arguments : Combination → Dats → Bool
takes_arguments standard l = is_no_data l
takes_arguments (short s) l = is_some (short_direction l)
takes_arguments (long f) l = takes f.parameters l
