-- The effective method of a call (HyperSpec 7.6.6).
use Rattle.std.specs.Prelude.{ℕ, Bool, true, false, List, Option, Some, None, slice_get}
use Rattle.lisp_data.specs.Datum.{Dats}
use Rattle.clos_generic.specs.Table as generics
use Rattle.clos_groups.specs.Refusal as group
use Rattle.clos_groups.specs.Refusal.{refusal}
use Rattle.clos_groups.specs.clos_combination.declared.group.GroupSpecifier.{GroupSpecifier}
use Rattle.clos_groups.specs.clos_method.declared.method.Method.{Method}
use Rattle.clos_comb.specs.Groups.{short_groups, standard_groups}
use Rattle.clos_comb.specs.Long.{long_combined}
use Rattle.clos_comb.specs.Outcome.{Combined, bad_expansion, unless_refused}
use Rattle.clos_comb.specs.Short.{short_combined}
use Rattle.clos_comb.specs.Standard.{standard_combined}
use Rattle.clos_comb.specs.Table.{Combination, standard, short, long, Table, combination_named}

-- the groups of a combination
abbrev pub groups_of : Combination → List GroupSpecifier
groups_of standard = standard_groups
groups_of (short s) = short_groups s.name
groups_of (long f) = f.groups

-- what methods that no group refuses are combined into, with these arguments
abbrev pub combined : Combination → List Method → Dats → List ℕ → Combined
combined standard methods arguments ms = standard_combined methods arguments ms
combined (short s) methods arguments ms = short_combined s methods arguments ms
combined (long f) methods arguments ms = long_combined f methods arguments ms

-- why the groups of a combination refuse these methods of a function, where they do; the function's are in order of addition
abbrev pub groups_refusal : Combination → List Method → List ℕ → List ℕ → Option group.Refusal
groups_refusal c methods added ms = refusal methods (groups_of c) added ms

-- the methods are combined, unless they are refused
abbrev pub combined_by : Combination → List Method → List ℕ → Dats → List ℕ → Combined
combined_by c methods added arguments ms =
    unless_refused (groups_of c) (groups_refusal c methods added ms) (combined c methods arguments ms)

-- by a function's combination, as it now is; there is one, since none goes
abbrev pub if_defined : Option Combination → List Method → generics.Function → List ℕ → Combined
if_defined None methods f ms = bad_expansion
if_defined (Some c) methods f ms = combined_by c methods f.methods f.combination.arguments ms

-- the same, of a function
abbrev pub combined_for : Table → List Method → List ℕ → Option generics.Function → Combined
combined_for t methods ms None = bad_expansion
combined_for t methods ms (Some f) = if_defined (combination_named t f.combination.name) methods f ms

-- These methods of a generic function, the most specific first, are combined by its combination.
abbrev pub effective : Table → generics.Table → ℕ → List ℕ → Combined
effective t g n ms = combined_for t g.methods ms (slice_get g.functions n)

-- ---- what takes no memory

-- a method that no group takes, and an empty group PRIMARY
abbrev pub is_free : Combination → Option group.Refusal → Bool
is_free c None = false
is_free c (Some (group.invalid_method m)) = true
is_free standard (Some (group.group_empty k)) = true
is_free (short s) (Some (group.group_empty k)) = true
is_free (long f) (Some (group.group_empty k)) = false
is_free c (Some (group.ambiguous_methods m n)) = false

-- the same, of a function's combination
abbrev pub is_refused_freely : Option Combination → List Method → generics.Function → List ℕ → Bool
is_refused_freely None methods f ms = true
is_refused_freely (Some c) methods f ms = is_free c (groups_refusal c methods f.methods ms)

-- whether methods of a function are refused without asking for memory
abbrev pub takes_none : Table → List Method → List ℕ → Option generics.Function → Bool
takes_none t methods ms None = true
takes_none t methods ms (Some f) = is_refused_freely (combination_named t f.combination.name) methods f ms

-- the same, of the function of this number
abbrev pub is_refused_at_once : Table → generics.Table → ℕ → List ℕ → Bool
is_refused_at_once t g n ms = takes_none t g.methods ms (slice_get g.functions n)
