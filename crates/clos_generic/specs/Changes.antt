-- The changes of one definition form, and why they can't be made (HyperSpec 7.6.4, 7.7).
use Rattle.std.specs.Prelude.{ℕ, ◌+◌, ◌-◌, ◌==◌, nat_lt, Bool, true, false, not, ◌&&◌, ◌||◌, List, [], ◌∷◌, Option, Some, None, is_some, length, slice_get, count_by, if◌then◌else◌}
use Rattle.std.specs.List.{list_any, list_all}
use Rattle.clos_method.specs.declared.shape.Shape.{Shape}
use Rattle.clos_generic.specs.Fault.{Refusal, fits_in, is_permitted_one, is_system, or_else, removal_refusal, system_count, incongruent, table_limit, unsupported, when}
use Rattle.clos_method.specs.Shape.{is_congruent}
use Rattle.clos_generic.specs.Table.{Function, Table, find_method, methods_of, named}
use Rattle.clos_generic.specs.declared.changes.Addition.{Addition}
use Rattle.clos_generic.specs.declared.changes.Definition.{Definition}
use Rattle.clos_generic.specs.declared.changes.Likeness.{Likeness}
use Rattle.clos_generic.specs.declared.changes.Removal.{Removal}

-- They are made in this order: removals, definitions, additions.
pub record Changes : Type 0 where
  pub removals : List Removal
  pub definitions : List Definition  -- at most one of a name
  pub additions : List Addition

-- ---- congruence: definitions with the methods that stay, additions with the shape that their function has then

abbrev pub is_removal_of : ℕ → ℕ → Removal → Bool
is_removal_of g m r = (r.generic.0 == g) && (r.method.0 == m)

abbrev pub fits_or_goes : Table → List Removal → ℕ → Shape → ℕ → Bool
fits_or_goes t rs g shape m = list_any (is_removal_of g m) rs || fits_in shape (slice_get t.methods m)

-- whether each method of a function that stays may be one of a function of this shape
abbrev pub staying_fit : Table → List Removal → Shape → Option ℕ → Bool
staying_fit t rs shape None = true
staying_fit t rs shape (Some g) = list_all (fits_or_goes t rs g shape) (methods_of t g)

abbrev pub definition_fits : Table → List Removal → Definition → Bool
definition_fits t rs d = staying_fit t rs d.options.shape (named t d.name)

abbrev pub one_more_if_new : Option ℕ → ℕ → ℕ
one_more_if_new None n = n + 1
one_more_if_new (Some g) n = n

abbrev pub shape_in : Option Function → Option Shape
shape_in None = None
shape_in (Some f) = Some f.shape

-- whether the function of this name, or a new one after so many new ones, has this number
abbrev pub has_number : Table → Option ℕ → ℕ → ℕ → Bool
has_number t (Some n) added g = n == g
has_number t None added g = (length t.functions + added) == g

abbrev pub shape_if : Bool → Shape → Option Shape → Option Shape
shape_if true s o = Some s
shape_if false s o = o

-- the shape that a function has after these definitions, before which so many made new functions; else this one
abbrev pub shape_after : Table → ℕ → List Definition → ℕ → Option Shape → Option Shape
shape_after t added [] g o = o
shape_after t added (d ∷ ds) g o =
    shape_after t (one_more_if_new (named t d.name) added) ds g (shape_if (has_number t (named t d.name) added g) d.options.shape o)

abbrev pub takes_shape : Option Shape → Shape → Bool
takes_shape None shape = true
takes_shape (Some s) shape = is_congruent s shape

abbrev pub addition_fits : Table → List Definition → Addition → Bool
addition_fits t ds a = takes_shape (shape_after t 0 ds a.generic.0 (shape_in (slice_get t.functions a.generic.0))) a.shape

abbrev pub all_congruent : Table → Changes → Bool
all_congruent t cs = list_all (definition_fits t cs.removals) cs.definitions && list_all (addition_fits t cs.definitions) cs.additions

-- ---- the rest, where it is known what all additions are

abbrev pub removals_refusal : Table → List Removal → Option Refusal
removals_refusal t [] = None
removals_refusal t (r ∷ rs) = or_else (removal_refusal t r.generic.0 r.method.0) (removals_refusal t rs)

abbrev pub is_supported : Table → ℕ → Option Likeness → Bool
is_supported t g None = true
is_supported t g (Some l) = list_all is_permitted_one l.specializers && not (is_system (find_method t g l.qualifiers l.specializers))

abbrev pub all_supported : Table → Changes → Bool
all_supported t cs =
    list_all (λ d. not (is_system (named t d.name))) cs.definitions && list_all (λ a. is_supported t a.generic.0 a.likeness) cs.additions

-- how many functions there would be more
abbrev pub new_functions : Table → List Definition → ℕ
new_functions t ds = count_by (λ d. not (is_some (named t d.name))) ds

abbrev pub too_many : Table → Changes → Bool
too_many t cs =
    nat_lt (t.most_functions - (length t.functions - system_count)) (new_functions t cs.definitions)
    || nat_lt (t.most_methods - (length t.methods - system_count)) (length cs.additions)

abbrev pub closed_refusal : Table → Changes → Option Refusal
closed_refusal t cs =
    or_else (removals_refusal t cs.removals) (or_else (when (not (all_supported t cs)) unsupported) (when (too_many t cs) table_limit))

-- whether it is not known yet what an addition is
abbrev pub has_open : List Addition → Bool
has_open additions = list_any (λ a. not (is_some a.likeness)) additions

-- the first that is wrong; where an addition is open, congruence alone is asked
abbrev pub changes_refusal : Table → Changes → Option Refusal
changes_refusal t cs = or_else (when (not (all_congruent t cs)) incongruent) (if has_open cs.additions then None else closed_refusal t cs)
