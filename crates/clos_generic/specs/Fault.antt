-- Why a generic function or a method can't be defined, added or removed (HyperSpec 7.6.4, 7.7).
use Rattle.std.specs.Prelude.{ℕ, ◌-◌, ◌==◌, nat_lt, nat_le, Bool, true, false, not, ◌||◌, List, Option, Some, None, length, slice_get}
use Rattle.std.specs.List.{list_any, list_all}
use Rattle.lisp_data.specs.Print.{Specializer, on_class, on_eql}
use Rattle.clos_forms.specs.declared.operator.FunctionName.{FunctionName}
use Rattle.clos_method.specs.Shape.{is_congruent}
use Rattle.clos_method.specs.Specializer.{is_permitted}
use Rattle.clos_method.specs.declared.method.Method.{Method}
use Rattle.clos_method.specs.declared.shape.Shape.{Shape}
use Rattle.clos_generic.specs.Table.{Function, Table, find_method, methods_named, methods_of, named}
use Rattle.clos_generic.specs.declared.options.Options.{Options}

pub data Refusal : Type 0 where
  incongruent : Refusal
  no_such_method : Refusal
  unsupported : Refusal
  table_limit : Refusal

abbrev pub when : Bool → Refusal → Option Refusal
when true r = Some r
when false r = None

abbrev pub or_else : Option Refusal → Option Refusal → Option Refusal
or_else None o = o
or_else (Some r) o = Some r

-- ---- what is the system's

-- so many functions stand first, each with one method of the same number
abbrev pub system_count : ℕ
system_count = 9

-- whether this is the number of a function or a method of the system's
abbrev pub is_system : Option ℕ → Bool
is_system None = false
is_system (Some n) = nat_lt n system_count

-- ---- definitions

abbrev pub fits_in : Shape → Option Method → Bool
fits_in shape None = true
fits_in shape (Some m) = is_congruent shape m.shape

-- whether each of these methods may be one of a function of this shape (7.6.4)
abbrev pub all_fit : List Method → Shape → List ℕ → Bool
all_fit methods shape ms = list_all (λ m. fits_in shape (slice_get methods m)) ms

-- whether a function of this name would be one too many
abbrev pub is_full : Table → Option ℕ → Bool
is_full t None = nat_le t.most_functions (length t.functions - system_count)
is_full t (Some g) = false

-- The methods that stay are congruent with the new shape; the function is not the system's; there is room for a new one.
abbrev pub refusal_at : Table → Option ℕ → Options → Option Refusal
refusal_at t g o =
    or_else (when (not (all_fit t.methods o.shape (methods_named t g))) incongruent) (or_else (when (is_system g) unsupported) (when (is_full t g) table_limit))

abbrev pub definition_refusal : Table → FunctionName → Options → Option Refusal
definition_refusal t name o = refusal_at t (named t name) o

-- ---- additions

abbrev pub takes_in : Shape → Option Function → Bool
takes_in shape None = true
takes_in shape (Some f) = is_congruent f.shape shape

abbrev pub is_permitted_one : Specializer → Bool
is_permitted_one (on_class c) = true
is_permitted_one (on_eql v) = is_permitted v

-- whether one method more would be one too many
abbrev pub has_all_methods : Table → Bool
has_all_methods t = nat_le t.most_methods (length t.methods - system_count)

-- The method is congruent with the function (7.6.4); its eql specializers have objects that EQL tells by value, and it does not
-- take the place of the system's method; there is room for one more.
abbrev pub addition_refusal : Table → ℕ → Method → Option Refusal
addition_refusal t g m =
    or_else (when (not (takes_in m.shape (slice_get t.functions g))) incongruent)
    (or_else (when (not (list_all is_permitted_one m.specializers) || is_system (find_method t g m.qualifiers m.specializers)) unsupported)
    (when (has_all_methods t) table_limit))

-- ---- removals

-- The method is not the system's, and it is the function's.
abbrev pub removal_refusal : Table → ℕ → ℕ → Option Refusal
removal_refusal t g m =
    or_else (when (is_system (Some m)) unsupported) (when (not (list_any (λ n. n == m) (methods_of t g))) no_such_method)
