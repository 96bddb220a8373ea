-- Methods that are taken out of their function (HyperSpec 7.7 remove-method).
use Rattle.std.specs.Prelude.{◌≡◌, ◌==◌, ℕ, Bool, true, false, List, [], ◌∷◌, Option, Some, None, Result, Ok, Err, if◌then◌else◌}
use Rattle.std.specs.List.{list_any}
use Rattle.lisp_data.specs.Value.{Val, integer, symbol, string, list, class, generic, method, instance}
use Rattle.lisp_data.specs.declared.ids.GenericId.{GenericId}
use Rattle.lisp_data.specs.declared.ids.MethodId.{MethodId}
use Rattle.clos_cache.specs.Cache.{Change, of_generic}
use Rattle.clos_generic.specs.Fault.{is_system}
use Rattle.clos_generic.specs.Table.{Table, methods_of, without_method}
use Rattle.clos_watch.specs.declared.notice.Notice.{Notice}
use Rattle.clos_world.specs.Hearing.{telling}
use Rattle.clos_world.specs.World.{State}
use Rattle.clos_world.specs.declared.condition.Condition.{Condition}
use Rattle.clos_world.specs.declared.condition.ConditionKind.TheVariants.{TypeError}
use Rattle.clos_world.specs.declared.condition.Stop.{Stop}
use Rattle.clos_world.specs.declared.condition.Stop.TheVariants.{Refused, Storage}
use Rattle.clos_definition.specs.Effect.{of_removal, removal}
use Rattle.clos_definition.specs.Refusal.{not_supported}

abbrev pub wrong_type : Val → Condition
wrong_type v = record { kind = TypeError; items = v ∷ [] }

-- the number of a generic function
abbrev pub generic_in : Val → Option ℕ
generic_in (generic g) = Some g
generic_in (integer n) = None
generic_in (symbol s) = None
generic_in (string s) = None
generic_in (list l) = None
generic_in (class c) = None
generic_in (method m) = None
generic_in (instance i) = None

-- the number of a method
abbrev pub method_in : Val → Option ℕ
method_in (method m) = Some m
method_in (integer n) = None
method_in (symbol s) = None
method_in (string s) = None
method_in (list l) = None
method_in (class c) = None
method_in (generic g) = None
method_in (instance i) = None

abbrev pub unless_system : Bool → ℕ → ℕ → Result (ℕ × ℕ) Condition
unless_system true g m = Err not_supported
unless_system false g m = Ok (g, m)

-- The leftmost value of a wrong type is told. The methods of the system stay.
abbrev pub removable_in : Option ℕ → Option ℕ → Val → Val → Result (ℕ × ℕ) Condition
removable_in None m function v = Err (wrong_type function)
removable_in (Some g) None function v = Err (wrong_type v)
removable_in (Some g) (Some m) function v = unless_system (is_system (Some m)) g m

-- the function and the method that these values are, or why the method can't be taken out
abbrev pub removable : Val → Val → Result (ℕ × ℕ) Condition
removable function v = removable_in (generic_in function) (method_in v) function v

-- whether it is a method of this function
abbrev pub is_method_of : ℕ → ℕ → Table → Bool
is_method_of g m t = list_any (λ n. n == m) (methods_of t g)

-- nothing is told where the function does not have it (AMOP chapter 6)
abbrev pub removal_notices : ℕ → ℕ → Table → List Notice
removal_notices g m t = if is_method_of g m t then of_removal (removal g m) ∷ [] else []

-- the calls that it concerns
abbrev pub concerned_by_removal : ℕ → ℕ → Table → List Change
concerned_by_removal g m t = if is_method_of g m t then of_generic g ∷ [] else []

-- the state after it is taken out; where the function does not have it, nothing is changed
abbrev pub with_removed : ℕ → ℕ → State → State
with_removed g m w = record w {
  generics = without_method g m w.generics;
  hearing = telling (removal_notices g m w.generics) w.hearing;
}

abbrev pub Finds : Result (ℕ × ℕ) Condition → Result (GenericId × MethodId) Stop → Type 0
Finds r (Ok p) = r ≡ Ok (p.0.0, p.1.0)
Finds r (Err (Refused c)) = r ≡ Err c
Finds r (Err Storage) = Unit {0}
