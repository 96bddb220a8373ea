-- What holds of the system's generic functions in each state that a session comes to (HyperSpec 7.1, 7.3, 7.6.6.1, 7.7).
use Rattle.std.specs.Prelude.{◌≡◌, ℕ, false, List, ◌∷◌, Some, slice_get}
use Rattle.lisp_data.specs.Name.{Name}
use Rattle.clos_forms.specs.declared.operator.FunctionName.TheVariants.{Symbol}
use Rattle.clos_generic.specs.Table.{Function, Table}
use Rattle.clos_method.specs.Method.{system_method}
use Rattle.clos_method.specs.System.{system_number, system_text}
use Rattle.clos_method.specs.declared.system.SystemFunction.{SystemFunction}
use Rattle.clos_session.specs.clos_world.Definitions.{Same}
use Rattle.clos_session.specs.clos_world.World.{State}
use Rattle.clos_session.specs.clos_world.declared.limits.Limits.{Limits}
use Rattle.clos_laws.specs.Reached.{IsReached}

-- it has its name, and the first of its methods is that of its own number
abbrev pub IsOwn : SystemFunction → Function → Type 0
IsOwn f function =
    (function.name ≡ Symbol (record { text = system_text f; keyword = false })) × (others : List ℕ) × (function.methods ≡ system_number f ∷ others)

-- A function of the system's stands in its place, with its name and the method that it began with; methods may have come to it.
pub record Stands (t : Table) (f : SystemFunction) : Type 0 where
  pub own : (function : Function) × (slice_get t.functions (system_number f) ≡ Some function) × IsOwn f function
  pub method : slice_get t.methods (system_number f) ≡ Some (system_method f)

-- So all of them do in each state that has the definitions of one to which a session comes.
abbrev pub SystemFunctionsStand : Type 0
SystemFunctionsStand = (limits : Limits) (names : List Name) (w u : State) → IsReached limits names w → Same w u → (f : SystemFunction) → Stands u.generics f
