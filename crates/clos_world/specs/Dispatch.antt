-- The methods that a call of a generic function finds (HyperSpec 7.6.6.1).
use Rattle.std.specs.Prelude.{◌≡◌, ℕ, ◌≤◌, List, length, map, take, slice_get}
use Rattle.lisp_data.specs.Name.{Name}
use Rattle.lisp_data.specs.Value.{Val}
use Rattle.clos_method.specs.Arguments.{Argument, arguments_of}
use Rattle.clos_generic.specs.Calls as calls
use Rattle.clos_world.specs.Kept.{combination_in}
use Rattle.clos_world.specs.World.{State, class_of}

-- these values as arguments, each with the class precedence list of its class
abbrev pub arguments : State → List Val → List Argument
arguments w vs = arguments_of w.classes (map (class_of w) vs) vs

-- how many required parameters a generic function has
abbrev pub required_by : State → ℕ → ℕ
required_by w g = calls.required_of w.generics g

-- the name of a generic function's method combination
abbrev pub combination_of : State → ℕ → Name
combination_of w g = combination_in (slice_get w.generics.functions g)

-- The methods of a generic function that are applicable to these arguments, the most specific first: those of its required parameters decide.
abbrev pub ordered : State → ℕ → List Val → List ℕ
ordered w g vs = calls.ordered w.generics g (arguments w (take (required_by w g) vs))

-- A list of methods is in order for a call of a function with these arguments (7.6.6.1).
abbrev pub IsInOrder : State → ℕ → List Val → List ℕ → Type 0
IsInOrder w g vs listed = calls.IsInOrder w.generics g (arguments w (take (required_by w g) vs)) listed

-- The methods that a call finds are in order, and no other list of methods is.
abbrev pub CallsAreInOrder : State → Type 0
CallsAreInOrder w = (g : ℕ) (vs : List Val) → required_by w g ≤ length vs
    → IsInOrder w g vs (ordered w g vs) × ((listed : List ℕ) → IsInOrder w g vs listed → listed ≡ ordered w g vs)
