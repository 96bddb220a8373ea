-- The memory that is reserved for the next definitions and additions.
use Rattle.std.specs.Prelude.{◌≡◌, ℕ, ◌+◌, ◌≤◌, ◌==◌, Bool, true, List, [], ◌∷◌, Option, Some, None, length, map, slice_get, vec_len, vec_capacity, if◌then◌else◌}
use Rattle.std.specs.List.{list_any}
use Rattle.std.specs.declared.alloc.Global.{Global}
use Rattle.std.specs.declared.vec.Vec.{Vec}
use Rattle.lisp_data.specs.declared.ids.GenericId.{GenericId}
use Rattle.clos_forms.specs.declared.operator.FunctionName.{FunctionName}
use Rattle.clos_method.specs.declared.method.Method.{Method}
use Rattle.clos_generic.specs.declared.function.Function.{Function}
use Rattle.clos_generic.specs.declared.spare.Spare.{Spare}

-- whether a function has memory for so many more methods
abbrev pub HasRoom : ℕ → Option Function → Type 0
HasRoom n None = Unit {0}
HasRoom n (Some f) = vec_len f.methods + n ≤ vec_capacity f.methods

-- whether there will be memory for so many methods
abbrev pub HasSpare : ℕ → Option Spare → Type 0
HasSpare n None = Unit {0}
HasSpare n (Some s) = (s.methods.items ≡ []) × (n ≤ vec_capacity s.methods)

abbrev pub is_added : ℕ → List GenericId → Bool
is_added g additions = list_any (λ h. h.0 == g) additions

-- There is memory for a function of each spare, and for each addition to its function.
pub record IsReady (functions : Vec Function Global) (symbols setters : ℕ) (methods : Vec Method Global) (spares : List Spare) (additions : List GenericId) : Type 0 where
  pub functions_fit : vec_len functions + length spares ≤ vec_capacity functions
  pub symbols_fit : length spares ≤ symbols
  pub setters_fit : length spares ≤ setters
  pub methods_fit : vec_len methods + length additions ≤ vec_capacity methods
  pub rooms : (g : ℕ) → is_added g additions ≡ true → HasRoom (length additions) (slice_get functions.items g)
  pub spare_rooms : (k : ℕ) → HasSpare (length additions) (slice_get spares k)

abbrev pub keys_of : List Spare → List FunctionName
keys_of spares = map (λ s. s.key) spares

abbrev pub ids_of : List GenericId → List ℕ
ids_of ids = map (λ g. g.0) ids

abbrev pub first_if : {X : Type 0} → (X → Bool) → List X → Option X
first_if p [] = None
first_if p (x ∷ xs) = if p x then Some x else None
