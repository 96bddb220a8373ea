-- What holds of the generic functions and methods of every table (HyperSpec 7.6.1, 7.6.4).
use Rattle.std.specs.Prelude.{◌≡◌, ⊤, ℕ, ◌<◌, Some, List, [], ◌∷◌, length, slice_get}
use Rattle.clos_method.specs.Applicable.{specializers_of}
use Rattle.clos_method.specs.Laws.{HasNoneTwice, IsMember}
use Rattle.clos_method.specs.declared.method.Method.{Method}
use Rattle.clos_generic.specs.Table.{Function, Table}
use Rattle.clos_generic.specs.declared.options.Options.{Options}

-- it holds of each of these
abbrev pub Each : {X : Type 0} → (X → Type 0) → List X → Type 0
Each P [] = ⊤
Each P (x ∷ xs) = P x × Each P xs

-- the argument precedence order has the place of each required parameter (7.6.6.1.2)
abbrev pub IsOrderly : Options → Type 0
IsOrderly o = (p : ℕ) → p < o.shape.required → IsMember o.precedence p

-- one specializer for each required parameter (7.6.2)
abbrev pub IsSpecialized : Method → Type 0
IsSpecialized m = length m.specializers ≡ m.shape.required

-- of a function, among all methods
pub record IsSoundFunction (methods : List Method) (f : Function) : Type 0 where
  pub distinct : HasNoneTwice f.methods  -- no method of it stands twice
  pub there : (n : ℕ) → IsMember f.methods n → n < length methods  -- each is a method
  -- and has a specializer for each required parameter of the function
  pub specialized : (n : ℕ) → IsMember f.methods n → length (specializers_of methods n) ≡ f.shape.required
  pub places : (p : ℕ) → p < f.shape.required → IsMember f.precedence p  -- the argument precedence order has each of these

-- of all functions, and of each method that was ever made
pub record AreSound (functions : List Function) (methods : List Method) : Type 0 where
  pub each_function : (g : ℕ) (f : Function) → slice_get functions g ≡ Some f → IsSoundFunction methods f
  pub each_method : (n : ℕ) (m : Method) → slice_get methods n ≡ Some m → IsSpecialized m

abbrev pub IsSound : Table → Type 0
IsSound t = AreSound t.functions t.methods
