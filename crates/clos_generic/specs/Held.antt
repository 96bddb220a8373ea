-- What a table of generic functions has reserved memory for. No answer depends on it, but that nothing is refused for want of memory.
use Rattle.std.specs.Prelude.{ℕ, ◌==◌, Bool, false, List, [], ◌∷◌, map, if◌then◌else◌}
use Rattle.clos_forms.specs.declared.operator.FunctionName.{FunctionName}
use Rattle.clos_generic.specs.Changes.{Changes}
use Rattle.clos_generic.specs.Table.{Table, same_function}

-- a table, and what is sure to find memory
pub record Held : Type 0 where
  pub table : Table
  pub definitions : List FunctionName  -- the next definitions, by their names
  pub additions : List ℕ  -- the next additions after those, by their functions

-- what comes after the first one, if it is so
abbrev pub after_first : {X : Type 0} → (X → Bool) → List X → List X
after_first p [] = []
after_first p (x ∷ xs) = if p x then xs else []

-- whether the first one is so
abbrev pub is_first : {X : Type 0} → (X → Bool) → List X → Bool
is_first p [] = false
is_first p (x ∷ xs) = p x

-- A definition of this name changes the table so: nothing is left of what was reserved for it, nor for others where it was not the next.
abbrev pub by_definition : FunctionName → (Table → Table) → Held → Held
by_definition name change h = record { table = change h.table; definitions = after_first (λ n. same_function n name) h.definitions; additions = h.additions }

-- an addition to this function, in the same way
abbrev pub by_addition : ℕ → (Table → Table) → Held → Held
by_addition g change h = record { table = change h.table; definitions = h.definitions; additions = after_first (λ n. n == g) h.additions }

-- nothing is reserved
abbrev pub released : Held → Held
released h = record { table = h.table; definitions = []; additions = [] }

-- these changes are, and nothing else
abbrev pub reserved : Changes → Held → Held
reserved cs h = record { table = h.table; definitions = map (λ d. d.name) cs.definitions; additions = map (λ a. a.generic.0) cs.additions }
