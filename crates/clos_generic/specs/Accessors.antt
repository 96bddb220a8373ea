-- The methods that came with accessors of a class (HyperSpec 4.3.6, 7.5.2).
use Rattle.std.specs.Prelude.{ℕ, zero, suc, ◌==◌, Bool, false, List, [], ◌∷◌, ◌++◌, Option, Some, None, length, slice_get}
use Rattle.std.specs.List.{filter, list_any}
use Rattle.clos_method.specs.Origin.{is_accessor_of}
use Rattle.clos_method.specs.declared.method.Method.{Method}
use Rattle.clos_generic.specs.Table.{Table, methods_of}

-- the numbers of so many methods, in order of addition
abbrev pub numbers_below : ℕ → List ℕ
numbers_below zero = []
numbers_below (suc n) = numbers_below n ++ n ∷ []

-- whether it came with an accessor of this class
abbrev pub is_accessor_in : ℕ → Option Method → Bool
is_accessor_in c None = false
is_accessor_in c (Some m) = is_accessor_of c m.origin

-- of the first so many methods those that came with accessors of this class, in order of addition
abbrev pub accessors_below : List Method → ℕ → ℕ → List ℕ
accessors_below methods c n = filter (λ k. is_accessor_in c (slice_get methods k)) (numbers_below n)

-- whether this method, if it is one, has this number among the methods of its function
abbrev pub is_there_in : Table → ℕ → Option Method → Bool
is_there_in t n None = false
is_there_in t n (Some m) = list_any (λ k. k == n) (methods_of t m.generic.0)

-- whether the method of this number is still among the methods of its function
abbrev pub is_there : Table → ℕ → Bool
is_there t n = is_there_in t n (slice_get t.methods n)

-- the methods that came with accessors of this class and are still there, in order of addition
abbrev pub accessors_there : Table → ℕ → List ℕ
accessors_there t c = filter (is_there t) (accessors_below t.methods c (length t.methods))
