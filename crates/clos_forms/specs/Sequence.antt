-- Things in order, of which there is to be one.
use Rattle.std.specs.Prelude.{List, [], ◌∷◌, Option, Some, None}

-- the only thing of a list, which may be empty
abbrev pub single : {A : Type 0} → List A → Option (Option A)
single [] = Some None
single (x ∷ []) = Some (Some x)
single (x ∷ y ∷ xs) = None

-- the one thing of a list
abbrev pub the_one : {A : Type 0} → List A → Option A
the_one [] = None
the_one (x ∷ []) = Some x
the_one (x ∷ y ∷ xs) = None
