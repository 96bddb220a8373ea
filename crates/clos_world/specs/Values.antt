-- Values in order.
use Rattle.std.specs.Prelude.{List, [], ◌∷◌, Option, Some, None, reverse}
use Rattle.lisp_data.specs.Value.{Val}

-- the one value, where they are not fewer or more
abbrev pub only_value : List Val → Option Val
only_value [] = None
only_value (v ∷ []) = Some v
only_value (v ∷ (u ∷ vs)) = None

abbrev pub turned : List Val → List Val
turned [] = []
turned (v ∷ vs) = v ∷ reverse vs

-- the last value before the others
abbrev pub last_first : List Val → List Val
last_first vs = turned (reverse vs)
