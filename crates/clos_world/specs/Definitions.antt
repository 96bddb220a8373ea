-- What a session has defined.
use Rattle.std.specs.Prelude.{◌≡◌}
use Rattle.clos_world.specs.World.{State}

-- the same classes, generic functions with their methods, method combinations, functions, and dependents, of which none has been told more
abbrev pub Same : State → State → Type 0
Same w u =
    (u.classes ≡ w.classes) × (u.generics ≡ w.generics) × (u.combinations ≡ w.combinations) × (u.functions ≡ w.functions) × (u.setters ≡ w.setters)
    × (u.hearing ≡ w.hearing)
