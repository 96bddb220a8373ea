-- Names of which none may stand twice, and names that must be among others.
use Rattle.std.specs.Prelude.{List, [], ◌∷◌, Bool, true, not, ◌&&◌}
use Rattle.std.specs.List.{list_any}
use Rattle.lisp_data.specs.Name.{Name, same_name}

-- whether no name stands twice
abbrev pub are_distinct : List Name → Bool
are_distinct [] = true
are_distinct (n ∷ ns) = not (list_any (λ m. same_name m n) ns) && are_distinct ns

-- whether each of these names is one of the others
abbrev pub are_among : List Name → List Name → Bool
are_among [] ms = true
are_among (n ∷ ns) ms = list_any (λ m. same_name m n) ms && are_among ns ms
