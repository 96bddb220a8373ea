-- Lists of things, as data write them.
use Rattle.std.specs.Prelude.{List, [], ◌∷◌, ◌++◌, codes, Option, Some, None, option_map, if◌then◌else◌}
use Rattle.lisp_data.specs.Datum.{Dat, integer, symbol, string, list, dotted, method, Dats, nil, cons}
use Rattle.clos_forms.specs.clos_names.Names.{is_called}

-- the elements of a list, which may be written NIL
abbrev pub list_in : Dat → Option Dats
list_in (integer n) = None
list_in (symbol name) = if is_called (codes "NIL") name then Some nil else None
list_in (string s) = None
list_in (list l) = Some l
list_in (dotted l d) = None
list_in (method n) = None

-- these things before others, where there are others
abbrev pub before : {A : Type 0} → List A → Option (List A) → Option (List A)
before xs o = option_map (λ ys. xs ++ ys) o

-- these data before others
abbrev pub ahead : List Dat → Dats → Dats
ahead [] l = l
ahead (d ∷ ds) l = cons d (ahead ds l)

-- the things of a list that may not be given
abbrev pub or_none : {A : Type 0} → Option (List A) → List A
or_none None = []
or_none (Some xs) = xs
