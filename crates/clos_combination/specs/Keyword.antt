-- Keywords among data, and the flags that they are given.
use Rattle.std.specs.Prelude.{Bool, true, false, not, codes, Option, Some, None, if◌then◌else◌}
use Rattle.lisp_data.specs.Datum.{Dat, integer, symbol, string, list, dotted, method, Dats, nil, cons}
use Rattle.clos_forms.specs.clos_names.Names.{is_called}

-- whether a datum is a keyword
abbrev pub is_keyword : Dat → Bool
is_keyword (integer n) = false
is_keyword (symbol name) = name.keyword
is_keyword (string s) = false
is_keyword (list l) = false
is_keyword (dotted l d) = false
is_keyword (method n) = false

-- the data before the first keyword
abbrev pub before_keyword : Dats → Dats
before_keyword nil = nil
before_keyword (cons d l) = if is_keyword d then nil else cons d (before_keyword l)

-- the data from the first keyword on
abbrev pub from_keyword : Dats → Dats
from_keyword nil = nil
from_keyword (cons d l) = if is_keyword d then cons d l else from_keyword l

-- ---- flags

-- whether a list has an element
abbrev pub is_not_empty : Dats → Bool
is_not_empty nil = false
is_not_empty (cons d l) = true

-- any datum but NIL, which is the empty list
abbrev pub is_true : Dat → Bool
is_true (integer n) = true
is_true (symbol name) = not (is_called (codes "NIL") name)
is_true (string s) = true
is_true (list l) = is_not_empty l
is_true (dotted l d) = true
is_true (method n) = true

-- whether the flag is set
abbrev pub flag_in : Dat → Option Bool
flag_in d = Some (is_true d)

-- a flag that may not be given
abbrev pub or_false : Option Bool → Bool
or_false None = false
or_false (Some flag) = flag
