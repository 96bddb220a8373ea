-- Qualifier patterns (HyperSpec 7.7 define-method-combination).
use Rattle.std.specs.Prelude.{List, [], ◌∷◌, Bool, true, false, ◌&&◌, codes, Option, Some, None, if◌then◌else◌}
use Rattle.lisp_data.specs.Name.{Name, same_name}
use Rattle.lisp_data.specs.Keys.{same_value}
use Rattle.lisp_data.specs.Value as value
use Rattle.lisp_data.specs.Value.{Val}
use Rattle.lisp_data.specs.Datum.{Dat, integer, symbol, string, list, dotted, method, Dats, nil, cons}
use Rattle.clos_forms.specs.Quotation.{quotation}
use Rattle.clos_forms.specs.clos_names.Names.{is_called}
use Rattle.clos_lambda.specs.Sections.{is_symbol_called}

-- what an element of a pattern asks of the qualifier at its place
pub data Wanted : Type 0 where
  anything : Wanted
  equal_to : Val → Wanted
  nothing : Wanted  -- a datum that is no value: no qualifier is equal to it

-- what a group asks of the qualifiers of its methods
pub data Pattern : Type 0 where
  every : Pattern
  listed : List Wanted → Bool → Pattern  -- in order, and whether more may follow

-- no qualifiers, or this one alone
abbrev pub unqualified : Pattern
unqualified = listed [] false

-- exactly one qualifier, which is equal to this value
abbrev pub qualified_by : Val → Pattern
qualified_by v = listed (equal_to v ∷ []) false

-- ---- the pattern that a datum is

-- a qualifier that is equal to the value, where there is one
abbrev pub equal_or_nothing : Option Val → Wanted
equal_or_nothing None = nothing
equal_or_nothing (Some v) = equal_to v

-- the symbol *, or the qualifier that is equal to the datum
abbrev pub wanted_in : Dat → Wanted
wanted_in d = if is_symbol_called (codes "*") d then anything else equal_or_nothing (quotation d)

-- what each element of a list asks
abbrev pub wanted_by : Dats → List Wanted
wanted_by nil = []
wanted_by (cons d l) = wanted_in d ∷ wanted_by l

-- the symbol *, or the empty list
abbrev pub named_pattern : Name → Option Pattern
named_pattern name =
    if is_called (codes "*") name then Some every else if is_called (codes "NIL") name then Some (listed [] false) else None

-- a list whose tail is the symbol *
abbrev pub dotted_pattern : Dats → Dat → Option Pattern
dotted_pattern l tail = if is_symbol_called (codes "*") tail then Some (listed (wanted_by l) true) else None

-- the symbol *, a list, or a list whose tail is the symbol *
abbrev pub pattern_in : Dat → Option Pattern
pattern_in (integer n) = None
pattern_in (symbol name) = named_pattern name
pattern_in (string s) = None
pattern_in (list l) = Some (listed (wanted_by l) false)
pattern_in (dotted l tail) = dotted_pattern l tail
pattern_in (method n) = None

-- ---- the qualifiers that it matches

-- whether a value is the symbol of this name
abbrev pub is_symbol_named : Name → Val → Bool
is_symbol_named name (value.symbol other) = same_name name other
is_symbol_named name _ = false

-- whether both are equal (5.3): symbols by their names, other values by what they are made of
abbrev pub are_equal : Val → Val → Bool
are_equal (value.symbol name) q = is_symbol_named name q
are_equal v q = same_value v q

-- whether a qualifier is what an element asks
abbrev pub is_wanted : Wanted → Val → Bool
is_wanted anything q = true
is_wanted (equal_to v) q = are_equal v q
is_wanted nothing q = false

-- one for each qualifier, in order. Perhaps more may follow
abbrev pub are_wanted : List Wanted → Bool → List Val → Bool
are_wanted [] more [] = true
are_wanted [] more (q ∷ qs) = more
are_wanted (w ∷ ws) more [] = false
are_wanted (w ∷ ws) more (q ∷ qs) = is_wanted w q && are_wanted ws more qs

-- whether a method with these qualifiers is meant
abbrev pub matches : Pattern → List Val → Bool
matches every qs = true
matches (listed ws more) qs = are_wanted ws more qs
