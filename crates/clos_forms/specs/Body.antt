-- Bodies (HyperSpec 3.4.11, 3.8 declare): what leads one and is ignored.
use Rattle.std.specs.Prelude.{List, Bool, true, false, Option, Some, None, codes, if◌then◌else◌}
use Rattle.lisp_data.specs.Datum.{Dat, integer, symbol, string, list, dotted, method, Dats, nil, cons}
use Rattle.clos_names.specs.Names.{is_called}
use Rattle.clos_forms.specs.Part.{Part, in_roles}
use Rattle.clos_forms.specs.declared.part.Role.TheVariants.{Expression}

-- the symbol DECLARE
abbrev pub is_declare : Dat → Bool
is_declare (integer n) = false
is_declare (symbol name) = is_called (codes "DECLARE") name
is_declare (string s) = false
is_declare (list l) = false
is_declare (dotted l d) = false
is_declare (method n) = false

-- the elements of a list that begins with DECLARE
abbrev pub heads_declaration : Dats → Bool
heads_declaration nil = false
heads_declaration (cons d l) = is_declare d

-- a declare expression (3.3)
abbrev pub is_declaration : Dat → Bool
is_declaration (integer n) = false
is_declaration (symbol name) = false
is_declaration (string s) = false
is_declaration (list l) = heads_declaration l
is_declaration (dotted l d) = false
is_declaration (method n) = false

-- a string, which may be documentation where it leads a body (3.4.11)
abbrev pub is_string : Dat → Bool
is_string (integer n) = false
is_string (symbol name) = false
is_string (string s) = true
is_string (list l) = false
is_string (dotted l d) = false
is_string (method n) = false

-- a leading string is dropped where anything follows it; alone it is a form (3.4.11)
abbrev pub or_alone : Dat → Dats → Dats
or_alone d nil = cons d nil
or_alone d (cons e l) = cons e l

-- a body without its leading declarations, and without the leading strings that a form follows
abbrev pub body_of : Dats → Dats
body_of nil = nil
body_of (cons d l) = if is_declaration d then body_of l else if is_string d then or_alone d (body_of l) else cons d l

-- the forms of a body as expressions, without what leads it and is ignored (3.4.11)
abbrev pub body_parts : Dats → List Part
body_parts l = in_roles Expression (body_of l)

-- the rest of a body, of which this string was the last before it
abbrev pub after_string : Option Dat → Dats → Dats
after_string None l = l
after_string (Some d) l = or_alone d l
