-- The sections of a lambda list, which lambda list keywords part (HyperSpec 3.4).
use Rattle.std.specs.Prelude.{ℕ, List, [], ◌∷◌, Bool, false, codes, Option, Some, None, if◌then◌else◌}
use Rattle.lisp_data.specs.Name.{Name}
use Rattle.lisp_data.specs.Datum.{Dat, integer, symbol, string, list, dotted, method, Dats, nil, cons}
use Rattle.clos_forms.specs.clos_names.Names.{is_called, is_one_of}

-- the lambda list keywords, of which the language serves the first four
abbrev pub lambda_list_keywords : List (List ℕ)
lambda_list_keywords =
    codes "&OPTIONAL" ∷ codes "&REST" ∷ codes "&KEY" ∷ codes "&ALLOW-OTHER-KEYS" ∷ codes "&AUX" ∷ codes "&BODY" ∷ codes "&WHOLE" ∷ codes "&ENVIRONMENT" ∷ []

-- one of these names, also one that the language does not serve
abbrev pub is_lambda_list_keyword : Name → Bool
is_lambda_list_keyword name = is_one_of lambda_list_keywords name

-- a lambda list keyword, before which the section ends
abbrev pub ends_section : Dat → Bool
ends_section (integer n) = false
ends_section (symbol name) = is_lambda_list_keyword name
ends_section (string s) = false
ends_section (list l) = false
ends_section (dotted l d) = false
ends_section (method n) = false

-- the data before the first lambda list keyword
abbrev pub front : Dats → Dats
front nil = nil
front (cons d l) = if ends_section d then nil else cons d (front l)

-- the data from the first lambda list keyword on
abbrev pub back : Dats → Dats
back nil = nil
back (cons d l) = if ends_section d then cons d l else back l

-- a symbol of these characters that is no keyword
abbrev pub is_symbol_called : List ℕ → Dat → Bool
is_symbol_called text (integer n) = false
is_symbol_called text (symbol name) = is_called text name
is_symbol_called text (string s) = false
is_symbol_called text (list l) = false
is_symbol_called text (dotted l d) = false
is_symbol_called text (method n) = false

-- the data after this symbol, where it comes first
abbrev pub after : List ℕ → Dats → Option Dats
after text nil = None
after text (cons d l) = if is_symbol_called text d then Some l else None

-- what is left of a lambda list after a section, where it has that section
abbrev pub past : Dats → Option Dats → Dats
past l None = l
past l (Some section) = back section
