-- Names and values in turn, and options that their heads name.
use Rattle.std.specs.Prelude.{ℕ, List, Bool, true, false, ◌&&◌, Option, Some, None, if◌then◌else◌}
use Rattle.std.specs.List.{list_any}
use Rattle.std.specs.Str.{bytes_eq}
use Rattle.lisp_data.specs.Name.{Name}
use Rattle.lisp_data.specs.Datum.{Dat, integer, symbol, string, list, dotted, method, Dats, nil, cons}
use Rattle.clos_forms.specs.Binding.{each}
use Rattle.clos_forms.specs.Body.{is_string}
use Rattle.clos_forms.specs.Fault.{◌>>=◌}
use Rattle.clos_forms.specs.Sequence.{single}

-- the keyword of these characters
abbrev pub is_keyword_called : List ℕ → Name → Bool
is_keyword_called text name = name.keyword && bytes_eq name.text text

-- a symbol that is the keyword of these characters, which don't include its colon
abbrev pub is_key : List ℕ → Dat → Bool
is_key text (integer n) = false
is_key text (symbol name) = is_keyword_called text name
is_key text (string s) = false
is_key text (list l) = false
is_key text (dotted l d) = false
is_key text (method n) = false

-- the keyword of one of these texts
abbrev pub is_any_key : List (List ℕ) → Dat → Bool
is_any_key texts d = list_any (λ text. is_key text d) texts

-- keywords of these texts and values in turn
abbrev pub are_properties : List (List ℕ) → Dats → Bool
are_properties texts nil = true
are_properties texts (cons k nil) = false
are_properties texts (cons k (cons v l)) = is_any_key texts k && are_properties texts l

-- the values of this keyword, of keywords and values in turn
abbrev pub values_of : List ℕ → Dats → Dats
values_of text nil = nil
values_of text (cons k nil) = nil
values_of text (cons k (cons v l)) = if is_key text k then cons v (values_of text l) else values_of text l

-- what is read and ignored
abbrev pub anything : Dat → Option (Unit {0})
anything d = Some tt

-- a string, which is read and ignored
abbrev pub documentation_in : Dat → Option (Unit {0})
documentation_in d = if is_string d then Some tt else None

-- what the only value of this keyword stands for, where it has one
abbrev pub value_in : {A : Type 0} → (Dat → Option A) → List ℕ → Dats → Option (Option A)
value_in f text l = each f (values_of text l) >>= single

-- the elements of a list that begins with this keyword
abbrev pub heads_option : List ℕ → Dats → Bool
heads_option text nil = false
heads_option text (cons head l) = is_key text head

-- a list that begins with this keyword
abbrev pub is_option : List ℕ → Dat → Bool
is_option text (integer n) = false
is_option text (symbol name) = false
is_option text (string s) = false
is_option text (list l) = heads_option text l
is_option text (dotted l d) = false
is_option text (method n) = false

-- the options of this keyword
abbrev pub options_of : List ℕ → Dats → Dats
options_of text nil = nil
options_of text (cons d l) = if is_option text d then cons d (options_of text l) else options_of text l

-- what the only option of this keyword stands for, where there is one
abbrev pub option_in : {A : Type 0} → (Dat → Option A) → List ℕ → Dats → Option (Option A)
option_in f text l = each f (options_of text l) >>= single

-- what follows the first element, where there is one
abbrev pub tail_of : Dats → Option Dats
tail_of nil = None
tail_of (cons head l) = Some l

-- what an option has after its keyword
abbrev pub arguments_in : Dat → Option Dats
arguments_in (integer n) = None
arguments_in (symbol name) = None
arguments_in (string s) = None
arguments_in (list l) = tail_of l
arguments_in (dotted l d) = None
arguments_in (method n) = None
