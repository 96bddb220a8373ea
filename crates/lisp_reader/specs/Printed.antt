-- Printing a value readably and reading what it prints (HyperSpec 22.1.3, 2.3.4).
use Rattle.std.specs.Prelude.{◌≡◌, ◌≢◌, ℕ, ◌<◌, ◌≤◌, Bool, true, false, ◌&&◌, not, if◌then◌else◌, List, [], length, slice_index, FitsSigned, IsUtf8, ⊤}
use Rattle.std.specs.Int.{w64}
use Rattle.std.specs.Char.{is_ascii_lowercase}
use Rattle.std.specs.List.{list_any, list_all}
use Rattle.lisp_data.specs.Name.{Name}
use Rattle.lisp_data.specs.Datum.{Dat, integer, symbol, string, list, dotted, method, Dats, nil, cons, length_of, nesting_of}
use Rattle.lisp_data.specs.Value.{Val, integer as integer_value, symbol as symbol_value, string as string_value, list as list_value, method as method_value, Vals, nil as no_values, cons as values}
use Rattle.lisp_data.specs.Print.{Names, text_of}
use Rattle.lisp_reader.specs.Answers.{Gives, a_datum, most_open}
use Rattle.lisp_tokens.specs.Characters.{is_token_char}
use Rattle.lisp_tokens.specs.Reading.{is_nil}
use Rattle.lisp_tokens.specs.Token.{class_of, is_colon}
use Rattle.lisp_tokens.specs.declared.token.Class.TheVariants.{Symbol}

-- the value of (QUOTE datum): NIL is the empty list. No value has a dotted list's elements, so any stands for it
abbrev mutual
  pub quoted_value : Dat → Val
  quoted_value (integer n) = integer_value n
  quoted_value (symbol s) = if is_nil s then list_value no_values else symbol_value s
  quoted_value (string s) = string_value s
  quoted_value (list l) = list_value (quoted_values l)
  quoted_value (dotted l d) = list_value (quoted_values l)
  quoted_value (method n) = method_value n

  pub quoted_values : Dats → Vals
  quoted_values nil = no_values
  quoted_values (cons d l) = values (quoted_value d) (quoted_values l)

-- a character that a token keeps as it is
abbrev pub is_plain_char : ℕ → Bool
is_plain_char c = is_token_char c && not (is_ascii_lowercase c)

-- these characters name a keyword where they hold no colon; another symbol where they begin a token,
-- and that is of no other kind
abbrev pub IsNameOf : Bool → List ℕ → Type 0
IsNameOf true text = list_any is_colon text ≡ false
IsNameOf false text = (slice_index text 0 ≢ 35) × (class_of text ≡ Symbol)

-- a name that is read as it is printed
abbrev pub IsPlainName : Name → Type 0
IsPlainName name =
    (0 < length name.text) × (list_all is_plain_char name.text ≡ true) × IsNameOf name.keyword name.text

-- a datum of integers, such names, strings (their bytes are UTF-8) and lists of these
abbrev mutual
  pub IsPlain : Dat → Type 0
  IsPlain (integer n) = FitsSigned w64 n
  IsPlain (symbol s) = IsPlainName s
  IsPlain (string s) = IsUtf8 s
  IsPlain (list l) = (0 < length_of l) × ArePlain l
  IsPlain (dotted l d) = ⊥
  IsPlain (method n) = ⊥

  pub ArePlain : Dats → Type 0
  ArePlain nil = ⊤
  ArePlain (cons d l) = IsPlain d × ArePlain l

-- what a quoted datum prints as reads back as that datum, with nothing left
abbrev pub ReadsBack : Type 0
ReadsBack =
    (names : Names) (d : Dat) → IsPlain d → nesting_of d ≤ most_open → Gives (text_of true names (quoted_value d)) (a_datum d [])
