-- Commands: lines that begin with a comma. No form of Common Lisp does; here ,x would be read as (unquote x), which a line
-- writes out.
use Rattle.std.specs.Prelude.{◌≡◌, ℕ, ◌==◌, ◌||◌, not, Bool, true, false, List, [], ◌∷◌, codes, take, drop, is_some}
use Rattle.std.specs.List.{prefix_len}
use Rattle.std.specs.Str.{bytes_eq}
use Rattle.lisp_data.specs.Datum.{Dat, Dats, cons, list, symbol}
use Rattle.lisp_data.specs.Name.{Name}
use Rattle.lisp_reader.specs.Answers.{Next}
use Rattle.clos_forms.specs.declared.operator.FunctionName.TheVariants.{Symbol}
use Rattle.clos_commentary.specs.Call.{form_of_arguments}
use Rattle.clos_commentary.specs.clos_system.clos_world.World.{State}
use Rattle.clos_commentary.specs.clos_system.clos_world.clos_generic.Table.{named}

-- space, tab, newline, return, page
abbrev pub is_blank : ℕ → Bool
is_blank b = b == 32 || b == 9 || b == 10 || b == 13 || b == 12

abbrev pub is_in_word : ℕ → Bool
is_in_word b = not (is_blank b)

abbrev pub without_blanks : List ℕ → List ℕ
without_blanks line = drop (prefix_len is_blank line) line

-- the first word of a line
abbrev pub first_word : List ℕ → List ℕ
first_word line = take (prefix_len is_in_word (without_blanks line)) (without_blanks line)

abbrev pub begins_with_comma : List ℕ → Bool
begins_with_comma [] = false
begins_with_comma (b ∷ bytes) = b == 44

-- .. and what follows it
abbrev pub after_word : List ℕ → List ℕ
after_word line = drop (prefix_len is_in_word (without_blanks line)) (without_blanks line)

-- a line is a command if its first word begins with a comma
abbrev pub is_command : List ℕ → Bool
is_command line = begins_with_comma (first_word line)

-- the command that shows the methods that fit the arguments of a call
abbrev pub asks_methods : List ℕ → Bool
asks_methods line = bytes_eq (first_word line) (codes ",methods")

-- the command asks for the value of a form: it is `,methods`, a call of a generic function by its symbol follows, and the form is that
-- of its arguments
pub record Asks (w : State) (line : List ℕ) (form : Dat) : Type 0 where
  pub methods : asks_methods line ≡ true
  pub operator : Name
  pub generic : is_some (named w.generics (Symbol operator)) ≡ true
  pub arguments : Dats
  pub rest : List ℕ
  pub call : Next (after_word line) (list (cons (symbol operator) arguments)) rest
  pub is : form ≡ form_of_arguments arguments

-- the command asks for no value
abbrev pub AsksNone : State → List ℕ → Type 0
AsksNone w line = (form : Dat) → ¬ (Asks w line form)
