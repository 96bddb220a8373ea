-- The operators of the template language, by their names (HyperSpec 7.7 define-method-combination).
use Rattle.std.specs.Prelude.{ℕ, ◌==◌, Bool, true, nat_le, if◌then◌else◌, List, [], ◌∷◌, Option, Some, None, codes}
use Rattle.std.specs.Borrow.{Bor}
use Rattle.std.specs.Str.{bytes_eq}
use Rattle.lisp_data.specs.Name.{Name}
use Rattle.clos_template.specs.declared.operator.Function.{Function}
use Rattle.clos_template.specs.declared.operator.Function.TheVariants as function
use Rattle.clos_template.specs.declared.word.Word.{Word}
use Rattle.clos_template.specs.declared.word.Word.TheVariants.{Quote, Quasiquote, If, Cond, And, Or, Let, LetInOrder, MapCar, Function as Calls}

-- a line of the table: the characters of a name, in upper case, and what it means
abbrev entry : List ℕ → Word → List ℕ × Word
entry text w = (text, w)

-- each name with what it means
abbrev pub words : List (List ℕ × Word)
words =
    entry (codes "QUOTE") Quote
    ∷ entry (codes "QUASIQUOTE") Quasiquote
    ∷ entry (codes "IF") If
    ∷ entry (codes "COND") Cond
    ∷ entry (codes "AND") And
    ∷ entry (codes "OR") Or
    ∷ entry (codes "LET") Let
    ∷ entry (codes "LET*") LetInOrder
    ∷ entry (codes "MAPCAR") MapCar
    ∷ entry (codes "NOT") (Calls function.Not)
    ∷ entry (codes "NULL") (Calls function.Not)
    ∷ entry (codes "ENDP") (Calls function.Endp)
    ∷ entry (codes "EQ") (Calls function.Eq)
    ∷ entry (codes "FIRST") (Calls function.First)
    ∷ entry (codes "CAR") (Calls function.First)
    ∷ entry (codes "SECOND") (Calls function.Second)
    ∷ entry (codes "REST") (Calls function.Rest)
    ∷ entry (codes "CDR") (Calls function.Rest)
    ∷ entry (codes "REVERSE") (Calls function.Reverse)
    ∷ entry (codes "LENGTH") (Calls function.Length)
    ∷ entry (codes "LIST") (Calls function.List)
    ∷ entry (codes "LIST*") (Calls function.ListStar)
    ∷ entry (codes "CONS") (Calls function.Cons)
    ∷ entry (codes "APPEND") (Calls function.Append)
    ∷ []

-- what these characters mean in a table
abbrev pub entry_of : List (List ℕ × Word) → List ℕ → Option Word
entry_of [] text = None
entry_of (e ∷ es) text = if bytes_eq e.0 text then Some e.1 else entry_of es text

-- an entry of the code's table
abbrev pub told : Bor (List ℕ) × Word → List ℕ × Word
told e = (e.0.now, e.1)

-- what a name means, which is no keyword
abbrev pub word_of : Name → Option Word
word_of name = if name.keyword then None else entry_of words name.text

-- whether a function takes so many arguments
abbrev pub takes : Function → ℕ → Bool
takes function.Not n = n == 1
takes function.Endp n = n == 1
takes function.Eq n = n == 2
takes function.First n = n == 1
takes function.Second n = n == 1
takes function.Rest n = n == 1
takes function.Reverse n = n == 1
takes function.Length n = n == 1
takes function.List n = true
takes function.ListStar n = nat_le 1 n
takes function.Cons n = n == 2
takes function.Append n = true
