-- The special operators and macros of the language, by their names (HyperSpec 3.1.2.1.2.1, 3.1.2.1.2.2).
use Rattle.std.specs.Prelude.{ℕ, if◌then◌else◌, List, [], ◌∷◌, Option, Some, None, map, codes}
use Rattle.std.specs.Borrow.{Bor}
use Rattle.std.specs.Str.{bytes_eq}
use Rattle.lisp_data.specs.Name.{Name}
use Rattle.clos_names.specs.declared.special.Special.{Special}
use Rattle.clos_names.specs.declared.special.Special.TheVariants.{Quote, Function, If, Cond, When, Unless, And, Or, Progn, Prog1, Let, LetInOrder, Setq, Setf, Incf, Decf, Dotimes, WithSlots, CallNextMethod, NextMethodP}

abbrev pub entry : List ℕ → Special → List ℕ × Special
entry text s = (text, s)

-- each name with its operator
abbrev pub specials : List (List ℕ × Special)
specials =
    entry (codes "QUOTE") Quote
    ∷ entry (codes "FUNCTION") Function
    ∷ entry (codes "IF") If
    ∷ entry (codes "COND") Cond
    ∷ entry (codes "WHEN") When
    ∷ entry (codes "UNLESS") Unless
    ∷ entry (codes "AND") And
    ∷ entry (codes "OR") Or
    ∷ entry (codes "PROGN") Progn
    ∷ entry (codes "PROG1") Prog1
    ∷ entry (codes "MULTIPLE-VALUE-PROG1") Prog1
    ∷ entry (codes "LET") Let
    ∷ entry (codes "LET*") LetInOrder
    ∷ entry (codes "SETQ") Setq
    ∷ entry (codes "SETF") Setf
    ∷ entry (codes "INCF") Incf
    ∷ entry (codes "DECF") Decf
    ∷ entry (codes "DOTIMES") Dotimes
    ∷ entry (codes "WITH-SLOTS") WithSlots
    ∷ entry (codes "CALL-NEXT-METHOD") CallNextMethod
    ∷ entry (codes "NEXT-METHOD-P") NextMethodP
    ∷ []

-- the names alone
abbrev pub special_operators : List (List ℕ)
special_operators = map (λ (e : List ℕ × Special). e.0) specials

-- the operator of these characters
abbrev pub entry_of : List (List ℕ × Special) → List ℕ → Option Special
entry_of [] text = None
entry_of (e ∷ es) text = if bytes_eq e.0 text then Some e.1 else entry_of es text

-- an entry of the code's table
abbrev pub told : Bor (List ℕ) × Special → List ℕ × Special
told e = (e.0.now, e.1)

-- the operator of a name, which is no keyword
abbrev pub special_of : Name → Option Special
special_of name = if name.keyword then None else entry_of specials name.text
