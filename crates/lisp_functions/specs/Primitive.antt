-- The functions of values, by their names (HyperSpec 5.3, 12.2, 14.2, 17.3).
use Rattle.std.specs.Prelude.{ℕ, if◌then◌else◌, List, [], ◌∷◌, Option, Some, None, codes}
use Rattle.std.specs.Borrow.{Bor}
use Rattle.std.specs.Str.{bytes_eq}
use Rattle.lisp_data.specs.Name.{Name}
use Rattle.lisp_functions.specs.declared.primitive.Primitive.{Primitive}
use Rattle.lisp_functions.specs.declared.primitive.Primitive.TheVariants.{Number, Order, Test, Length, Listed}
use Rattle.lisp_functions.specs.declared.arithmetic.Arithmetic.TheVariants.{Sum, Product, Difference, Greatest, Least, Increment, Decrement, Absolute, Floor, Truncate, Modulus, Remainder}
use Rattle.lisp_functions.specs.declared.comparison.Comparison.TheVariants.{Same, Less, Greater, AtMost, AtLeast}
use Rattle.lisp_functions.specs.declared.predicates.Predicate.TheVariants.{Value, Integer, Eql, Equal}
use Rattle.lisp_functions.specs.declared.predicates.ValueTest.TheVariants.{Null, Atom, Consp, Listp, Symbolp, Integerp, Stringp}
use Rattle.lisp_functions.specs.declared.predicates.IntegerTest.TheVariants.{Zerop, Plusp, Minusp, Evenp, Oddp}
use Rattle.lisp_functions.specs.declared.lists.ListFunction.TheVariants.{Car, Cdr, Second, Third, Nth, Cons, List as Listing, ListStar, Append, Reverse}

abbrev pub entry : List ℕ → Primitive → List ℕ × Primitive
entry text p = (text, p)

-- each name with its function
abbrev pub names : List (List ℕ × Primitive)
names =
    entry (codes "+") (Number Sum)
    ∷ entry (codes "*") (Number Product)
    ∷ entry (codes "-") (Number Difference)
    ∷ entry (codes "MAX") (Number Greatest)
    ∷ entry (codes "MIN") (Number Least)
    ∷ entry (codes "1+") (Number Increment)
    ∷ entry (codes "1-") (Number Decrement)
    ∷ entry (codes "ABS") (Number Absolute)
    ∷ entry (codes "ZEROP") (Test (Integer Zerop))
    ∷ entry (codes "PLUSP") (Test (Integer Plusp))
    ∷ entry (codes "MINUSP") (Test (Integer Minusp))
    ∷ entry (codes "EVENP") (Test (Integer Evenp))
    ∷ entry (codes "ODDP") (Test (Integer Oddp))
    ∷ entry (codes "FLOOR") (Number Floor)
    ∷ entry (codes "TRUNCATE") (Number Truncate)
    ∷ entry (codes "MOD") (Number Modulus)
    ∷ entry (codes "REM") (Number Remainder)
    ∷ entry (codes "=") (Order Same)
    ∷ entry (codes "<") (Order Less)
    ∷ entry (codes ">") (Order Greater)
    ∷ entry (codes "<=") (Order AtMost)
    ∷ entry (codes ">=") (Order AtLeast)
    ∷ entry (codes "NOT") (Test (Value Null))
    ∷ entry (codes "NULL") (Test (Value Null))
    ∷ entry (codes "EQ") (Test Eql)
    ∷ entry (codes "EQL") (Test Eql)
    ∷ entry (codes "EQUAL") (Test Equal)
    ∷ entry (codes "ATOM") (Test (Value Atom))
    ∷ entry (codes "CONSP") (Test (Value Consp))
    ∷ entry (codes "LISTP") (Test (Value Listp))
    ∷ entry (codes "SYMBOLP") (Test (Value Symbolp))
    ∷ entry (codes "INTEGERP") (Test (Value Integerp))
    ∷ entry (codes "STRINGP") (Test (Value Stringp))
    ∷ entry (codes "CAR") (Listed Car)
    ∷ entry (codes "CDR") (Listed Cdr)
    ∷ entry (codes "FIRST") (Listed Car)
    ∷ entry (codes "SECOND") (Listed Second)
    ∷ entry (codes "THIRD") (Listed Third)
    ∷ entry (codes "REST") (Listed Cdr)
    ∷ entry (codes "NTH") (Listed Nth)
    ∷ entry (codes "CONS") (Listed Cons)
    ∷ entry (codes "LIST") (Listed Listing)
    ∷ entry (codes "LIST*") (Listed ListStar)
    ∷ entry (codes "APPEND") (Listed Append)
    ∷ entry (codes "NCONC") (Listed Append)
    ∷ entry (codes "REVERSE") (Listed Reverse)
    ∷ entry (codes "LENGTH") Length
    ∷ []

-- the function of these characters
abbrev pub entry_of : List (List ℕ × Primitive) → List ℕ → Option Primitive
entry_of [] text = None
entry_of (e ∷ es) text = if bytes_eq e.0 text then Some e.1 else entry_of es text

-- an entry of the code's table
abbrev pub told : Bor (List ℕ) × Primitive → List ℕ × Primitive
told e = (e.0.now, e.1)

-- the function of a name, which is no keyword
abbrev pub primitive_of : Name → Option Primitive
primitive_of name = if name.keyword then None else entry_of names name.text
