-- The data that a reader makes of a text (HyperSpec 2, 14.1).
use Rattle.std.specs.Prelude.{ℕ, ℤ, ◌+◌, max, List, [], ◌∷◌}
use Rattle.lisp_data.specs.Name.{Name}

mutual
  pub data Dat : Type 0 where
    integer : ℤ → Dat
    symbol : Name → Dat
    string : List ℕ → Dat  -- its characters, in UTF-8
    list : Dats → Dat  -- a list that ends in NIL
    dotted : Dats → Dat → Dat  -- a list that ends in another atom
    method : ℕ → Dat  -- a method, in an expansion

  pub data Dats : Type 0 where
    nil : Dats
    cons : Dat → Dats → Dats

-- one for each datum and each cell
abbrev mutual
  pub size_of_datum : Dat → ℕ
  size_of_datum (integer n) = 1
  size_of_datum (symbol s) = 1
  size_of_datum (string s) = 1
  size_of_datum (list l) = 1 + size_of_data l
  size_of_datum (dotted l d) = 2 + (size_of_data l + size_of_datum d)
  size_of_datum (method n) = 1

  pub size_of_data : Dats → ℕ
  size_of_data nil = 1
  size_of_data (cons d l) = 1 + (size_of_datum d + size_of_data l)

-- the number of elements
abbrev pub length_of : Dats → ℕ
length_of nil = 0
length_of (cons d l) = length_of l + 1

-- how deep lists nest in a datum, and in one of the elements with the list around it. An atom nests none
abbrev mutual
  pub nesting_of : Dat → ℕ
  nesting_of (integer n) = 0
  nesting_of (symbol s) = 0
  nesting_of (string s) = 0
  nesting_of (list l) = nesting_in l
  nesting_of (dotted l d) = max (nesting_in l) (nesting_of d + 1)
  nesting_of (method n) = 0

  pub nesting_in : Dats → ℕ
  nesting_in nil = 0
  nesting_in (cons d l) = max (nesting_of d + 1) (nesting_in l)

-- the elements as a list of the definitions
abbrev pub elements : Dats → List Dat
elements nil = []
elements (cons d l) = d ∷ elements l

abbrev pub list_from : List Dat → Dats
list_from [] = nil
list_from (d ∷ ds) = cons d (list_from ds)

-- what a list and the atom after its dot are made of
pub record Dot : Type 0 where
  pub front : Dats
  pub last : Dat

abbrev pub nesting_of_dot : Dot → ℕ
nesting_of_dot d = max (nesting_in d.front) (nesting_of d.last + 1)

abbrev pub size_of_dot : Dot → ℕ
size_of_dot d = 1 + (size_of_data d.front + size_of_datum d.last)
