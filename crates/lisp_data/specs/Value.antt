-- The values of the language (HyperSpec 4.2, 14.1): what a form can give.
use Rattle.std.specs.Prelude.{ℕ, ℤ, ◌+◌, ◌≤◌, nat_le, max, Bool, ◌&&◌, List, [], ◌∷◌}
use Rattle.lisp_data.specs.Name.{Name}
use Rattle.lisp_data.specs.Limits.{most_elements, most_nesting}

mutual
  pub data Val : Type 0 where
    integer : ℤ → Val
    symbol : Name → Val
    string : List ℕ → Val  -- its characters, in UTF-8
    list : Vals → Val  -- the empty list is NIL
    class : ℕ → Val  -- the number of a class, as of the others below
    generic : ℕ → Val
    method : ℕ → Val
    instance : ℕ → Val

  pub data Vals : Type 0 where
    nil : Vals
    cons : Val → Vals → Vals

-- one for each value and each cell
abbrev mutual
  pub size_of_value : Val → ℕ
  size_of_value (integer n) = 1
  size_of_value (symbol s) = 1
  size_of_value (string s) = 1
  size_of_value (list l) = 1 + size_of_values l
  size_of_value (class n) = 1
  size_of_value (generic n) = 1
  size_of_value (method n) = 1
  size_of_value (instance n) = 1

  pub size_of_values : Vals → ℕ
  size_of_values nil = 1
  size_of_values (cons v l) = 1 + (size_of_value v + size_of_values l)

-- the number of elements of a list
abbrev pub length_of : Vals → ℕ
length_of nil = 0
length_of (cons v l) = length_of l + 1

-- how deep lists nest in a value, and in one of the elements with the list around it. An atom nests none
abbrev mutual
  pub nesting_of : Val → ℕ
  nesting_of (integer n) = 0
  nesting_of (symbol s) = 0
  nesting_of (string s) = 0
  nesting_of (list l) = nesting_in l
  nesting_of (class n) = 0
  nesting_of (generic n) = 0
  nesting_of (method n) = 0
  nesting_of (instance n) = 0

  pub nesting_in : Vals → ℕ
  nesting_in nil = 0
  nesting_in (cons v l) = max (nesting_of v + 1) (nesting_in l)

-- a list that is neither too long nor too deep
abbrev pub IsWithinLimits : Vals → Type 0
IsWithinLimits l = (length_of l ≤ most_elements) × (nesting_in l ≤ most_nesting)

abbrev pub is_within_limits : Vals → Bool
is_within_limits l = nat_le (length_of l) most_elements && nat_le (nesting_in l) most_nesting

-- the elements as a list of the definitions
abbrev pub elements : Vals → List Val
elements nil = []
elements (cons v l) = v ∷ elements l

abbrev pub list_from : List Val → Vals
list_from [] = nil
list_from (v ∷ vs) = cons v (list_from vs)
