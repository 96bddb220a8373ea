-- What it is to list the applicable methods of a call in order (HyperSpec 7.6.6.1.1, 7.6.6.1.2). Methods are told by their numbers.
use Rattle.std.specs.Prelude.{◌≡◌, ℕ, ◌<◌, ◌⊎◌, true, false, List, [], ◌∷◌, length}
use Rattle.clos_method.specs.Applicable.{is_applicable, specializers_of}
use Rattle.clos_method.specs.Arguments.{Argument}
use Rattle.clos_method.specs.Order.{comes_before, ordered}
use Rattle.clos_method.specs.Shape.{is_congruent}
use Rattle.clos_method.specs.System.{system_classes, system_method_shape, system_required, system_shape}
use Rattle.clos_method.specs.declared.method.Method.{Method}
use Rattle.clos_method.specs.declared.system.SystemFunction.{SystemFunction}

abbrev pub IsMember : List ℕ → ℕ → Type 0
IsMember [] n = ⊥
IsMember (x ∷ xs) n = (x ≡ n) ⊎ IsMember xs n

abbrev pub HasNoneTwice : List ℕ → Type 0
HasNoneTwice [] = Unit {0}
HasNoneTwice (x ∷ xs) = (IsMember xs x → ⊥) × HasNoneTwice xs

-- the first number stands in the list with the second after it
abbrev pub StandsAhead : List ℕ → ℕ → ℕ → Type 0
StandsAhead [] n m = ⊥
StandsAhead (x ∷ xs) n m = ((x ≡ n) × IsMember xs m) ⊎ StandsAhead xs n m

module _ (methods : List Method) (order : List ℕ) (args : List Argument) (candidates : List ℕ) where
  -- The candidates, in order of addition, are methods of a function with as many required parameters as there are arguments, and
  -- its argument precedence order has each of these.
  pub record IsCall : Type 0 where
    pub distinct : HasNoneTwice candidates
    pub specialized : (n : ℕ) → IsMember candidates n → length (specializers_of methods n) ≡ length args
    pub each_place : (p : ℕ) → p < length args → IsMember order p

  pub record IsOrdered (listed : List ℕ) : Type 0 where
    -- each applicable candidate once, and nothing else
    pub applicable : (n : ℕ) → IsMember listed n → IsMember candidates n × (is_applicable methods args n ≡ true)
    pub complete : (n : ℕ) → IsMember candidates n → is_applicable methods args n ≡ true → IsMember listed n
    pub distinct : HasNoneTwice listed
    -- none ahead of one that comes before it
    pub by_precedence : (n m : ℕ) → StandsAhead listed n m → comes_before methods order args m n ≡ false
    -- those of equal specializers in order of addition
    pub by_addition : (n m : ℕ) → StandsAhead listed n m → specializers_of methods n ≡ specializers_of methods m → StandsAhead candidates n m

-- The list that dispatch finds is ordered so.
abbrev pub ListsInOrder : Type 0
ListsInOrder = (methods : List Method) (order : List ℕ) (args : List Argument) (candidates : List ℕ)
    → IsCall methods order args candidates → IsOrdered methods order args candidates (ordered methods order args candidates)

-- No other list is.
abbrev pub IsTheOnlyOrder : Type 0
IsTheOnlyOrder = (methods : List Method) (order : List ℕ) (args : List Argument) (candidates listed : List ℕ)
    → IsCall methods order args candidates → IsOrdered methods order args candidates listed → listed ≡ ordered methods order args candidates

-- The method of each function of the system is congruent with it, and specialized on a class for each required parameter.
abbrev pub SystemIsCongruent : Type 0
SystemIsCongruent = (f : SystemFunction) → (is_congruent (system_shape f) (system_method_shape f) ≡ true) × (length (system_classes f) ≡ system_required f)
