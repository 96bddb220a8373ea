-- Superclasses (HyperSpec 4.3.1), and what the definitions find on the way up to them.
use Rattle.std.specs.Prelude.{◌≡◌, ◌↔◌, ℕ, true, false, List, [], ◌∷◌, ◌⊎◌}
use Rattle.clos_precedence.specs.Precedence.{has, IsFamily}
use Rattle.clos_hierarchy.specs.Classes.{Classes, superclasses, is_based, is_circular, lacking, listing}

-- a series of classes between n and m, each a direct superclass of the one before
abbrev pub Series : Classes → ℕ → List ℕ → ℕ → Type 0
Series cs n [] m = has (superclasses cs n) m ≡ true
Series cs n (x ∷ xs) m = (has (superclasses cs n) x ≡ true) × Series cs x xs m

-- the class m is a superclass of n
abbrev pub IsSuperclass : Classes → ℕ → ℕ → Type 0
IsSuperclass cs n m = (xs : List ℕ) × Series cs n xs m

-- m is n itself, or a superclass of it
abbrev pub IsSelfOrAbove : Classes → ℕ → ℕ → Type 0
IsSelfOrAbove cs n m = (n ≡ m) ⊎ IsSuperclass cs n m

-- these are a class and its superclasses, and all their direct superclasses are defined
pub record IsWhole (cs : Classes) (n : ℕ) (l : List ℕ) : Type 0 where
  pub family : IsFamily (superclasses cs) n l
  pub based : (x : ℕ) → has l x ≡ true → is_based cs x ≡ true

-- it and all its superclasses are classes whose direct superclasses are all defined
abbrev pub IsComplete : Classes → ℕ → Type 0
IsComplete cs n = (m : ℕ) → IsSelfOrAbove cs n m → is_based cs m ≡ true

-- it or one of its superclasses is no class, or has a direct superclass that is not defined
abbrev pub IsIncomplete : Classes → ℕ → Type 0
IsIncomplete cs n = (m : ℕ) × IsSelfOrAbove cs n m × (is_based cs m ≡ false)

-- ---- what the definitions find

-- A class is told to be above itself exactly where it is its own superclass.
abbrev pub FindsCircles : Type 0
FindsCircles = (cs : Classes) (n : ℕ) → (is_circular cs n ≡ true) ↔ IsSuperclass cs n n

-- it is no class, or one of its direct superclasses is not defined; or it is its own superclass
abbrev pub HasNoBase : Classes → ℕ → Type 0
HasNoBase cs n = (is_based cs n ≡ false) ⊎ IsSuperclass cs n n

-- A class is told to be lacking exactly where it or one of its superclasses has no base.
abbrev pub FindsLacking : Type 0
FindsLacking = (cs : Classes) (n : ℕ) → (listing cs n ≡ lacking) ↔ ((m : ℕ) × IsSelfOrAbove cs n m × HasNoBase cs m)
