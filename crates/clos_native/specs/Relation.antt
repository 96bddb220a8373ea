-- What the answers of stored functions meet.
use Rattle.std.specs.Prelude.{◌≡◌, ℕ, ℤ, ◌+ℤ◌, ◌*ℤ◌, int_lt, Bool, false, not, ◌&&◌, List, [], ◌∷◌, length, if◌then◌else◌}
use Rattle.std.specs.Ordering.{int_eq}
use Rattle.clos_native.specs.declared.relation.Relation.{Relation}
use Rattle.clos_native.specs.declared.relation.Relation.TheVariants.{Within, Clamped}

-- the constant and each argument times its coefficient, added
abbrev pub weighed : List ℤ → ℤ → List ℤ → ℤ
weighed [] constant xs = constant
weighed (c ∷ cs) constant [] = constant
weighed (c ∷ cs) constant (x ∷ xs) = (c *ℤ x) +ℤ weighed cs constant xs

-- a number, or the bound that it passes
abbrev pub clamped : ℤ → ℤ → ℤ → ℤ
clamped lo hi n = if int_lt n lo then lo else if int_lt hi n then hi else n

-- the answer to these integers is such
abbrev pub Meets : Relation → List ℤ → ℤ → Type 0
Meets (Within lo hi) xs r = (int_lt r lo ≡ false) × (int_lt hi r ≡ false)
Meets (Clamped coefficients constant lo hi) xs r = r ≡ clamped lo hi (weighed coefficients.items constant xs)

-- the same, as a truth value
abbrev pub permits : Relation → List ℤ → ℤ → Bool
permits (Within lo hi) xs r = not (int_lt r lo) && not (int_lt hi r)
permits (Clamped coefficients constant lo hi) xs r = int_eq r (clamped lo hi (weighed coefficients.items constant xs))

-- the bounds are in order, and there is a coefficient for each of so many integers
abbrev pub IsFor : Relation → ℕ → Type 0
IsFor (Within lo hi) arity = int_lt hi lo ≡ false
IsFor (Clamped coefficients constant lo hi) arity = (int_lt hi lo ≡ false) × (length coefficients.items ≡ arity)
