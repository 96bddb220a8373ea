-- What is said of answers are facts.
use Rattle.std.specs.Prelude.{ℤ, List}
use Rattle.std.proofs.Props.{props}
use Rattle.clos_native.specs.Relation.{Meets}
use Rattle.clos_native.specs.declared.relation.Relation.{Relation}
use Rattle.clos_native.specs.declared.relation.Relation.TheVariants.{Within, Clamped}

pub meets_is_fact : (r : Relation) (xs : List ℤ) (n : ℤ) → IsProp (Meets r xs n)
meets_is_fact (Within lo hi) xs n = Prim.hlevel props
meets_is_fact (Clamped coefficients constant lo hi) xs n = Prim.hlevel props
