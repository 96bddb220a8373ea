-- An answer that meets the relation is one that it permits.
use Rattle.std.proofs.Common.{◌≡◌, true, List, ap, ◌∙◌}
use Rattle.std.specs.Prelude.{ℤ, not, ◌&&◌, int_lt}
use Rattle.std.specs.Cmp.{signed_Decides}
use Rattle.clos_native.specs.Relation.{Meets, clamped, permits, weighed}
use Rattle.clos_native.specs.declared.relation.Relation.{Relation}
use Rattle.clos_native.specs.declared.relation.Relation.TheVariants.{Within, Clamped}

pub permitted : (relation : Relation) (xs : List ℤ) (x : ℤ) → Meets relation xs x → permits relation xs x ≡ true
permitted (Within lo hi) xs x h = ap (λ b. not b && not (int_lt hi x)) h.0 ∙ ap not h.1
permitted (Clamped coefficients constant lo hi) xs x h = (signed_Decides x (clamped lo hi (weighed coefficients.items constant xs))).1 h
