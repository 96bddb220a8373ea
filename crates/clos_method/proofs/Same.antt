-- What the tests that compare qualifiers and specializers tell.
use Rattle.std.proofs.Common.{◌≡◌, Bool, ◌&&◌, List, ◌∙◌, sym}
use Rattle.std.specs.Prelude.{IsTrue, ◌↔◌}
use Rattle.std.specs.Cmp.{first_so, second_so}
use Rattle.lisp_data.specs.Print.{Specializer}
use Rattle.lisp_data.specs.Same.{both_so}
use Rattle.lisp_data.specs.Value.{Val}
use Rattle.clos_method.specs.Qualifiers.{same_qualifiers}
use Rattle.clos_method.specs.Specializer.{same_specializers}
use Rattle.clos_method.specs.SpecializerLaws.{same_specializers-Decides, same_qualifiers-Decides}

pub specializers_told : (r : Bool) (xs ys : List Specializer) → r ≡ same_specializers xs ys → IsTrue r ↔ (xs ≡ ys)
specializers_told r xs ys e = (λ h. (same_specializers-Decides xs ys).0 (sym e ∙ h), λ p. e ∙ (same_specializers-Decides xs ys).1 p)

pub qualifiers_told : (r : Bool) (xs ys : List Val) → r ≡ same_qualifiers xs ys → IsTrue r ↔ (xs ≡ ys)
qualifiers_told r xs ys e = (λ h. (same_qualifiers-Decides xs ys).0 (sym e ∙ h), λ p. e ∙ (same_qualifiers-Decides xs ys).1 p)

pub both_told : (r : Bool) (qs ps : List Val) (xs ys : List Specializer) → r ≡ (same_qualifiers qs ps && same_specializers xs ys)
    → IsTrue r ↔ ((qs ≡ ps) × (xs ≡ ys))
both_told r qs ps xs ys e = (
  λ h. (
    (same_qualifiers-Decides qs ps).0 (first_so (same_qualifiers qs ps) (same_specializers xs ys) (sym e ∙ h)),
    (same_specializers-Decides xs ys).0 (second_so (same_qualifiers qs ps) (same_specializers xs ys) (sym e ∙ h)),
  ),
  λ p. e ∙ both_so (same_qualifiers qs ps) (same_specializers xs ys) ((same_qualifiers-Decides qs ps).1 p.0) ((same_specializers-Decides xs ys).1 p.1),
)
