-- The tests that compare specializers and qualifiers tell exactly where these are equal.
use Rattle.std.proofs.Common.{◌≡◌, ℕ, true, List, refl, ap, ◌∙◌, sym, eqb-true, eq-eqb, true≢false}
use Rattle.std.specs.Bool.{Decides}
use Rattle.std.specs.Cmp.{IsEquivalence, decided}
use Rattle.std.specs.Cmp.Lexicographic.{pointwise_decides}
use Rattle.lisp_data.specs.Print.{Specializer, on_class, on_eql}
use Rattle.lisp_data.specs.Same.{same-Decides}
use Rattle.lisp_data.specs.Value.{Val}
use Rattle.lisp_data.specs.inner.ValueCode.{value_code}
use Rattle.clos_method.specs.Specializer.{same_specializer, same_specializers}
use Rattle.clos_method.specs.Qualifiers.{same_qualifiers}

class_in : Specializer → ℕ
class_in (on_class c) = c
class_in (on_eql v) = 0

from_same : (s t : Specializer) → same_specializer s t ≡ true → s ≡ t
from_same (on_class c) (on_class d) h = ap on_class (eqb-true c d h)
from_same (on_eql v) (on_eql w) h = ap on_eql ((same-Decides value_code v w).0 h)
from_same (on_class c) (on_eql v) h = absurd (true≢false (sym h))
from_same (on_eql v) (on_class c) h = absurd (true≢false (sym h))

itself : (s : Specializer) → same_specializer s s ≡ true
itself (on_class c) = eq-eqb c c refl
itself (on_eql v) = (same-Decides value_code v v).1 refl

to_same : (s t : Specializer) → s ≡ t → same_specializer s t ≡ true
to_same s t p = ap (same_specializer s) (sym p) ∙ itself s

pub same_specializer-Decides : (s t : Specializer) → Decides (same_specializer s t) (s ≡ t)
same_specializer-Decides s t = (from_same s t, to_same s t)

pub specializers_equiv : IsEquivalence same_specializer
specializers_equiv = decided same_specializer same_specializer-Decides

pub same_specializers-Decides : (xs ys : List Specializer) → Decides (same_specializers xs ys) (xs ≡ ys)
same_specializers-Decides xs ys = pointwise_decides same_specializer-Decides xs ys

pub same_qualifiers-Decides : (xs ys : List Val) → Decides (same_qualifiers xs ys) (xs ≡ ys)
same_qualifiers-Decides xs ys = pointwise_decides (same-Decides value_code) xs ys
