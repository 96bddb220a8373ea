-- Whether two values of a type with a code are one: whether their codes are.
use Rattle.std.proofs.Common.{◌≡◌, Bool, true, false, ◌==◌, ◌&&◌, refl, ap, ◌∙◌, sym, eqb-true, eq-eqb, true≢false}
use Rattle.std.specs.Bool.{Decides}
use Rattle.std.specs.Cmp.{first_so, second_so}
use Rattle.std.specs.Coded.{Coded}
use base.Stored.{Gv, gnil, gnum, gcons}

abbrev pub same_code : Gv → Gv → Bool
same_code gnil gnil = true
same_code (gnum m) (gnum n) = m == n
same_code (gcons a b) (gcons c d) = same_code a c && same_code b d
same_code _ _ = false

abbrev pub same : {A : Type 0} → Coded A → A → A → Bool
same c x y = same_code (c.code x) (c.code y)

-- ---- the test decides it

pub both_so : (s t : Bool) → s ≡ true → t ≡ true → (s && t) ≡ true
both_so true t h k = k
both_so false t h k = h

from_same : (a b : Gv) → same_code a b ≡ true → a ≡ b
from_same gnil gnil h = refl
from_same (gnum m) (gnum n) h = ap gnum (eqb-true m n h)
from_same (gcons a b) (gcons c d) h =
    λ i. gcons (from_same a c (first_so (same_code a c) (same_code b d) h) i) (from_same b d (second_so (same_code a c) (same_code b d) h) i)
from_same gnil (gnum n) h = absurd (true≢false (sym h))
from_same gnil (gcons c d) h = absurd (true≢false (sym h))
from_same (gnum m) gnil h = absurd (true≢false (sym h))
from_same (gnum m) (gcons c d) h = absurd (true≢false (sym h))
from_same (gcons a b) gnil h = absurd (true≢false (sym h))
from_same (gcons a b) (gnum n) h = absurd (true≢false (sym h))

itself : (a : Gv) → same_code a a ≡ true
itself gnil = refl
itself (gnum n) = eq-eqb n n refl
itself (gcons a b) = both_so (same_code a a) (same_code b b) (itself a) (itself b)

module _ {A : Type 0} (c : Coded A) where
  to_same : (x y : A) → x ≡ y → same c x y ≡ true
  to_same x y p = ap (λ z. same_code (c.code x) (c.code z)) (sym p) ∙ itself (c.code x)

  pub same-Decides : (x y : A) → Decides (same c x y) (x ≡ y)
  same-Decides x y = (λ h. c.inj x y (from_same (c.code x) (c.code y) h), to_same x y)
