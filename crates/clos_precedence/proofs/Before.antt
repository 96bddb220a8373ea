-- What comes before what, and which of those left is free.
use Rattle.std.proofs.Common.{◌≡◌, ℕ, ◌==◌, Bool, true, false, List, [], ◌∷◌, Option, Some, refl, ap, subst}
use Rattle.std.specs.Prelude.{not, ◌||◌, if◌then◌else◌}
use Rattle.std.proofs.lemmas.Bool.{eqb-true, eq-eqb}
use Rattle.clos_precedence.specs.Precedence.{has, are_before_done, first_left}
use Rattle.clos_precedence.proofs.Truth.{and_left, and_right, no_way, after_first}

-- each class that is done was free: by the list of p and these
abbrev pub AreFree : List ℕ → ℕ → List ℕ → Type 0
AreFree done p zs = (w : ℕ) → has done w ≡ true → are_before_done done w p zs ≡ true

pub not_done_next : (done : List ℕ) (p z : ℕ) (zs : List ℕ) (b : Bool) → has done z ≡ b → has done p ≡ false → AreFree done p (z ∷ zs) → has done z ≡ false
not_done_next done p z zs true e h g = no_way (z == z) (has done p) (eq-eqb z z refl) h (and_left (not (z == z) || has done p) (are_before_done done z z zs) (g z e))
not_done_next done p z zs false e h g = e

pub not_this : (done : List ℕ) (p z y : ℕ) (b : Bool) → (z == y) ≡ b → has done p ≡ false → (not (z == y) || has done p) ≡ true → (z == y) ≡ false
not_this done p z y true e h k = no_way (z == y) (has done p) e h k
not_this done p z y false e h k = e

-- after a class that is not done, none is free
pub stuck : {A : Type 0} (done zs : List ℕ) (p y : ℕ) → has done p ≡ false → AreFree done p zs → has zs y ≡ true → are_before_done done y p zs ≡ true → A
stuck done [] p y h g k l = cc
stuck done (z ∷ zs) p y h g k l =
    stuck done zs z y (not_done_next done p z zs (has done z) refl h g)
    (λ w e. and_right (not (z == w) || has done p) (are_before_done done w z zs) (g w e))
    (after_first (z == y) (has zs y) (not_this done p z y (z == y) refl h (and_left (not (z == y) || has done p) (are_before_done done y z zs) l)) k)
    (and_right (not (z == y) || has done p) (are_before_done done y z zs) l)

pub picked : (b : Bool) (o : Option ℕ) (z y : ℕ) → (b ≡ true → o ≡ Some y) → (b ≡ false → z ≡ y) → (if b then o else Some z) ≡ Some y
picked true o z y h k = h refl
picked false o z y h k = ap Some (k refl)

pub not_same : (done : List ℕ) (z y : ℕ) (b : Bool) → (z == y) ≡ b → has done z ≡ true → has done y ≡ false → (z == y) ≡ false
not_same done z y true e h k =
    let same : has done y ≡ true = subst (λ x. has done x ≡ true) (eqb-true z y e) h in
    cc
not_same done z y false e h k = e

pub first_or : (done zs : List ℕ) (z y : ℕ) (b : Bool) → (z == y) ≡ b → has done z ≡ false → AreFree done z zs → has (z ∷ zs) y ≡ true → are_before_done done y z zs ≡ true → z ≡ y
first_or done zs z y true e h g k l = eqb-true z y e
first_or done zs z y false e h g k l = stuck done zs z y h g (after_first (z == y) (has zs y) e k) l

-- of those after a class that is done, a free one that is left is the first that is left
pub only_first : (done zs : List ℕ) (p y : ℕ) → AreFree done p zs → has zs y ≡ true → has done y ≡ false → are_before_done done y p zs ≡ true
    → first_left done zs ≡ Some y
only_first done [] p y g h n l = cc
only_first done (z ∷ zs) p y g h n l =
    let others : AreFree done z zs = λ w e. and_right (not (z == w) || has done p) (are_before_done done w z zs) (g w e) in
    let rest : are_before_done done y z zs ≡ true = and_right (not (z == y) || has done p) (are_before_done done y z zs) l in
    picked (has done z) (first_left done zs) z y
    (λ e. only_first done zs z y others (after_first (z == y) (has zs y) (not_same done z y (z == y) refl e n) h) n rest)
    (λ e. first_or done zs z y (z == y) refl e others h rest)
