-- The first group that takes a method.
use Rattle.std.proofs.Common.{◌≡◌, ◌+◌, ◌<◌, ℕ, zero, suc, Bool, true, false, List, [], ◌∷◌, refl, ap, subst, ◌∙◌, arith}
use Rattle.std.specs.Prelude.{Option, Some, if◌then◌else◌, slice_get}
use Rattle.lisp_data.specs.Value.{Val}
use Rattle.clos_groups.specs.Group.{IsFirstToTake, first_from, takes, takes_at}
use Rattle.clos_groups.specs.Laws.{TakesFirst}
use Rattle.clos_combination.specs.declared.group.GroupSpecifier.{GroupSpecifier}

-- the place of a group that was found, counted from the first of these
abbrev Found : ℕ → List GroupSpecifier → List Val → ℕ → Type 0
Found j gs qs k = (i : ℕ) × (k ≡ j + i) × IsFirstToTake gs qs i

none_before : (g : GroupSpecifier) (gs : List GroupSpecifier) (qs : List Val) (i : ℕ) → takes g qs ≡ false → ((m : ℕ) → m < i → takes_at qs (slice_get gs m) ≡ false) → (m : ℕ) → m < suc i → takes_at qs (slice_get (g ∷ gs) m) ≡ false
none_before g gs qs i h f zero lt = h
none_before g gs qs i h f (suc m) lt = f m (omega arith)

later : (j k : ℕ) (g : GroupSpecifier) (gs : List GroupSpecifier) (qs : List Val) → takes g qs ≡ false → Found (j + 1) gs qs k → Found j (g ∷ gs) qs k
later j k g gs qs h f = (suc f.0, omega (arith, f.1), record { takes_it = f.2.takes_it; none_before = none_before g gs qs f.0 h f.2.none_before })

from_first : (j k : ℕ) → Some j ≡ Some k → k ≡ j + 0
from_first j k e = let same : j ≡ k = cc e in omega (arith, same)

found_by : (b : Bool) (j k : ℕ) (g : GroupSpecifier) (gs : List GroupSpecifier) (qs : List Val) → takes g qs ≡ b → (if b then Some j else first_from (j + 1) gs qs) ≡ Some k → (first_from (j + 1) gs qs ≡ Some k → Found (j + 1) gs qs k) → Found j (g ∷ gs) qs k
found_by true j k g gs qs h e rest = (0, from_first j k e, record { takes_it = h; none_before = λ m lt. absurd (omega arith) })
found_by false j k g gs qs h e rest = later j k g gs qs h (rest e)

found : (j k : ℕ) (gs : List GroupSpecifier) (qs : List Val) → first_from j gs qs ≡ Some k → Found j gs qs k
found j k [] qs e = absurd (cc)
found j k (g ∷ gs) qs e = found_by (takes g qs) j k g gs qs refl e (found (j + 1) k gs qs)

chosen : (b : Bool) (j : ℕ) (o : Option ℕ) → b ≡ true → (if b then Some j else o) ≡ Some j
chosen b j o h = ap (λ c. if c then Some j else o) h

passed : (b : Bool) (j : ℕ) (o : Option ℕ) → b ≡ false → (if b then Some j else o) ≡ o
passed b j o h = ap (λ c. if c then Some j else o) h

finds : (j i : ℕ) (gs : List GroupSpecifier) (qs : List Val) → IsFirstToTake gs qs i → first_from j gs qs ≡ Some (j + i)
finds j zero [] qs f = absurd (cc (f.takes_it))
finds j (suc i) [] qs f = absurd (cc (f.takes_it))
finds j zero (g ∷ gs) qs f = chosen (takes g qs) j (first_from (j + 1) gs qs) f.takes_it ∙ ap Some (omega arith)
finds j (suc i) (g ∷ gs) qs f =
    passed (takes g qs) j (first_from (j + 1) gs qs) (f.none_before 0 (omega arith))
    ∙ finds (j + 1) i gs qs (record { takes_it = f.takes_it; none_before = λ m lt. f.none_before (suc m) (omega arith) }) ∙ ap Some (omega arith)

at_place : (gs : List GroupSpecifier) (qs : List Val) (k : ℕ) → Found 0 gs qs k → IsFirstToTake gs qs k
at_place gs qs k f = let e : f.0 ≡ k = omega (arith, f.1) in subst (IsFirstToTake gs qs) e f.2

pub takes_first : TakesFirst
takes_first gs qs k = (λ e. at_place gs qs k (found 0 k gs qs e), λ f. finds 0 k gs qs f ∙ ap Some (omega arith))
