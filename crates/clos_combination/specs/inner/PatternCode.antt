-- How the logic stores a pattern.
use Rattle.std.specs.Prelude.{◌≡◌, ◌⊎◌, Bool, List, refl}
use Rattle.std.specs.Coded.{Coded, code_by, coded×, coded⊎, coded_bool, coded_list}
use Rattle.std.proofs.Common.{inl, inr}
use base.Stored.{coded_unit}
use Rattle.lisp_data.specs.Value.{Val}
use Rattle.lisp_data.specs.inner.ValueCode.{value_code}
use Rattle.clos_combination.specs.Pattern.{Wanted, anything, equal_to, nothing, Pattern, every, listed}

-- the value to which a qualifier is to be equal, or which of the other two it is
abbrev wanted_to : Wanted → Val ⊎ (Unit {0} ⊎ Unit {0})
wanted_to (equal_to v) = inl v
wanted_to anything = inr (inl tt)
wanted_to nothing = inr (inr tt)

-- back from these, in this order: equal to a value, anything, nothing
abbrev wanted_from : Val ⊎ (Unit {0} ⊎ Unit {0}) → Wanted
wanted_from (inl v) = equal_to v
wanted_from (inr (inl u)) = anything
wanted_from (inr (inr u)) = nothing

pub wanted_back : (w : Wanted) → wanted_from (wanted_to w) ≡ w
wanted_back (equal_to v) = refl
wanted_back anything = refl
wanted_back nothing = refl

-- what an element asks is stored as one of the three, from which it comes back
abbrev wanted_code : Coded Wanted
wanted_code = code_by (Val ⊎ (Unit {0} ⊎ Unit {0})) (coded⊎ value_code (coded⊎ coded_unit coded_unit)) wanted_to wanted_from wanted_back

-- a list by what its elements ask and whether more may follow, the pattern of any qualifiers by nothing
abbrev pattern_to : Pattern → (List Wanted × Bool) ⊎ Unit {0}
pattern_to (listed ws more) = inl (ws, more)
pattern_to every = inr tt

-- back from these: a list, or the pattern of any qualifiers
abbrev pattern_from : (List Wanted × Bool) ⊎ Unit {0} → Pattern
pattern_from (inl p) = listed p.0 p.1
pattern_from (inr u) = every

pub pattern_back : (p : Pattern) → pattern_from (pattern_to p) ≡ p
pattern_back (listed ws more) = refl
pattern_back every = refl

-- a pattern is stored as one of the two, from which it comes back
abbrev pub pattern_code : Coded Pattern
pattern_code =
    code_by ((List Wanted × Bool) ⊎ Unit {0}) (coded⊎ (coded× (coded_list wanted_code) coded_bool) coded_unit) pattern_to pattern_from pattern_back
