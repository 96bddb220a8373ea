-- What a template comes to.
use Rattle.std.specs.Prelude.{◌≡◌, ℕ, ◌-◌, nat_le, ◌&&◌, if◌then◌else◌, ⊤, Result, Ok, Err}
use Rattle.lisp_data.specs.Datum.{Dat, nesting_of}
use Rattle.lisp_data.specs.DatumView.{datum_of}
use Rattle.lisp_data.specs.Limits.{most_nesting}
use Rattle.lisp_data.specs.declared.datum.Datum.{Datum}
use Rattle.clos_template.specs.declared.fault.ExpansionFault.{ExpansionFault}
use Rattle.clos_template.specs.declared.fault.ExpansionFault.TheVariants.{Bad, Beyond, Memory}

-- the datum for which a template stands, and what may be made after it; or why there is none
pub data Expansion : Type 0 where
  made : Dat → ℕ → Expansion  -- this datum; so many conses may still be made
  bad : Expansion  -- nothing: a name is unknown, or an argument has a wrong type
  beyond : Expansion  -- nothing: there would be a cons too many, or a list too deep

-- It goes on where there is a datum.
abbrev pub then_do : Expansion → (Dat → ℕ → Expansion) → Expansion
then_do (made d n) go = go d n
then_do bad go = bad
then_do beyond go = beyond

-- this datum, for which so many conses are made
abbrev pub built : ℕ → Dat → ℕ → Expansion
built k d n = if nat_le k n && nat_le (nesting_of d) most_nesting then made d (n - k) else beyond

-- what the code answers, which leaves so many conses; want of memory says nothing
abbrev pub Comes : Result Datum ExpansionFault → ℕ → Expansion → Type 0
Comes (Ok d) n e = e ≡ made (datum_of d) n
Comes (Err Bad) n e = e ≡ bad
Comes (Err Beyond) n e = e ≡ beyond
Comes (Err Memory) n e = ⊤
