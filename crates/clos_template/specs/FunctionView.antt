-- What the functions on data answer.
use Rattle.std.specs.Prelude.{◌≡◌, ◌≤◌, ◌<◌, ℕ, Bool, List, map, Option, Some, None, Result, Ok, Err, ⊤}
use Rattle.std.specs.declared.alloc.Global.{Global}
use Rattle.std.specs.declared.vec.Vec.{Vec}
use Rattle.lisp_data.specs.Datum.{Dat, Dats, nesting_in, nesting_of}
use Rattle.lisp_data.specs.DatumView.{datum_of}
use Rattle.lisp_data.specs.Limits.{most_nesting}
use Rattle.lisp_data.specs.declared.datum.Data.{Data}
use Rattle.lisp_data.specs.declared.datum.Datum.{Datum}
use Rattle.clos_template.specs.Expansion.{Expansion, bad, beyond}
use Rattle.clos_template.specs.declared.fault.ExpansionFault.{ExpansionFault}
use Rattle.clos_template.specs.declared.fault.ExpansionFault.TheVariants.{Bad, Beyond, Memory}

-- the elements that there are, or a wrong type
abbrev pub Has : Result Data ExpansionFault → Option Dats → Type 0
Has (Ok l) o = o ≡ Some l
Has (Err Bad) o = o ≡ None
Has (Err Beyond) o = ⊥
Has (Err Memory) o = ⊤

-- a list that is not too deep
abbrev pub Builds : Result Data ExpansionFault → Dats → Type 0
Builds (Ok l) m = (l ≡ m) × (nesting_in m ≤ most_nesting)
Builds (Err Bad) m = ⊥
Builds (Err Beyond) m = most_nesting < nesting_in m
Builds (Err Memory) m = ⊤

-- a datum that is not too deep
abbrev pub BuildsDatum : Result Datum ExpansionFault → Dat → Type 0
BuildsDatum (Ok d) e = (datum_of d ≡ e) × (nesting_of e ≤ most_nesting)
BuildsDatum (Err Bad) e = ⊥
BuildsDatum (Err Beyond) e = most_nesting < nesting_of e
BuildsDatum (Err Memory) e = ⊤

-- what goes on with some data, which leaves so many conses
abbrev pub Collects : Result (Vec Datum Global) ExpansionFault → ℕ → ((List Dat → ℕ → Expansion) → Expansion) → Type 0
Collects (Ok ds) n run = (go : List Dat → ℕ → Expansion) → run go ≡ go (map datum_of ds.items) n
Collects (Err Bad) n run = (go : List Dat → ℕ → Expansion) → run go ≡ bad
Collects (Err Beyond) n run = (go : List Dat → ℕ → Expansion) → run go ≡ beyond
Collects (Err Memory) n run = ⊤

-- the elements of some lists, or a wrong type
abbrev pub HasAll : Result (Vec Datum Global) ExpansionFault → Option (List Dat) → Type 0
HasAll (Ok ds) o = o ≡ Some (map datum_of ds.items)
HasAll (Err Bad) o = o ≡ None
HasAll (Err Beyond) o = ⊥
HasAll (Err Memory) o = ⊤

-- whether it is so, where that can be told
abbrev pub Tells : Result Bool ExpansionFault → Option Bool → Type 0
Tells (Ok b) o = o ≡ Some b
Tells (Err Bad) o = o ≡ None
Tells (Err Beyond) o = ⊥
Tells (Err Memory) o = ⊥
