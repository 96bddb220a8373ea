-- Data and gaps at an offset of a text, with the offset after them, or the fault that stands there.
use Rattle.std.specs.Prelude.{ℕ, ◌≤◌, ◌<◌, List, length, drop}
use Rattle.lisp_data.specs.DatumView.{datum_of}
use Rattle.lisp_data.specs.declared.datum.Datum.{Datum}
use Rattle.lisp_tokens.specs.Fault.{OnRefusal}
use Rattle.lisp_tokens.specs.Gaps.{GapFails}
use Rattle.lisp_tokens.specs.Memory.{Takes}
use Rattle.lisp_tokens.specs.Reading.{Spells, Fails}
use Rattle.lisp_tokens.specs.declared.fault.ReadFault.{ReadFault}

-- a datum that begins at an offset, with the offset after it
abbrev pub Reads : List ℕ → ℕ → ℕ → Datum × ℕ → Type 0
Reads bytes room at found =
    (at < found.1) × (found.1 ≤ length bytes) × Spells room (drop at bytes) (datum_of found.0) (drop found.1 bytes)

-- or the fault that stands in its place; memory runs out only where the datum takes some
abbrev pub Refuses : List ℕ → ℕ → ℕ → ReadFault → Type 0
Refuses bytes room at fault =
    OnRefusal fault (λ kind n. (n ≤ length bytes) × Fails room (drop at bytes) kind (drop n bytes)) (Takes room (drop at bytes))

-- the gaps at an offset are at fault, and take no memory
abbrev pub GapRefuses : List ℕ → ℕ → ReadFault → Type 0
GapRefuses bytes at fault =
    OnRefusal fault (λ kind n. (n ≤ length bytes) × GapFails (drop at bytes) kind (drop n bytes)) ⊥
