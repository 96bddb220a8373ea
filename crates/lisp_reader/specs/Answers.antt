-- What reading a text from an offset on answers.
use Rattle.std.specs.Prelude.{◌≡◌, ◌≢◌, ℕ, ℤ, ◌+◌, ◌≤◌, ◌<◌, List, [], ◌∷◌, ◌++◌, length, drop, Option, Some, None, Result, Ok, Err}
use Rattle.lisp_data.specs.Datum.{Dat, integer}
use Rattle.lisp_data.specs.DatumView.{datum_of}
use Rattle.lisp_data.specs.declared.datum.Datum.{Datum}
use Rattle.lisp_tokens.specs.Fault.{Kind, end_inside, OnFault}
use Rattle.lisp_tokens.specs.Gaps.{Gaps, GapFails}
use Rattle.lisp_tokens.specs.Memory.{Takes}
use Rattle.lisp_tokens.specs.Reading.{Spells, NoDatum, Fails, Tail, TailFails, EndFails}
use Rattle.lisp_tokens.specs.declared.fault.ReadFault.{ReadFault}
use Rattle.lisp_tokens.specs.declared.fault.ReadFault.TheVariants.{EndInside}

-- how many lists and prefixes may be open at once
abbrev pub most_open : ℕ
most_open = 200

-- the next datum of a text, and what follows it
pub data Next : List ℕ → Dat → List ℕ → Type 0 where
  next : (text start : List ℕ) (d : Dat) (rest : List ℕ) → Gaps text start → Spells most_open start d rest → Next text d rest

-- why a text has no next datum, and the text from where the fault stands: for an end inside the next
-- datum or a comment, from where that begins
pub data NextFails : List ℕ → Kind → List ℕ → Type 0 where
  in_gaps : (text : List ℕ) (kind : Kind) (at : List ℕ) → GapFails text kind at → NextFails text kind at
  unfinished : (text start at : List ℕ) → Gaps text start → start ≢ [] → Fails most_open start end_inside at → NextFails text end_inside start
  in_datum : (text start : List ℕ) (kind : Kind) (at : List ℕ) → Gaps text start → start ≢ [] → Fails most_open start kind at → kind ≢ end_inside → NextFails text kind at

-- what a text gives next: nothing but gaps, a datum and what follows it, or a fault and the text from
-- where it stands
pub data Outcome : Type 0 where
  nothing_left : Outcome
  a_datum : Dat → List ℕ → Outcome
  a_fault : Kind → List ℕ → Outcome

abbrev pub Gives : List ℕ → Outcome → Type 0
Gives text nothing_left = Gaps text []
Gives text (a_datum d rest) = Next text d rest
Gives text (a_fault kind at) = NextFails text kind at

-- the answer is that of the text from an offset on, with the offsets of what follows or of the fault
abbrev pub Answers : List ℕ → ℕ → Result (Option (Datum × ℕ)) ReadFault → Type 0
Answers bytes from (Ok None) = Gives (drop from bytes) nothing_left
Answers bytes from (Ok (Some found)) =
    (found.1 ≤ length bytes) × Gives (drop from bytes) (a_datum (datum_of found.0) (drop found.1 bytes))
Answers bytes from (Err fault) =
    OnFault fault (λ kind n. (n ≤ length bytes) × Gives (drop from bytes) (a_fault kind (drop n bytes)))

-- the next datum takes memory
abbrev pub TakesMemory : List ℕ → Type 0
TakesMemory text = (start : List ℕ) × Gaps text start × Takes most_open start

-- nothing does where only gaps are left, where one of them is at fault, where no datum begins after them, or where the
-- next datum is an integer
abbrev pub TakesNone : Type 0
TakesNone =
    (text : List ℕ) → TakesMemory text → ¬ (Gaps text []) × ((kind : Kind) (at : List ℕ) → ¬ (GapFails text kind at)) × ((start : List ℕ) (kind : Kind) → Gaps text start → ¬ (NoDatum start kind)) × ((n : ℤ) (rest : List ℕ) → ¬ (Next text (integer n) rest))

-- a text gives one thing next
abbrev pub GivesOne : Type 0
GivesOne = (text : List ℕ) (one other : Outcome) → Gives text one → Gives text other → other ≡ one

-- further lines mend no fault other than an end inside: it stays that of each text that goes on from this one with a
-- newline (10)
abbrev pub FaultStays : Type 0
FaultStays =
    (text more : List ℕ) (kind : Kind) (at : List ℕ) → kind ≢ end_inside → Gives text (a_fault kind at) → Gives (text ++ (10 ∷ more)) (a_fault kind (at ++ (10 ∷ more)))

-- one datum after the dot at `dot` and the closing parenthesis, with the offset after that
abbrev pub ReadsTail : List ℕ → ℕ → ℕ → Datum × ℕ → Type 0
ReadsTail bytes room dot found =
    (dot < found.1) × (found.1 ≤ length bytes) × Tail room (drop (dot + 1) bytes) (datum_of found.0) (drop found.1 bytes)

-- or the fault that stands in their place
abbrev pub RefusesTail : List ℕ → ℕ → ℕ → ReadFault → Type 0
RefusesTail bytes room dot fault =
    OnFault fault (λ kind n. (n ≤ length bytes) × TailFails room (drop (dot + 1) bytes) kind (drop n bytes))

-- the offset after the closing parenthesis that follows gaps
abbrev pub Ends : List ℕ → ℕ → ℕ → Type 0
Ends bytes from n = (from < n) × (n ≤ length bytes) × Gaps (drop from bytes) (41 ∷ drop n bytes)

-- or the fault of what follows them
abbrev pub RefusesEnd : List ℕ → ℕ → ReadFault → Type 0
RefusesEnd bytes from fault =
    OnFault fault (λ kind n. (n ≤ length bytes) × EndFails (drop from bytes) kind (drop n bytes))

-- the same fault, but for an end inside of a datum at `start`
abbrev pub outermost : ReadFault → ℕ → ReadFault
outermost (EndInside n) start = EndInside start
outermost fault start = fault
