-- What the program does where files are named, the input perhaps among them.
use Rattle.std.specs.Prelude.{◌≡◌, ◌⊎◌, ℕ, ◌||◌, List, [], ◌∷◌, ◌++◌, Bool, true, false, Option, None, if◌then◌else◌, drop}
use Rattle.std.specs.Io.KnownBytes.{Appends, Keeps}
use Rattle.clos_ending.specs.clos_system.Transcript as Transcript
use Rattle.lisp_reader.specs.Gaps.{Gaps}
use Rattle.clos_ending.specs.clos_system.Transcript.{OverText}
use Rattle.clos_ending.specs.clos_system.declared.transcript.Summary.{Summary}
use Rattle.clos_ending.specs.clos_system.clos_session.Session.{Standing}
use Rattle.clos_ending.specs.clos_system.clos_session.clos_machine.clos_meaning.Host.{Host}
use Rattle.clos_program.specs.Notices.{with_asked}
use Rattle.clos_ending.specs.Status.{fault_status, is_told, status_of}
use Rattle.clos_program.specs.Program.{Failed, RunsInput, is_input, is_input_alone}

-- what is known of the text of a name: of the input, or of a file
abbrev pub known_as : (List ℕ → Option (List ℕ)) → Option (List ℕ) → List ℕ → Option (List ℕ)
known_as text input name = if is_input name then input else text name

-- what is known of the input once the text of a name has run
abbrev pub input_after : List ℕ → Option (List ℕ) → Option (List ℕ)
input_after name input = if is_input name then None else input

-- what is known of texts that run in the order of these names
abbrev pub known_texts : (List ℕ → Option (List ℕ)) → Option (List ℕ) → List (List ℕ) → List (Option (List ℕ))
known_texts text input [] = []
known_texts text input (name ∷ names) = known_as text input name ∷ known_texts text (input_after name input) names

-- A text ran to its end: what is written, and whether a condition or storage line was.
abbrev pub Writes : Host → Bool → Option (List ℕ) → Standing → Standing → List ℕ → Bool → Type 0
Writes host echo known start end out told =
    (n : Summary) × (told ≡ is_told n)
    × OverText known (λ text. (at : ℕ) × Transcript.Ran host echo text start end at out n × Gaps (drop at text) [])

-- Texts ran one after another in one session, each to its end: where the session stands then, what is written, each transcript after
-- the one before, and whether a condition or storage line was.
pub data RanTexts (host : Host) (echo : Bool) (start : Standing) : List (Option (List ℕ)) → Standing → List ℕ → Bool → Type 0 where
  none : RanTexts host echo start [] start [] false
  next : (done : List (Option (List ℕ))) (w : Standing) (out : List ℕ) (told : Bool) (known : Option (List ℕ)) (w' : Standing)
      (more : List ℕ) (told' : Bool) → RanTexts host echo start done w out told → Writes host echo known w w' more told'
      → RanTexts host echo start (done ++ known ∷ []) w' (out ++ more) (told || told')

-- The texts ran, and what is held has grown by what was written.
abbrev pub RanAll : Host → Bool → List (Option (List ℕ)) → Standing → Standing → Option (List ℕ) → Option (List ℕ) → Bool → Type 0
RanAll host echo texts start end old new told = (out : List ℕ) × RanTexts host echo start texts end out told × Appends old new out

-- The next text could not be had, or the output could not be flushed; or the run of the next text failed.
abbrev pub StopsAt : Host → Bool → List (Option (List ℕ)) → Standing → Standing → Option (List ℕ) → Option (List ℕ) → Type 0
StopsAt host echo left start end old new =
    ((end ≡ start) × Keeps old new)
    ⊎ ((known : Option (List ℕ)) × (rest : List (Option (List ℕ))) × (left ≡ known ∷ rest) × Failed host echo known start end old new)

-- The first of the texts ran, and then the next one could not be had, or failed as a run does, or the output could not be flushed.
pub record Stopped (host : Host) (echo : Bool) (texts : List (Option (List ℕ))) (start end : Standing) (old new : Option (List ℕ))
    : Type 0 where
  pub done : List (Option (List ℕ))
  pub left : List (Option (List ℕ))
  pub all : texts ≡ done ++ left
  pub standing : Standing
  pub out : List ℕ
  pub told : Bool
  pub ran : RanTexts host echo start done standing out told
  pub came : Option (List ℕ)
  pub appends : Appends old came out
  pub stops : StopsAt host echo left standing end came new

-- What the program comes to. The notices follow where they are asked for.
abbrev pub RunsFiles : Host → Bool → Bool → List (Option (List ℕ)) → Standing → Standing → Option (List ℕ) → Option (List ℕ) → ℕ → Type 0
RunsFiles host echo notices texts start end old new status =
    ((out : List ℕ) × (told : Bool) × RanTexts host echo start texts end out told
    × (((status ≡ status_of told) × Appends old new (with_asked notices end out))
    ⊎ ((status ≡ fault_status) × ((notices ≡ true) ⊎ Appends old new out))))
    ⊎ ((status ≡ fault_status) × (written : Option (List ℕ)) × Stopped host echo texts start end old written × Keeps written new)

-- .. by the names of its files, of which the input alone may be one
abbrev pub Runs : Host → Bool → Bool → (List ℕ → Option (List ℕ)) → Option (List ℕ) → List (List ℕ) → Standing → Standing
    → Option (List ℕ) → Option (List ℕ) → ℕ → Type 0
Runs host echo notices text input names start end old new status =
    (is_input_alone names ≡ true → RunsInput host echo notices input start end old new status)
    × (is_input_alone names ≡ false → RunsFiles host echo notices (known_texts text input names) start end old new status)
