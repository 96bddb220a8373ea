-- What the program does where its input alone is run: no file is named, or the name that stands for the input.
use Rattle.std.specs.Prelude.{◌≡◌, ◌⊎◌, ℕ, List, [], ◌∷◌, ◌++◌, Bool, true, false, Option, codes}
use Rattle.std.specs.Str.{bytes_eq}
use Rattle.std.specs.Io.KnownBytes.{Appends, Keeps}
use Rattle.clos_ending.specs.clos_system.clos_session.Session.{Standing}
use Rattle.clos_ending.specs.clos_system.clos_session.clos_machine.clos_meaning.Host.{Host}
use Rattle.clos_ending.specs.clos_system.Transcript.{Finishes, OverText, RunFaults}
use Rattle.clos_ending.specs.clos_system.clos_transcript.Told.{ends_line}
use Rattle.clos_ending.specs.clos_system.declared.transcript.RunFault.{RunFault}
use Rattle.clos_ending.specs.clos_system.declared.transcript.Summary.{Summary}
use Rattle.clos_ending.specs.Status.{fault_status, is_told, status_of}
use Rattle.clos_program.specs.Notices.{Follow, with_asked}
use Rattle.clos_program.specs.declared.output.Output.{Output}

-- the name - stands for the input
abbrev pub is_input : List ℕ → Bool
is_input name = bytes_eq name (codes "-")

-- the input alone is run: it is the only one that is named, or nothing is
abbrev pub is_input_alone : List (List ℕ) → Bool
is_input_alone [] = true
is_input_alone (name ∷ []) = is_input name
is_input_alone (name ∷ (other ∷ names)) = false

-- A run came to the end of its text. What the output holds has grown by the transcript.
abbrev pub Ran : Host → Bool → Option (List ℕ) → Standing → Standing → Option (List ℕ) → Option (List ℕ) → Bool → Type 0
Ran host echo known start end old new told =
    (n : Summary) × (told ≡ is_told n) × OverText known (λ text. Finishes host echo text start end old new n)

-- A run ended with a fault.
abbrev pub Failed : Host → Bool → Option (List ℕ) → Standing → Standing → Option (List ℕ) → Option (List ℕ) → Type 0
Failed host echo known start end old new = (e : RunFault) × RunFaults host echo known start end old new e

-- The input was run, the notices were written where they are asked for, and the output was flushed, which changes nothing of what
-- it holds. The status tells whether a condition or storage line was written, or that the run, what was written after it, or the
-- flush failed.
abbrev pub RunsInput : Host → Bool → Bool → Option (List ℕ) → Standing → Standing → Option (List ℕ) → Option (List ℕ) → ℕ → Type 0
RunsInput host echo notices known start end old new status =
    (written : Option (List ℕ))
    × (((told : Bool) × Ran host echo known start end old written told
    × (((status ≡ status_of told) × Follow notices end old written new)
    ⊎ ((status ≡ fault_status) × ((notices ≡ true) ⊎ Keeps written new))))
    ⊎ ((status ≡ fault_status) × Failed host echo known start end old written × Keeps written new))

-- nothing went to the output yet
abbrev pub is_new : {W : Type 0} → Output W → Type 0
is_new o = (o.count ≡ 0) × (o.fresh ≡ true)

-- What was told of a run is followed by the notices, where they are asked for; want of memory or a fault of the writer may come
-- where they are.
abbrev pub Tells : Bool → Standing → Bool → Option (List ℕ) → Option (List ℕ) → Type 0
Tells notices s fresh old new =
    (text : List ℕ) × Appends old new text × ((out : List ℕ) → fresh ≡ ends_line out → out ++ text ≡ with_asked notices s out)
