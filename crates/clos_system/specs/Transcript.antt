-- Runs of whole texts, and their transcripts.
use Rattle.std.specs.Prelude.{◌≡◌, ◌⊎◌, ℕ, ◌+◌, ◌-◌, ◌<◌, ◌≤◌, List, [], ◌++◌, Bool, ℤ, Option, Some, Result, Ok, Err, IfSome, IsSome, length, drop}
use Rattle.std.specs.Io.KnownBytes.{Appends}
use Rattle.lisp_data.specs.Datum.{Dat}
use Rattle.lisp_data.specs.declared.value.Value.{Value}
use Rattle.lisp_reader.specs.Answers.{Next, NextFails}
use Rattle.lisp_reader.specs.Fault.{OnFault, offset_of}
use Rattle.lisp_reader.specs.Gaps.{Gaps}
use Rattle.clos_session.specs.clos_world.World.{State}
use Rattle.clos_session.specs.Session.{Standing}
use Rattle.clos_session.specs.clos_definition_forms.clos_effects.Hearing.{Heard, since}
use Rattle.clos_session.specs.clos_watch.Watching.{heard_after}
use Rattle.clos_session.specs.clos_machine.clos_meaning.Host.{Host, answered_by}
use Rattle.clos_session.specs.clos_machine.clos_meaning.Outcome.{End, Given, Signalled}
use Rattle.clos_session.specs.clos_machine.Machine.{AnswersWith, leaves_by}
use Rattle.clos_session.specs.clos_machine.Uses.{KeepsBy, MadeSome}
use Rattle.clos_session.specs.clos_machine.clos_meaning.Uses.{after_notes, notes_by}
use Rattle.clos_session.specs.clos_world.clos_cache.Uses.{Uses}
use Rattle.clos_session.specs.clos_perform.Step.{step}
use Rattle.clos_session.specs.clos_world.declared.condition.Stop.{Stop}
use Rattle.clos_session.specs.clos_world.declared.condition.Stop.TheVariants.{Refused, Storage}
use Rattle.clos_transcript.specs.Told.{ends_line, told, told_cut, told_for}
use Rattle.clos_system.specs.declared.transcript.Summary.{Summary}
use Rattle.clos_system.specs.declared.transcript.RunFault.{RunFault}
use Rattle.clos_system.specs.declared.transcript.RunFault.TheVariants.{Read, TooLong, Reader, Write, Memory}

-- the state in which the next form begins
abbrev pub state_after : End → State
state_after (Given v w s) = w
state_after (Signalled c w s) = w

-- .. with what the host's functions answered until then, what its dependents heard, and what is kept of calls
abbrev pub standing_after : Standing → List ℤ → State → Uses → Standing
standing_after w used w' u = record {
  state = w';
  answers = w.answers ++ used;
  heard = heard_after w.state.hearing.watching (since w.state w') w.heard;
  uses = u;
}

-- what is kept after a form: what the uses and the changes make of it that its meaning notes
abbrev pub uses_after : Host → Dat → Standing → List ℤ → Uses
uses_after host d w used = after_notes (notes_by host (step d w.state w.state.limits.steps) used) w.uses

-- one more form, and one more condition where it ended with one
abbrev pub counted : End → Summary → Summary
counted (Given v w s) n = record n { forms = n.forms + 1 }
counted (Signalled c w s) n = record n { forms = n.forms + 1; conditions = n.conditions + 1 }

-- one more form in which memory was refused, which counts as no condition
abbrev pub counted_cut : Summary → Summary
counted_cut n = record n { forms = n.forms + 1; storages = n.storages + 1 }

-- the counts before the first form
abbrev pub none_yet : Summary
none_yet = record { forms = 0; conditions = 0; storages = 0 }

-- A run of a text from a state has come to an offset: the state there with what the host's functions answered and what is kept of calls, what
-- is written, and the counts. Where memory was refused in a form, what is kept is what some first ones of its uses make of it.
pub data Ran (host : Host) (echo : Bool) (text : List ℕ) (start : Standing) : Standing → ℕ → List ℕ → Summary → Type 0 where
  begins : Ran host echo text start start 0 [] none_yet
  performs : (w : Standing) (at : ℕ) (out : List ℕ) (n : Summary) (d : Dat) (next : ℕ) (used : List ℤ) (e : End) → Ran host echo text start
      w at out n
      → Next (drop at text) d (drop next text) → answered_by host (step d w.state w.state.limits.steps) used ≡ Some e
      → Ran host echo text start (standing_after w used (state_after e) (uses_after host d w used)) next (told echo w.state e out) (counted e n)
  cuts : (w : Standing) (at : ℕ) (out : List ℕ) (n : Summary) (d : Dat) (next : ℕ) (k : ℕ) (used : List ℤ) (w' : State) (u : Uses)
      → Ran host echo text start w at out n
      → Next (drop at text) d (drop next text) → k ≤ w.state.limits.steps → leaves_by host (step d w.state k) used w' 0
      → MadeSome (notes_by host (step d w.state k) used) w.uses u
      → Ran host echo text start (standing_after w used w' u) next (told_cut w.state w' k out) (counted_cut n)

-- the counts after a form that was answered so
abbrev pub counted_for : Result Value Stop → Summary → Summary
counted_for (Ok v) n = record n { forms = n.forms + 1 }
counted_for (Err (Refused c)) n = record n { forms = n.forms + 1; conditions = n.conditions + 1 }
counted_for (Err Storage) n = counted_cut n

-- A run of the text came to this offset and wrote this. What the writer holds has grown by it, where that is known.
pub record Comes (host : Host) (echo : Bool) (text : List ℕ) (start end : Standing) (old new : Option (List ℕ)) (at : ℕ)
    (n : Summary) : Type 0 where
  pub out : List ℕ
  pub ran : Ran host echo text start end at out n
  pub appends : Appends old new out

-- The run came to the end of the text.
abbrev pub Finishes : Host → Bool → List ℕ → Standing → Standing → Option (List ℕ) → Option (List ℕ) → Summary → Type 0
Finishes host echo text start end old new n = (at : ℕ) × Comes host echo text start end old new at n × Gaps (drop at text) []

-- The run came to a place where the text has no next datum, or memory or the writer failed it after a form. Where memory did, what the
-- writer got is a beginning of what the run wrote.
abbrev pub Faults : Host → Bool → List ℕ → Standing → Standing → Option (List ℕ) → Option (List ℕ) → RunFault → Type 0
Faults host echo text start end old new (Reader fault) =
    (at : ℕ) × (n : Summary) × Comes host echo text start end old new at n × IsSome (offset_of fault)
    × OnFault fault (λ kind k. (k ≤ length text) × NextFails (drop at text) kind (drop k text))
Faults host echo text start end old new Write = (at : ℕ) × (n : Summary) × (out : List ℕ) × Ran host echo text start end at out n
Faults host echo text start end old new Memory =
    (at : ℕ) × (n : Summary) × (written : List ℕ) × (rest : List ℕ) × Ran host echo text start end at (written ++ rest) n × Appends old new written
Faults host echo text start end old new Read = ⊥
Faults host echo text start end old new TooLong = ⊥

-- where the loop over the forms of a text stands
pub record Stands (host now : Host) (echo : Bool) (text : List ℕ) (start end : Standing) (old new : Option (List ℕ)) (at : ℕ) (n : Summary)
    (fresh : Bool) : Type 0 where
  pub stays : now ≡ host
  pub come : Comes host echo text start end old new at n
  pub within : at ≤ length text
  pub line : fresh ≡ ends_line come.out
  pub forms : n.forms ≤ at
  pub conditions : n.conditions ≤ n.forms
  pub storages : n.storages ≤ n.forms

-- A form was performed, and what is told of it was written.
pub record Performs (host : Host) (echo : Bool) (d : Dat) (w w' : Standing) (old new : Option (List ℕ)) (n n' : Summary)
    (fresh fresh' : Bool) : Type 0 where
  pub answer : Result Value Stop
  pub left : ℕ
  pub answers : AnswersWith host (step d) w.state w.state.limits.steps w.answers answer w'.state left w'.answers
  pub uses : KeepsBy host (step d) w.state w.state.limits.steps w.answers w.uses answer left w'.answers w'.uses
  pub heard : Heard w.heard w.state w'.heard w'.state
  pub counts : n' ≡ counted_for answer n
  pub piece : List ℕ
  pub appends : Appends old new piece
  pub tells : (out : List ℕ) → fresh ≡ ends_line out → out ++ piece ≡ told_for echo w.state w'.state answer
      (w.state.limits.steps - left) out
  pub line : (out : List ℕ) → fresh ≡ ends_line out → fresh' ≡ ends_line (out ++ piece)

-- A form was answered so, with some steps left.
abbrev pub Answered : Host → Dat → Standing → Standing → Result Value Stop → Type 0
Answered host d w w' answer =
    (left : ℕ) × AnswersWith host (step d) w.state w.state.limits.steps w.answers answer w'.state left w'.answers

-- A form was performed.
pub record Performed (host : Host) (d : Dat) (w w' : Standing) : Type 0 where
  pub answer : Result Value Stop
  pub left : ℕ
  pub answers : AnswersWith host (step d) w.state w.state.limits.steps w.answers answer w'.state left w'.answers
  pub uses : KeepsBy host (step d) w.state w.state.limits.steps w.answers w.uses answer left w'.answers w'.uses
  pub heard : Heard w.heard w.state w'.heard w'.state

-- .. and then the writer failed, or memory did, before anything of it was written.
abbrev pub FailsAfter : Host → Dat → Standing → Standing → Option (List ℕ) → Option (List ℕ) → RunFault → Type 0
FailsAfter host d w w' old new Read = ⊥
FailsAfter host d w w' old new TooLong = ⊥
FailsAfter host d w w' old new (Reader fault) = ⊥
FailsAfter host d w w' old new Write = Performed host d w w'
FailsAfter host d w w' old new Memory = Performed host d w w' × (new ≡ old)

-- The source could not be had: it is too long where that is said.
abbrev pub SourceFails : Option (List ℕ) → RunFault → Type 0
SourceFails known Read = Unit {0}
SourceFails known TooLong = IfSome known (λ text. 16_777_216 < length text)
SourceFails known (Reader fault) = ⊥
SourceFails known Write = ⊥
SourceFails known Memory = Unit {0}

-- It holds of a text that is not too long, and that is what the reader had, where that is known.
abbrev pub OverText : Option (List ℕ) → (List ℕ → Type 0) → Type 0
OverText known P = (text : List ℕ) × (length text ≤ 16_777_216) × IfSome known (λ had. text ≡ had) × P text

-- Where the source could not be read, or is too long, no form ran and nothing was written. After any other fault the
-- session stands after a whole number of the text's forms. Want of memory has a kind of its own, also in the reader.
abbrev pub RunFaults : Host → Bool → Option (List ℕ) → Standing → Standing → Option (List ℕ) → Option (List ℕ) → RunFault → Type 0
RunFaults host echo known start end old new Read = (end ≡ start) × (new ≡ old)
RunFaults host echo known start end old new TooLong = (end ≡ start) × (new ≡ old) × IfSome known (λ text. 16_777_216 < length text)
RunFaults host echo known start end old new (Reader fault) = OverText known (λ text. Faults host echo text start end old new (Reader fault))
RunFaults host echo known start end old new Write = OverText known (λ text. Faults host echo text start end old new Write)
RunFaults host echo known start end old new Memory =
    ((end ≡ start) × (new ≡ old)) ⊎ OverText known (λ text. Faults host echo text start end old new Memory)
