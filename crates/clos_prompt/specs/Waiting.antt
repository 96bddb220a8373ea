-- What a prompt waits with between two lines.
use Rattle.std.specs.Prelude.{ℕ, ◌==◌, ◌||◌, Bool, true, false, List, [], ◌∷◌, codes, length, take, drop, if◌then◌else◌}
use Rattle.lisp_tokens.specs.Fault.{end_inside}
use Rattle.clos_commentary.specs.clos_system.declared.transcript.Summary.{Summary}
use Rattle.clos_commentary.specs.clos_ending.Status.{fault_status, is_told, status_of}
use Rattle.clos_prompt.specs.Command.{is_command}
use Rattle.clos_commentary.specs.Fault.{fault_text}
use Rattle.clos_commentary.specs.Place.{first_place, place_after}
use Rattle.clos_commentary.specs.declared.place.Place.{Place}

-- the bytes of a datum or comment that is not closed yet, from where it begins, and the place where they begin, or else the next
-- line does; whether a condition or storage line was written; and whether some of the input could not be read
pub record Waiting : Type 0 where
  pub pending : List ℕ
  pub place : Place
  pub told : Bool
  pub unread : Bool

abbrev pub at_first : Waiting
at_first = record { pending = []; place = first_place; told = false; unread = false }

-- nothing is open
abbrev pub is_idle : Waiting → Bool
is_idle p = length p.pending == 0

-- the prompt, which has another one for what is open
abbrev pub prompt_of : Waiting → List ℕ
prompt_of p = if is_idle p then codes "clos> " else codes "....> "

-- a line is a command where nothing is open
abbrev pub takes_command : Waiting → List ℕ → Bool
takes_command p line = if is_idle p then is_command line else false

-- after a command
abbrev pub passed : Waiting → List ℕ → Waiting
passed p line = record p { pending = []; place = place_after p.place line }

-- after a text of which all forms were performed
abbrev pub cleared : Waiting → List ℕ → Summary → Waiting
cleared p text n = record {
  pending = [];
  place = place_after p.place text;
  told = p.told || is_told n;
  unread = p.unread;
}

-- .. of which those were performed that end before an open datum or comment, which begins at an offset
abbrev pub left_open : Waiting → List ℕ → Summary → ℕ → Waiting
left_open p text n k = record {
  pending = drop k text;
  place = place_after p.place (take k text);
  told = p.told || is_told n;
  unread = p.unread;
}

-- .. and of which those were performed that end before what can't be read: the rest is dropped
abbrev pub given_up : Waiting → List ℕ → Summary → Waiting
given_up p text n = record (cleared p text n) { unread = true }

-- what is written after the last prompt, at the end of the input
abbrev pub farewell : Waiting → List ℕ
farewell p = if is_idle p then 10 ∷ [] else 10 ∷ fault_text end_inside p.place

-- the exit status: that of the program `clos` where it runs the same lines, apart from the commands
abbrev pub exit_status : Waiting → ℕ
exit_status p = if is_idle p then (if p.unread then fault_status else status_of p.told) else fault_status
