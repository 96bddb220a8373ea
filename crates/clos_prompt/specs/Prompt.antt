-- A session at a prompt: lines come, and each is answered.
use Rattle.std.specs.Prelude.{◌≡◌, ◌≢◌, ◌⊎◌, ℕ, ◌==◌, true, false, List, [], ◌∷◌, ◌++◌, Bool, Option, Some, None, IfSome, ⊤, take, drop, if◌then◌else◌}
use Rattle.std.specs.Io.BufRead.{take_through}
use Rattle.std.specs.Io.KnownBytes.{Appends}
use Rattle.lisp_reader.specs.Answers.{Gives, nothing_left, a_fault}
use Rattle.lisp_tokens.specs.Fault.{Kind, end_inside}
use Rattle.lisp_data.specs.Datum.{Dat}
use Rattle.clos_commentary.specs.clos_system.Transcript.{Performed, Performs, Ran, none_yet}
use Rattle.clos_commentary.specs.clos_system.clos_session.Session.{Standing}
use Rattle.clos_commentary.specs.clos_system.clos_session.clos_machine.clos_meaning.Host.{Host}
use Rattle.clos_commentary.specs.clos_system.declared.transcript.Summary.{Summary}
use Rattle.clos_commentary.specs.clos_ending.Status.{fault_status}
use Rattle.clos_prompt.specs.Command.{Asks, AsksNone}
use Rattle.clos_commentary.specs.Fault.{fault_text}
use Rattle.clos_commentary.specs.Place.{place_after}
use Rattle.clos_prompt.specs.Waiting.{Waiting, at_first, cleared, exit_status, farewell, given_up, left_open, passed, prompt_of, takes_command}

-- ---- an answer

-- How a prompt waits after a text of which the forms up to an offset were performed, by what the text has left there, and what is told
-- of that: nothing, but for what can't be read.
pub data GoesOn (p : Waiting) (text : List ℕ) (n : Summary) (at : ℕ) : Waiting → List ℕ → Type 0 where
  closes : Gives (drop at text) nothing_left → GoesOn p text n at (cleared p text n) []
  opens : (k : ℕ) → Gives (drop at text) (a_fault end_inside (drop k text)) → GoesOn p text n at (left_open p text n k) []
  gives_up : (kind : Kind) (k : ℕ) → kind ≢ end_inside → Gives (drop at text) (a_fault kind (drop k text))
      → GoesOn p text n at (given_up p text n) (fault_text kind (place_after p.place (take k text)))

-- What a line comes to where a session stands so and its prompt waits so: where the session stands then, how the prompt waits, and
-- what is written. A command that asks for the value of a form, and only such a one, has this one form performed, told as a run
-- without echo tells it; then it shows a page. Any other command shows a page, and changes nothing. Any other line goes on with
-- what is open: the forms of that text are performed in order, and told as a run with echo tells them.
pub data Answers (host : Host) (w : Standing) (p : Waiting) (line : List ℕ) : Standing → Waiting → List ℕ → Type 0 where
  commands : (page : List ℕ) → takes_command p line ≡ true → AsksNone w.state line → Answers host w p line w (passed p line) page
  asks : (d : Dat) (w' : Standing) (out page : List ℕ) (n : Summary) (fresh : Bool) → takes_command p line ≡ true → Asks w.state line d
      → Performs host false d w w' (Some []) (Some out) none_yet n true fresh → Answers host w p line w' (cleared p line n) (out ++ page)
  performs : (w' : Standing) (at : ℕ) (out : List ℕ) (n : Summary) (p' : Waiting) (piece : List ℕ) → takes_command p line ≡ false
      → Ran host true (p.pending ++ line) w w' at out n → GoesOn p (p.pending ++ line) n at p' piece
      → Answers host w p line w' p' (out ++ piece)

-- ---- the session

-- A session at a prompt has come so far: these lines came, here it stands, so its prompt waits, and this is written, a prompt before
-- the answer to each line.
pub data Prompted (host : Host) (start : Standing) : List (List ℕ) → Standing → Waiting → List ℕ → Type 0 where
  begins : Prompted host start [] start at_first []
  answers : (lines : List (List ℕ)) (w : Standing) (p : Waiting) (out line : List ℕ) (w' : Standing) (p' : Waiting) (piece : List ℕ)
      → Prompted host start lines w p out → Answers host w p line w' p' piece
      → Prompted host start (lines ++ line ∷ []) w' p' (out ++ (prompt_of p ++ piece))

-- one more byte before the first of some lines
abbrev pub extended : ℕ → List (List ℕ) → List (List ℕ)
extended b [] = (b ∷ []) ∷ []
extended b (line ∷ lines) = (b ∷ line) ∷ lines

-- the lines of an input, each with its newline (10), which the last one may lack
abbrev pub lines_of : List ℕ → List (List ℕ)
lines_of [] = []
lines_of (b ∷ text) = if b == 10 then (b ∷ []) ∷ lines_of text else extended b (lines_of text)

-- The input came to its end: all its lines were answered, where they are known, and the status tells of all that was answered.
pub record Ends (host : Host) (known : Option (List ℕ)) (start end : Standing) (old new : Option (List ℕ)) (status : ℕ) : Type 0 where
  pub lines : List (List ℕ)
  pub all : IfSome known (λ text. lines ≡ lines_of text)
  pub waiting : Waiting
  pub out : List ℕ
  pub prompted : Prompted host start lines end waiting out
  pub appends : Appends old new (out ++ (prompt_of waiting ++ farewell waiting))
  pub told : status ≡ exit_status waiting

-- these lines, and then those of what is left, are the lines of what there was, where that is known
abbrev pub Comes : Option (List ℕ) → Option (List ℕ) → List (List ℕ) → Type 0
Comes None left lines = ⊤
Comes (Some text) None lines = ⊥
Comes (Some text) (Some left) lines = lines_of text ≡ lines ++ lines_of left

-- What the next line has come to where a session stands so and its prompt waits so: where the session stands after a whole number of
-- the forms that the line makes with what is open, or after the form of the arguments that it asks by.
pub data Begun (host : Host) (w : Standing) (p : Waiting) (line : List ℕ) : Standing → Type 0 where
  of_forms : (w' : Standing) (at : ℕ) (out : List ℕ) (n : Summary) → Ran host true (p.pending ++ line) w w' at out n → Begun host w p line w'
  of_arguments : (d : Dat) (w' : Standing) → takes_command p line ≡ true → Asks w.state line d → Performed host d w w' → Begun host w p line w'

-- It came so far, and then the input or the writer failed, or memory ran out: the first lines were answered, and the next one has begun.
pub record Breaks (host : Host) (known : Option (List ℕ)) (start end : Standing) : Type 0 where
  pub left : Option (List ℕ)
  pub lines : List (List ℕ)
  pub comes : Comes known left lines
  pub standing : Standing
  pub waiting : Waiting
  pub out : List ℕ
  pub prompted : Prompted host start lines standing waiting out
  pub line : List ℕ
  pub next : IfSome left (λ text. line ≡ take_through 10 text)
  pub begun : Begun host standing waiting line end

-- What a session at a prompt comes to, with its exit status.
abbrev pub RunsPrompt : Host → Option (List ℕ) → Standing → Standing → Option (List ℕ) → Option (List ℕ) → ℕ → Type 0
RunsPrompt host known start end old new status =
    Ends host known start end old new status ⊎ ((status ≡ fault_status) × Breaks host known start end)
