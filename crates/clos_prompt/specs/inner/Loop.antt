-- What the private functions of a session at a prompt do, and what its loop keeps.
use Rattle.std.specs.Prelude.{◌≡◌, ℕ, true, List, ◌++◌, Option, Some, IfSome}
use Rattle.std.specs.Io.BufRead.{take_through, drop_through}
use Rattle.std.specs.Io.KnownBytes.{Appends}
use Rattle.clos_commentary.specs.clos_system.clos_session.Session.{Standing}
use Rattle.clos_commentary.specs.clos_system.clos_session.clos_machine.clos_meaning.Host.{Host}
use Rattle.clos_prompt.specs.Prompt.{Answers, Comes, Prompted}
use Rattle.clos_prompt.specs.Waiting.{Waiting}

-- the next line of what is left was taken, where that is known: none at its end
abbrev pub TakesLine : Option (List ℕ) → Option (List ℕ) → List ℕ → Type 0
TakesLine old new line = IfSome old (λ text. (line ≡ take_through 10 text) × (new ≡ Some (drop_through 10 text)))

-- the answer to a line was written
abbrev pub AnswerWritten : Host → Standing → Standing → Waiting → List ℕ → Option (List ℕ) → Option (List ℕ) → Waiting → Type 0
AnswerWritten host w w' p line old new p' = (piece : List ℕ) × Appends old new piece × Answers host w p line w' p' piece

-- where the loop over the lines stands
pub record Stands (host now : Host) (known left : Option (List ℕ)) (start w : Standing) (p : Waiting) (old new : Option (List ℕ))
    : Type 0 where
  pub stays : now ≡ host
  pub lines : List (List ℕ)
  pub comes : Comes known left lines
  pub out : List ℕ
  pub prompted : Prompted host start lines w p out
  pub appends : Appends old new out
