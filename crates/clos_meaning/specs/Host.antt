-- What comes of an outcome that waits for a host's answers.
use Rattle.std.specs.Prelude.{ℕ, ℤ, Bool, false, List, [], ◌∷◌, Option, Some, None, option_map, if◌then◌else◌}
use Rattle.lisp_data.specs.Name.{Name}
use Rattle.clos_meaning.specs.Outcome.{Asked, End, Gave, Given, Looked, Noted, Out, Signalled, Stopped}

-- a stored function: how many integers it takes, and whether it may give an answer to them
pub record HostFunction : Type 0 where
  pub takes : ℕ
  pub permits : List ℤ → ℤ → Bool

-- the stored functions, by their names
abbrev pub Host : Type 0
Host = Name → Option HostFunction

-- whether the function of this name may answer so
abbrev pub may_answer : Option HostFunction → List ℤ → ℤ → Bool
may_answer None xs x = false
may_answer (Some f) xs x = f.permits xs x

-- What an outcome ends with, where the host has these functions and answered so, to one call after another. Where an answer is
-- missing, is left, or is none that its function may give, there is no such end.
abbrev pub answered_by : Host → Out → List ℤ → Option End
answered_by host (Gave v w s) [] = Some (Given v w s)
answered_by host (Gave v w s) (x ∷ xs) = None
answered_by host (Stopped c w s) [] = Some (Signalled c w s)
answered_by host (Stopped c w s) (x ∷ xs) = None
answered_by host (Noted n o) xs = answered_by host o xs
answered_by host (Looked name more) xs = answered_by host (more (option_map (λ f. f.takes) (host name))) xs
answered_by host (Asked name ys more) [] = None
answered_by host (Asked name ys more) (x ∷ xs) = if may_answer (host name) ys x then answered_by host (more x) xs else None
