-- What is kept of calls, and how many effective methods were worked out, as the notes of an outcome have it.
use Rattle.std.specs.Prelude.{ℕ, ℤ, List, [], ◌∷◌, Bool, false, ◌==◌, if◌then◌else◌, option_map}
use Rattle.std.specs.List.{list_any}
use Rattle.lisp_data.specs.Name.{same_name}
use Rattle.clos_world.specs.Dispatch.{combination_of}
use Rattle.clos_world.specs.World.{State}
use Rattle.clos_world.specs.clos_cache.Cache.{Change, has_class, of_classes, of_combination, of_generic}
use Rattle.clos_world.specs.clos_cache.Key.{Key}
use Rattle.clos_world.specs.clos_cache.Uses.{Uses, with_use}
use Rattle.clos_meaning.specs.Host.{Host}
use Rattle.clos_meaning.specs.Outcome.{Asked, Gave, Looked, Note, Noted, Out, Stopped, took_effect, used}

-- so many effective methods are counted at most
abbrev pub most : ℕ
most = 18446744073709551615

-- whether a change concerns the calls of a key: a method combination concerns those of the functions that use it in this state
abbrev pub concerns_calls : State → Change → Key → Bool
concerns_calls w (of_generic g) key = key.generic == g
concerns_calls w (of_combination name) key = same_name name (combination_of w key.generic)
concerns_calls w (of_classes classes) key = has_class classes key.arguments

-- one of these does
abbrev pub one_concerns : State → List Change → Key → Bool
one_concerns w changes key = list_any (λ c. concerns_calls w c key) changes

-- what is kept is left where it is none of these
abbrev pub without : (Key → Bool) → Uses → Uses
without dropped u = record u { kept = λ key. if dropped key then false else u.kept key }

-- after what was noted: a use keeps what was not kept, and counts it; changes drop what they concern
abbrev pub with_note : Note → Uses → Uses
with_note (used key) u = with_use most key u
with_note (took_effect w changes) u = without (one_concerns w changes) u

-- after all of these notes, in order
abbrev pub after_notes : List Note → Uses → Uses
after_notes [] u = u
after_notes (n ∷ ns) u = after_notes ns (with_note n u)

-- these are noted first
abbrev pub noted : List Note → Out → Out
noted [] o = o
noted (n ∷ ns) o = Noted n (noted ns o)

-- What an outcome notes, where the host answered so, as far as its answers go.
abbrev pub notes_by : Host → Out → List ℤ → List Note
notes_by host (Gave v w s) xs = []
notes_by host (Stopped c w s) xs = []
notes_by host (Noted n o) xs = n ∷ notes_by host o xs
notes_by host (Looked name more) xs = notes_by host (more (option_map (λ f. f.takes) (host name))) xs
notes_by host (Asked name ys more) [] = []
notes_by host (Asked name ys more) (x ∷ xs) = notes_by host (more x) xs
