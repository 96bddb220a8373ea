-- What takes effect takes one step; what it concerns of the calls is noted (HyperSpec 7.7).
use Rattle.std.specs.Prelude.{◌≡◌, ⊤, ℕ, List, Result, Ok, Err}
use Rattle.lisp_data.specs.Value.{Val}
use Rattle.lisp_data.specs.ValueView.{value_of}
use Rattle.lisp_data.specs.declared.value.Value.{Value}
use Rattle.clos_meaning.specs.Outcome.{Gave, Noted, Run, Stopped, step_then, took_effect}
use Rattle.clos_meaning.specs.Uses.{with_note}
use Rattle.clos_meaning.specs.clos_world.Definitions.{Same}
use Rattle.clos_meaning.specs.clos_world.World.{State}
use Rattle.clos_meaning.specs.clos_world.clos_cache.Cache.{Change}
use Rattle.clos_meaning.specs.clos_world.clos_cache.Uses.{Uses}
use Rattle.clos_meaning.specs.clos_world.declared.condition.Stop.{Stop}
use Rattle.clos_meaning.specs.clos_world.declared.condition.Stop.TheVariants.{Refused, Storage}

-- one step, after which the state is this; what it concerns of the calls is noted
abbrev pub takes_effect : List Change → Val → State → Run
takes_effect concerned value u = step_then (λ w k. Noted (took_effect w concerned) (Gave value u k))

-- The run notes that this is concerned, and gives the value; or it stops, and notes nothing. Where memory was refused, it has not begun.
abbrev pub AnswersNoting : List Change → Run → State → ℕ → Result Value Stop → State → ℕ → Type 0
AnswersNoting concerned run w s (Ok v) w' s' = run w s ≡ Noted (took_effect w concerned) (Gave (value_of v) w' s')
AnswersNoting concerned run w s (Err (Refused c)) w' s' = run w s ≡ Stopped c w' s'
AnswersNoting concerned run w s (Err Storage) w' s' = (w' ≡ w) × (s' ≡ s)

-- After its effect nothing is kept of the calls that are concerned, and of others what was; what stops leaves all that was kept.
abbrev pub UsesAfter : List Change → State → Uses → Result Value Stop → Uses → Type 0
UsesAfter concerned w u (Ok v) u' = u' ≡ with_note (took_effect w concerned) u
UsesAfter concerned w u (Err e) u' = u' ≡ u

-- Where memory was refused, the definitions are those before.
abbrev pub SameAtStorage : Result Value Stop → State → State → Type 0
SameAtStorage (Ok v) w w' = ⊤
SameAtStorage (Err (Refused c)) w w' = ⊤
SameAtStorage (Err Storage) w w' = Same w w'
