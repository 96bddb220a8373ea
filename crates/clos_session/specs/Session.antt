-- The replies of a session.
use Rattle.std.specs.Prelude.{◌≡◌, ℕ, ℤ, ◌≤◌, List, ◌++◌, Some}
use Rattle.lisp_data.specs.ValueView.{value_of}
use Rattle.clos_perform.specs.clos_world.Uses.{uses_of}
use Rattle.clos_perform.specs.clos_world.World.{State, seen}
use Rattle.clos_perform.specs.clos_world.clos_cache.Uses.{Uses}
use Rattle.clos_perform.specs.clos_machine.Machine.{leaves_by}
use Rattle.clos_perform.specs.clos_machine.clos_meaning.Host.{Host, answered_by}
use Rattle.clos_perform.specs.clos_machine.clos_meaning.Outcome.{Run, Given, Signalled}
use Rattle.clos_perform.specs.clos_world.Condition.{number_of}
use Rattle.clos_perform.specs.clos_world.declared.condition.ConditionKind.{ConditionKind}
use Rattle.clos_perform.specs.clos_watch.declared.notice.Notice.{Notice}
use Rattle.clos_session.specs.declared.session.Session.{Session}
use Rattle.clos_session.specs.declared.session.Reply.{Reply}
use Rattle.clos_session.specs.declared.session.Reply.TheVariants.{Value, Condition, Storage}

-- the state of a session
abbrev pub state_of : {N D : Type 0} → Session N D → State
state_of s = seen s.world

-- what the host's functions answered in it, in order
abbrev pub answers_of : {N D : Type 0} → Session N D → List ℤ
answers_of s = s.answers.items

-- both of them, what each dependent has heard, by its place, and what is kept of calls, with the count of effective methods
pub record Standing : Type 0 where
  pub state : State
  pub answers : List ℤ
  pub heard : List (List Notice)
  pub uses : Uses

abbrev pub standing_of : {N D : Type 0} → List (List Notice) → Session N D → Standing
standing_of heard s = record { state = state_of s; answers = answers_of s; heard = heard; uses = uses_of s.world }

-- how many effective methods were worked out in it
abbrev pub built_of : {N D : Type 0} → Session N D → ℕ
built_of s = s.world.meter

-- It is the value or the condition of the run within so many steps, with the answers that came, and the state is the one after.
-- Where memory was refused, the state is the one after as many steps as are told.
abbrev pub Replies : Host → Run → ℕ → State → List ℤ → Reply → State → List ℤ → Type 0
Replies host run s w past (Value v) w' past' = (t : ℕ) × (used : List ℤ) × (past' ≡ past ++ used)
    × (answered_by host (run w s) used ≡ Some (Given (value_of v) w' t))
Replies host run s w past (Condition number items) w' past' =
    (kind : ConditionKind) × (t : ℕ) × (used : List ℤ) × (number ≡ number_of kind) × (past' ≡ past ++ used)
    × (answered_by host (run w s) used ≡ Some (Signalled (record { kind = kind; items = items }) w' t))
Replies host run s w past (Storage k) w' past' = (used : List ℤ) × (k ≤ s) × (past' ≡ past ++ used) × leaves_by host (run w k) used w' 0
