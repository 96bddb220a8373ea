-- The states that a session comes to.
use Rattle.std.specs.Prelude.{◌≡◌, ℕ, ℤ, List, Some}
use Rattle.lisp_data.specs.Datum.{Dat}
use Rattle.lisp_data.specs.Name.{Name}
use Rattle.clos_session.specs.clos_perform.Step.{step}
use Rattle.clos_session.specs.clos_machine.clos_meaning.Host.{Host, answered_by}
use Rattle.clos_session.specs.clos_machine.clos_meaning.Outcome.{End, Given, Signalled}
use Rattle.clos_session.specs.clos_world.Initial.{initial}
use Rattle.clos_session.specs.clos_world.World.{State}
use Rattle.clos_session.specs.clos_world.declared.limits.Limits.{Limits}

-- the state in which a form ends
abbrev pub state_in : End → State
state_in (Given v w s) = w
state_in (Signalled c w s) = w

-- under these limits, with dependents of these names
pub data IsReached (limits : Limits) (names : List Name) : State → Type 0 where
  begins : IsReached limits names (initial limits names)
  -- by a form within so many steps, whatever the host's functions answered. Where memory is refused, the state is that after the
  -- steps taken.
  performs : (w : State) (d : Dat) (k : ℕ) (host : Host) (used : List ℤ) (e : End) → IsReached limits names w
      → answered_by host (step d w k) used ≡ Some e
      → IsReached limits names (state_in e)
