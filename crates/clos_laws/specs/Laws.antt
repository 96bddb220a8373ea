-- What holds in each state that a session comes to.
use Rattle.std.specs.Prelude.{ℕ, ℤ, List}
use Rattle.lisp_data.specs.Datum.{Dat}
use Rattle.lisp_data.specs.Name.{Name}
use Rattle.clos_session.specs.Session.{Replies}
use Rattle.clos_session.specs.clos_perform.Step.{step}
use Rattle.clos_session.specs.clos_machine.clos_meaning.Host.{Host}
use Rattle.clos_session.specs.clos_world.Definitions.{Same}
use Rattle.clos_session.specs.clos_world.Dispatch as calls
use Rattle.clos_session.specs.clos_world.World.{State}
use Rattle.clos_session.specs.clos_world.declared.limits.Limits.{Limits}
use Rattle.clos_session.specs.declared.session.Reply.{Reply}
use Rattle.clos_laws.specs.Reached.{IsReached}

-- The methods that a call finds are in order, and no other list of methods is: in each state that has the definitions of one to which a
-- session comes, as those have in which its forms are evaluated.
abbrev pub CallsAreInOrder : Type 0
CallsAreInOrder = (limits : Limits) (names : List Name) (w u : State) → IsReached limits names w → Same w u → calls.CallsAreInOrder u

-- A session that replies comes from such a state to such a state.
abbrev pub RepliesReach : Type 0
RepliesReach = (limits : Limits) (names : List Name) (w u : State) (host : Host) (d : Dat) (s : ℕ) (past past' : List ℤ)
    (r : Reply) → IsReached limits names w
    → Replies host (step d) s w past r u past' → IsReached limits names u
