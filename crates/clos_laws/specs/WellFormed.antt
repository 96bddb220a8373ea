-- The forms that definitions keep are well formed, and those that are evaluated (HyperSpec 3.1.2.1).
use Rattle.std.specs.Prelude.{◌≡◌, ℕ, List, []}
use Rattle.lisp_data.specs.Name.{Name}
use Rattle.clos_forms.specs.Form.{Form}
use Rattle.clos_form_laws.specs.Evaluated.{meaning_or}
use Rattle.clos_form_laws.specs.Kept.{AreWellFormed}
use Rattle.clos_meaning.specs.Contexts.{known}
use Rattle.clos_meaning.specs.Meaning.{closed, evaluation}
use Rattle.clos_meaning.specs.Outcome.{Eval}
use Rattle.clos_session.specs.clos_world.Definitions.{Same}
use Rattle.clos_session.specs.clos_world.World.{State, unbound}
use Rattle.clos_session.specs.clos_world.declared.limits.Limits.{Limits}
use Rattle.clos_syntax.specs.WellFormed.{IsPlain}
use Rattle.clos_laws.specs.Reached.{IsReached}

-- They are in each state that has the definitions of one to which a session comes, as those have in which its forms are evaluated.
abbrev pub KeptFormsAreWellFormed : Type 0
KeptFormsAreWellFormed = (limits : Limits) (names : List Name) (w u : State) → IsReached limits names w → Same w u → AreWellFormed u

-- .. and so a well-formed form comes to the same there whatever a form means that is not well formed where it stands.
abbrev pub EvaluatedFormsAreWellFormed : Type 0
EvaluatedFormsAreWellFormed = (limits : Limits) (names : List Name) (w u : State) (any : Eval) (room : ℕ) (f : Form) (s : ℕ)
    → IsReached limits names w → Same w u → IsPlain f → closed (meaning_or any room (known []) f (unbound u) s) ≡ evaluation room f u s
