-- Forms that a definition evaluates, one after another, before it takes effect: initforms of shared slots (HyperSpec 7.1.3), and the forms of
-- eql specializers (7.7 defmethod).
use Rattle.std.specs.Prelude.{ℕ, ℤ, List, [], ◌∷◌, ◌++◌, Option, Some, None, Err}
use Rattle.lisp_data.specs.Value.{Val}
use Rattle.clos_forms.specs.Form.{Form}
use Rattle.clos_eval.specs.Evaluation.{Performs, followed}
use Rattle.clos_eval.specs.clos_machine.clos_world.World.{seen}
use Rattle.clos_eval.specs.clos_machine.clos_world.declared.condition.Stop.{Stop}
use Rattle.clos_eval.specs.clos_machine.clos_world.declared.tables.World.{World}
use Rattle.clos_eval.specs.clos_machine.clos_meaning.Host.{Host}
use Rattle.clos_eval.specs.clos_machine.clos_meaning.Meaning.{evaluation}
use Rattle.clos_eval.specs.clos_machine.clos_meaning.Outcome.{Run, leaves}
use Rattle.clos_definition_forms.specs.Variable.{room_below}

-- what follows with the value of a form, in the room of a definition
abbrev pub evaluated : Form → (Val → Run) → Run
evaluated f go w k = followed (evaluation (room_below w) f) go w k

-- .. where there is one
abbrev pub form_evaluated : Option Form → (Option Val → Run) → Run
form_evaluated None go w k = go None w k
form_evaluated (Some f) go w k = evaluated f (λ v. go (Some v)) w k

-- what follows with the values of these forms after those that are there
abbrev pub forms_evaluated : List (Option Form) → List (Option Val) → (List (Option Val) → Run) → Run
forms_evaluated [] values go w k = go values w k
forms_evaluated (f ∷ fs) values go w k = form_evaluated f (λ v. forms_evaluated fs (values ++ v ∷ []) go) w k

-- It stops before, whatever would follow that changes nothing with no step left.
pub record EndsBefore {A : Type 0} (host : Host) (run : (A → Run) → Run) (w : World) (s : ℕ) (past : List ℤ) (stop : Stop) (w' : World) (s' : ℕ)
    (past' : List ℤ) : Type 0 where
  pub ends : (go : A → Run) → ((a : A) → leaves (go a (seen w') 0) (seen w') 0) → Performs host (run go) w s past (Err stop) w' s' past'
