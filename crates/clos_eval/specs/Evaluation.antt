-- What a form comes to that is evaluated: its answer, and what is kept of calls.
use Rattle.std.specs.Prelude.{◌≡◌, ℕ, ℤ, ◌+◌, List, ◌++◌, Result}
use Rattle.lisp_data.specs.Value.{Val}
use Rattle.lisp_data.specs.declared.value.Value.{Value}
use Rattle.clos_machine.specs.Machine.{AnswersWith}
use Rattle.clos_machine.specs.Uses.{KeepsBy}
use Rattle.clos_machine.specs.clos_meaning.Host.{Host, answered_by}
use Rattle.clos_machine.specs.clos_meaning.Outcome.{Note, Run, then_do}
use Rattle.clos_machine.specs.clos_meaning.Uses.{after_notes, notes_by}
use Rattle.clos_machine.specs.clos_world.Uses.{uses_of}
use Rattle.clos_machine.specs.clos_world.World.{seen}
use Rattle.clos_machine.specs.clos_world.declared.condition.Stop.{Stop}
use Rattle.clos_machine.specs.clos_world.declared.tables.World.{World}

-- The answer is the run's with the answers of the host's functions that came, after those that were there, and what is kept of calls and how
-- many effective methods were worked out follows what it notes. Where memory was refused, the state is that of the run with the steps taken as
-- its budget, and some first ones of its uses were made.
pub record Performs (host : Host) (run : Run) (w : World) (s : ℕ) (past : List ℤ) (r : Result Value Stop) (w' : World) (s' : ℕ)
    (past' : List ℤ) : Type 0 where
  pub answer : AnswersWith host run (seen w) s past r (seen w') s' past'
  pub uses : KeepsBy host run (seen w) s past (uses_of w) r s' past' (uses_of w')

-- what follows with the value of a run
abbrev pub followed : Run → (Val → Run) → Run
followed run go w s = then_do (run w s) go

-- The run takes as many steps and answers of the host's functions, and notes the same, whatever is left after them, and goes on as the next
-- does from there.
pub record Comes {A : Type 0} (host : Host) (run next : (A → Run) → Run) (w : World) (s : ℕ) (past : List ℤ) (w' : World) (s' : ℕ)
    (past' : List ℤ) : Type 0 where
  pub taken : ℕ
  pub answers : List ℤ
  pub notes : List Note
  pub steps : s ≡ taken + s'
  pub heard : past' ≡ past ++ answers
  pub kept : uses_of w' ≡ after_notes notes (uses_of w)
  pub same : (go : A → Run) (t : ℕ) (more : List ℤ)
      → answered_by host (run go (seen w) (taken + t)) (answers ++ more) ≡ answered_by host (next go (seen w') t) more
  pub noted : (go : A → Run) (t : ℕ) (more : List ℤ)
      → notes_by host (run go (seen w) (taken + t)) (answers ++ more) ≡ notes ++ notes_by host (next go (seen w') t) more

-- It goes on with this.
abbrev pub GoesOn : {A : Type 0} → Host → ((A → Run) → Run) → World → ℕ → List ℤ → A → World → ℕ → List ℤ → Type 0
GoesOn {A} host run w s past a w' s' past' = Comes host run (λ (go : A → Run). go a) w s past w' s' past'
