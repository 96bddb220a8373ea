-- What is kept of calls as the machine goes on, and how many effective methods were worked out: as the uses have it that a run notes.
use Rattle.std.specs.Prelude.{◌≡◌, ℕ, ℤ, ◌+◌, List, [], ◌++◌, Result, Ok, Err}
use Rattle.lisp_data.specs.declared.value.Value.{Value}
use Rattle.clos_meaning.specs.clos_world.clos_cache.Uses.{Uses}
use Rattle.clos_meaning.specs.clos_world.Uses.{AtMostOneMore}
use Rattle.clos_meaning.specs.clos_world.World.{State}
use Rattle.clos_meaning.specs.clos_world.declared.condition.Stop.{Stop}
use Rattle.clos_meaning.specs.clos_world.declared.condition.Stop.TheVariants.{Refused, Storage}
use Rattle.clos_meaning.specs.Host.{Host}
use Rattle.clos_meaning.specs.Outcome.{Note, Run}
use Rattle.clos_meaning.specs.Uses.{after_notes, most, notes_by, noted}
use Rattle.clos_machine.specs.Machine.{Leads, Turns, denote}
use Rattle.clos_machine.specs.declared.machine.Doing.{Doing}
use Rattle.clos_machine.specs.declared.machine.Machine.{Machine}

-- Where memory was refused, the first of these uses were made, and one more effective method may have been worked out.
pub record MadeSome (notes : List Note) (old new : Uses) : Type 0 where
  pub made : List Note
  pub left : List Note
  pub first : notes ≡ made ++ left
  pub kept : AtMostOneMore most (after_notes made old) new

-- The uses were made, unless memory was refused.
abbrev pub KeptAfter : {A : Type 0} → List Note → Result A Stop → Uses → Uses → Type 0
KeptAfter notes (Ok x) old new = new ≡ after_notes notes old
KeptAfter notes (Err (Refused c)) old new = new ≡ after_notes notes old
KeptAfter notes (Err Storage) old new = MadeSome notes old new

-- A handler whose run notes some uses first: these are made, and it leads to where the rest does.
pub record LeadsBy (run : Run) (w : State) (old : Uses) (r : Result Doing Stop) (m : Machine) (new : Uses) : Type 0 where
  pub notes : List Note
  pub rest : Run
  pub first : (t : ℕ) → run w t ≡ noted notes (rest w t)
  pub leads : Leads rest w r m
  pub kept : KeptAfter notes r old new

-- .. a turn
pub record TurnsBy (run : Run) (w : State) (s : ℕ) (old : Uses) (r : Result Doing Stop) (m : Machine) (w' : State) (s' : ℕ) (new : Uses)
    : Type 0 where
  pub notes : List Note
  pub rest : Run
  pub first : (t : ℕ) → run w t ≡ noted notes (rest w t)
  pub turns : Turns rest w s r m w' s'
  pub kept : KeptAfter notes r old new

-- ---- where functions that the host stored may have been called

-- A turn in which one may have answered, by the uses that it makes.
abbrev pub Notes : Host → Run → State → ℕ → List ℤ → Uses → Result Doing Stop → Machine → State → ℕ → List ℤ → Uses → Type 0
Notes host run w s past u (Ok d) m w' s' past' u' =
    (k : ℕ) × (answers : List ℤ) × (notes : List Note) × (s ≡ k + s') × (past' ≡ past ++ answers) × (u' ≡ after_notes notes u)
    × ((t : ℕ) (more : List ℤ) → notes_by host (run w (k + t)) (answers ++ more) ≡ notes ++ notes_by host (denote m d w' t) more)
Notes host run w s past u (Err (Refused c)) m w' s' past' u' = (past' ≡ past) × (u' ≡ after_notes (notes_by host (run w s) []) u)
Notes host run w s past u (Err Storage) m w' s' past' u' =
    (past' ≡ past) × (s' ≡ s) × ((t : ℕ) → MadeSome (notes_by host (run w t) []) u u')

-- The uses of the run were made, with the answers that came; where memory was refused, the first of those of the run with the steps
-- taken as its budget.
abbrev pub KeepsBy : Host → Run → State → ℕ → List ℤ → Uses → Result Value Stop → ℕ → List ℤ → Uses → Type 0
KeepsBy host run w s past u (Ok v) s' past' u' =
    (answers : List ℤ) × (past' ≡ past ++ answers) × (u' ≡ after_notes (notes_by host (run w s) answers) u)
KeepsBy host run w s past u (Err (Refused c)) s' past' u' =
    (answers : List ℤ) × (past' ≡ past ++ answers) × (u' ≡ after_notes (notes_by host (run w s) answers) u)
KeepsBy host run w s past u (Err Storage) s' past' u' =
    (answers : List ℤ) × (past' ≡ past ++ answers) × (k : ℕ) × (s ≡ k + s') × MadeSome (notes_by host (run w k) answers) u u'

-- The run has come to here, by the uses that it made: after some steps and answers it goes on as `rest` does from here.
pub record Made (host : Host) (run : Run) (w0 : State) (s0 : ℕ) (past0 : List ℤ) (u0 : Uses) (rest : Run) (w : State) (s : ℕ)
    (past : List ℤ) (u : Uses) : Type 0 where
  pub taken : ℕ
  pub answers : List ℤ
  pub notes : List Note
  pub steps : s0 ≡ taken + s
  pub heard : past ≡ past0 ++ answers
  pub same : (t : ℕ) (more : List ℤ) → notes_by host (run w0 (taken + t)) (answers ++ more) ≡ notes ++ notes_by host (rest w t) more
  pub kept : u ≡ after_notes notes u0
