-- What a call of a stored function comes to.
use Rattle.std.specs.Prelude.{◌≡◌, ℕ, suc, ℤ, List, [], ◌∷◌, ◌++◌, Some, Result, Ok, Err}
use Rattle.lisp_data.specs.Value.{Val, integer}
use Rattle.clos_machine.specs.Machine.{resume}
use Rattle.clos_machine.specs.clos_meaning.Contexts.{Context}
use Rattle.clos_machine.specs.clos_meaning.Host.{Host, answered_by}
use Rattle.clos_machine.specs.clos_meaning.Meaning.{closed}
use Rattle.clos_machine.specs.clos_meaning.Outcome.{Gave, Out, Run, Signalled}
use Rattle.clos_machine.specs.clos_meaning.Uses.{notes_by}
use Rattle.clos_machine.specs.clos_world.World.{State, unbound}
use Rattle.clos_machine.specs.clos_world.declared.condition.Condition.{Condition}
use Rattle.clos_machine.specs.clos_world.declared.condition.ConditionKind.{ConditionKind}
use Rattle.clos_machine.specs.clos_world.declared.condition.ConditionKind.TheVariants.{TypeError}
use Rattle.clos_machine.specs.clos_world.declared.condition.Stop.{Stop}
use Rattle.clos_machine.specs.clos_world.declared.condition.Stop.TheVariants.{Refused, Storage}
use Rattle.clos_machine.specs.declared.machine.Level.{Level}

-- with this answer it is this, whatever the levels of the machine do then, and notes as much
abbrev pub Passes : Host → Out → ℤ → Out → Type 0
Passes host o x o' =
    (ls : List Level) (env : Context) (more : List ℤ)
    → (answered_by host (closed (resume ls env o)) (x ∷ more) ≡ answered_by host (closed (resume ls env o')) more)
    × (notes_by host (closed (resume ls env o)) (x ∷ more) ≡ notes_by host (closed (resume ls env o')) more)

-- it stops before anything is asked or noted
abbrev pub StopsAt : Host → Out → Condition → State → ℕ → Type 0
StopsAt host o c w s =
    (ls : List Level) (env : Context) → (answered_by host (closed (resume ls env o)) [] ≡ Some (Signalled c (unbound w) s))
    × (notes_by host (closed (resume ls env o)) [] ≡ [])

-- One answer came, in one step; or none, and no step was taken.
abbrev pub Calls : Host → Run → ℕ → List ℤ → Result ℤ Stop → ℕ → List ℤ → Type 0
Calls host run s past (Ok x) s' past' = (s ≡ suc s') × (past' ≡ past ++ x ∷ [])
    × ((w : State) (t : ℕ) → Passes host (run w (suc t)) x (Gave (integer x) w t))
Calls host run s past (Err (Refused c)) s' past' = (s' ≡ s) × (past' ≡ past) × ((w : State) → StopsAt host (run w s) c w s)
Calls host run s past (Err Storage) s' past' = (s' ≡ s) × (past' ≡ past)

-- the condition is of this kind, about this value
abbrev pub Tells : ConditionKind → Val → Stop → Type 0
Tells kind v (Refused c) = c ≡ record { kind = kind; items = v ∷ [] }
Tells kind v Storage = Unit {0}

-- they are not all integers: the condition is about the leftmost that is none
abbrev pub NotIntegers : Result (List ℤ) Val → Stop → Type 0
NotIntegers r (Refused c) = (v : Val) × (r ≡ Err v) × (c ≡ record { kind = TypeError; items = v ∷ [] })
NotIntegers r Storage = Unit {0}
