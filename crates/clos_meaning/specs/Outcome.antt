-- What an evaluation comes to: a value or a condition, the state after, and the steps left.
use Rattle.std.specs.Prelude.{◌≡◌, ℕ, zero, suc, ℤ, Bool, true, false, List, [], Option}
use Rattle.lisp_data.specs.Name.{Name}
use Rattle.lisp_data.specs.Value.{Val, list, nil}
use Rattle.clos_forms.specs.Form.{Form}
use Rattle.clos_world.specs.World.{State}
use Rattle.clos_world.specs.clos_cache.Cache.{Change}
use Rattle.clos_world.specs.clos_cache.Key.{Key}
use Rattle.clos_world.specs.declared.condition.Condition.{Condition}
use Rattle.clos_world.specs.declared.condition.ConditionKind.{ConditionKind}
use Rattle.clos_world.specs.declared.condition.ConditionKind.TheVariants.{StepLimit}
use Rattle.clos_meaning.specs.Contexts.{Context}

-- what is told beside an evaluation, and read by none
pub data Note : Type 0 where
  used : Key → Note  -- the methods of a generic function were asked for, for a call of this key
  took_effect : State → List Change → Note  -- a definition changed these, in this state

-- the value or the condition, the state after, and the steps left; or that something was noted first; or, where the host has
-- to answer before it goes on, what comes of each answer
pub data Out : Type 0 where
  Gave : Val → State → ℕ → Out
  Stopped : Condition → State → ℕ → Out
  Noted : Note → Out → Out
  Looked : Name → (Option ℕ → Out) → Out  -- how many integers does the stored function of this name take, if there is one?
  Asked : Name → List ℤ → (ℤ → Out) → Out  -- what does that function answer to these?

-- what it ends with, where it waits for nothing any more
pub data End : Type 0 where
  Given : Val → State → ℕ → End
  Signalled : Condition → State → ℕ → End

-- from a state, with some steps left
abbrev pub Run : Type 0
Run = State → ℕ → Out

-- a form's meaning in a context
abbrev pub Eval : Type 0
Eval = Context → Form → Run

-- It goes on where there is a value, and stops where there is a condition.
abbrev pub then_do : Out → (Val → Run) → Out
then_do (Gave v w s) go = go v w s
then_do (Stopped c w s) go = Stopped c w s
then_do (Noted n o) go = Noted n (then_do o go)
then_do (Looked name more) go = Looked name (λ n. then_do (more n) go)
then_do (Asked name xs more) go = Asked name xs (λ x. then_do (more x) go)

-- a value at once: the state stays, and no step is taken
abbrev pub gave : Val → Run
gave v w s = Gave v w s

-- a condition of this kind, about these values; what was done before stays done
abbrev pub stopped : ConditionKind → List Val → Run
stopped kind items w s = Stopped (record { kind = kind; items = items }) w s

-- one step, or the condition in its place
abbrev pub step_then : Run → Run
step_then go w zero = stopped StepLimit [] w zero
step_then go w (suc s) = go w s

-- every value but NIL is true (5.1.3)
abbrev pub is_true : Val → Bool
is_true (list nil) = false
is_true v = true

-- where an outcome leaves the state and the steps; one that waits for an answer to a call leaves them nowhere
abbrev pub leaves : Out → State → ℕ → Type 0
leaves (Gave v w s) w' s' = (w ≡ w') × (s ≡ s')
leaves (Stopped c w s) w' s' = (w ≡ w') × (s ≡ s')
leaves (Noted n o) w' s' = leaves o w' s'
leaves (Looked name more) w' s' = (n : Option ℕ) → leaves (more n) w' s'
leaves (Asked name xs more) w' s' = ⊥

-- the same of what it ends with
abbrev pub ends_in : End → State → ℕ → Type 0
ends_in (Given v w s) w' s' = (w ≡ w') × (s ≡ s')
ends_in (Signalled c w s) w' s' = (w ≡ w') × (s ≡ s')
