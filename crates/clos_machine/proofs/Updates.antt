-- Instances that are updated before they are looked at.
use Rattle.std.proofs.Common.{◌≡◌, ℕ, suc, ◌+◌, List, [], ◌∷◌, Option, Some, None, Result, Ok, Err, arith, refl, ap, sym, subst, ◌∙◌, true≢false}
use Rattle.std.specs.Global.{Box}
use Rattle.std.specs.Prelude.{IsSome}
use Rattle.lisp_data.specs.Name.{Name}
use Rattle.lisp_data.specs.Value.{Val}
use Rattle.lisp_data.specs.ValueView.{value_of}
use Rattle.lisp_data.specs.declared.ids.InstanceId.{InstanceId}
use Rattle.lisp_data.specs.declared.value.Value.{Value}
use Rattle.lisp_prims.specs.Fault as prims
use Rattle.lisp_prims.specs.Fault.{AnswersUnlessMemory, StandsFor}
use Rattle.lisp_prims.specs.declared.fault.PrimFault.{PrimFault}
use Rattle.lisp_prims.specs.declared.fault.PrimFault.TheVariants as fault
use Rattle.clos_meaning.specs.clos_world.clos_class.Slots.{Layout}
use Rattle.clos_meaning.specs.clos_world.clos_store.Store.{Object, slot_names}
use Rattle.clos_meaning.specs.clos_world.clos_store.Store as store
use Rattle.clos_meaning.specs.clos_world.clos_store.Objects.{due_for}
use Rattle.clos_meaning.specs.clos_world.clos_store.Update.{bound, lost, with_update}
use Rattle.clos_meaning.specs.clos_world.clos_store.UpdateView.{TellsOf}
use Rattle.clos_meaning.specs.clos_world.clos_store.declared.update.Discarded.{Discarded}
use Rattle.clos_meaning.specs.clos_world.World.{State}
use Rattle.clos_meaning.specs.clos_world.declared.condition.Condition.{Condition}
use Rattle.clos_meaning.specs.clos_world.declared.condition.ConditionKind.TheVariants.{StepLimit}
use Rattle.clos_meaning.specs.clos_world.declared.condition.Stop.{Stop}
use Rattle.clos_meaning.specs.clos_world.declared.condition.Stop.TheVariants.{Refused, Storage}
use Rattle.clos_meaning.specs.clos_world.clos_method.declared.system.SystemFunction.TheVariants.{UpdateInstanceForRedefinedClass}
use Rattle.clos_meaning.specs.ClassFunctions.{Answer, Tells, in_words_of_conditions}
use Rattle.clos_meaning.specs.Contexts.{Context}
use Rattle.clos_meaning.specs.Meaning.{meaning}
use Rattle.clos_meaning.specs.Outcome.{Eval, Run, Stopped}
use Rattle.clos_meaning.specs.Updating.{arguments_of, due, listed, names_listed, properties, restructured, told, told_if, updated, updated_if, updated_with}
use Rattle.clos_machine.specs.Fault.{Signals}
use Rattle.clos_machine.specs.Machine.{Turns, at, denote, here, inside, visited}
use Rattle.clos_machine.specs.Updating.{TellsArguments, TellsValues}
use Rattle.clos_machine.specs.declared.machine.Doing.{Doing}
use Rattle.clos_machine.specs.declared.machine.Doing.TheVariants.{Invoke}
use Rattle.clos_machine.specs.declared.machine.Frame.TheVariants.{Updated}
use Rattle.clos_machine.specs.declared.machine.Machine.{Machine}
use Rattle.clos_machine.specs.declared.machine.Visit.{Visit}
use Rattle.clos_machine.proofs.Uses.{turns_by_same}
use Rattle.clos_machine.specs.Uses.{TurnsBy}
use Rattle.clos_meaning.specs.clos_world.clos_cache.Uses.{Uses}
use Rattle.clos_machine.proofs.Runs.{stops_at_once, turns_same}

-- ---- a list that can't be made

pub not_listed : (x : Result Val prims.Condition) (f : PrimFault) (stop : Stop) → AnswersUnlessMemory {A = Value} value_of (Err f) x
    → ((c : prims.Condition) → StandsFor f c → Signals c stop) → (f ≡ fault.Memory → stop ≡ Storage) → Tells (in_words_of_conditions x) (Err stop)
not_listed x f Storage a h k = tt
not_listed x fault.Memory (Refused d) a h k = absurd (cc (k refl))
not_listed (Ok v) fault.ProgramError (Refused d) a h k = absurd a
not_listed (Err c) fault.ProgramError (Refused d) a h k = ap Err (sym (h c a))
not_listed (Ok v) (fault.TypeError u) (Refused d) a h k = absurd a
not_listed (Err c) (fault.TypeError u) (Refused d) a h k = ap Err (sym (h c a))
not_listed (Ok v) fault.IntegerRange (Refused d) a h k = absurd a
not_listed (Err c) fault.IntegerRange (Refused d) a h k = ap Err (sym (h c a))
not_listed (Ok v) fault.DivisionByZero (Refused d) a h k = absurd a
not_listed (Err c) fault.DivisionByZero (Refused d) a h k = ap Err (sym (h c a))
not_listed (Ok v) fault.Unsupported (Refused d) a h k = absurd a
not_listed (Err c) fault.Unsupported (Refused d) a h k = ap Err (sym (h c a))

-- an answer about the values at hand
pub told_of_values : (vs us : List Val) (r : Result Value Stop) → us ≡ vs → Tells (listed us) r → Tells (listed vs) r
told_of_values vs us r e h = subst (λ xs. Tells (listed xs) r) e h

-- ---- the arguments of the update call

module _ (i : ℕ) where
  pub added_refused : (a d p : Answer) (stop : Stop) → Tells a (Err stop) → TellsValues (arguments_of i a d p) (Err stop)
  added_refused a d p Storage h = tt
  added_refused a d p (Refused c) h = ap (λ x. arguments_of i x d p) h

  pub discarded_refused : (a d p : Answer) (v : Value) (stop : Stop) → Tells a (Ok v) → Tells d (Err stop) → TellsValues (arguments_of i a d p) (Err stop)
  discarded_refused a d p v Storage k h = tt
  discarded_refused a d p v (Refused c) k h = ap (λ x. arguments_of i x d p) k ∙ ap (λ x. arguments_of i (Ok (value_of v)) x p) h

  pub properties_refused : (a d p : Answer) (v u : Value) (stop : Stop) → Tells a (Ok v) → Tells d (Ok u) → Tells p (Err stop) → TellsValues (arguments_of i a d p) (Err stop)
  properties_refused a d p v u Storage k l h = tt
  properties_refused a d p v u (Refused c) k l h =
      ap (λ x. arguments_of i x d p) k ∙ ap (λ x. arguments_of i (Ok (value_of v)) x p) l ∙ ap (λ x. arguments_of i (Ok (value_of v)) (Ok (value_of u)) x) h

  pub arguments_there : (a d p : Answer) (v u q : Value) → Tells a (Ok v) → Tells d (Ok u) → Tells p (Ok q)
      → arguments_of i a d p ≡ arguments_of i (Ok (value_of v)) (Ok (value_of u)) (Ok (value_of q))
  arguments_there a d p v u q k l h =
      ap (λ x. arguments_of i x d p) k ∙ ap (λ x. arguments_of i (Ok (value_of v)) x p) l ∙ ap (λ x. arguments_of i (Ok (value_of v)) (Ok (value_of u)) x) h

-- what is told of the instance that there is
pub told_there : (i : ℕ) (names : List Name) (d : Discarded) (o : Option Object) (r : Result (List Val) Stop) → IsSome o → TellsOf d o names → TellsArguments i d r → TellsValues (told_if i names o) r
told_there i names d None r s t h = absurd (true≢false (sym s))
told_there i names d (Some o) r s t h =
    subst (λ x. TellsValues (arguments_of i (names_listed x) (names_listed (slot_names (lost names o.slots))) (listed (properties (bound (lost names o.slots))))) r) t.added
    (subst (λ x. TellsValues (arguments_of i (names_listed d.added.items) (names_listed x) (listed (properties (bound (lost names o.slots))))) r) t.discarded
    (subst (λ x. TellsValues (arguments_of i (names_listed d.added.items) (names_listed d.discarded.items) (listed (properties x))) r) t.values h))

-- ---- an instance that is stale is there

stale_there : (w : State) (i : ℕ) (o : Option Object) (l : Layout) → store.instance w.store i ≡ o → due w i ≡ Some l → IsSome o
stale_there w i None l e h =
    absurd (cc (sym (ap (due_for w.classes) e) ∙ h))
stale_there w i (Some o) l e h = refl

pub due_there : (w : State) (i : ℕ) (l : Layout) → due w i ≡ Some l → IsSome (store.instance w.store i)
due_there w i l h = stale_there w i (store.instance w.store i) l refl h

-- ---- turns

-- whether it is updated first is known
pub turns_due : (m n : Machine) (what : Eval → Context → Run) (i : ℕ) (o : Option Layout) (w : State) (s : ℕ) (r : Result Doing Stop) (w' : State) (s' : ℕ) → o ≡ due w i
    → Turns (here m (λ ev env. updated_if ev i (what ev env) o)) w s r n w' s' → Turns (here m (λ ev env. updated ev i (what ev env))) w s r n w' s'
turns_due m n what i o w s r w' s' e h = subst (λ x. Turns (here m (λ ev env. updated_if ev i (what ev env) x)) w s r n w' s') e h

pub turns_due_by : (m n : Machine) (what : Eval → Context → Run) (i : ℕ) (o : Option Layout) (w : State) (s : ℕ) (u : Uses) (r : Result Doing Stop) (w' : State)
    (s' : ℕ) (u' : Uses) → o ≡ due w i → TurnsBy (here m (λ ev env. updated_if ev i (what ev env) o)) w s u r n w' s' u'
    → TurnsBy (here m (λ ev env. updated ev i (what ev env))) w s u r n w' s' u'
turns_due_by m n what i o w s u r w' s' u' e h = turns_by_same (here m (λ ev env. updated_if ev i (what ev env) o)) w s u u' r n w' s'
    (here m (λ ev env. updated ev i (what ev env))) (λ t. ap (λ x. here m (λ ev env. updated_if ev i (what ev env) x) w t) e) h

module _ (m n : Machine) (i : ℕ) (l : Layout) (v : Visit) (w : State) (s : ℕ) where
  abbrev what : Eval → Context → Run
  what ev env = visited ev env i v

  abbrev with_told : Result (List Val) Condition → Run
  with_told x = updated_with (meaning m.room) i l (what (meaning m.room) m.context) x

  -- a list can't be made
  pub not_told : (stop : Stop) → Some l ≡ due w i → TellsValues (told w i l) (Err stop) → Turns (here m (λ ev env. updated ev i (what ev env))) w s (Err stop) n w s
  not_told Storage e h = (refl, refl)
  not_told (Refused c) e h =
      turns_due m n what i (Some l) w s (Err (Refused c)) w s e
      (stops_at_once m n (λ u. with_told (told u i l) u) w s c (ap (λ x. with_told x (at m w) s) h))

  pub when_told : (vs : List Val) (r : Result Doing Stop) (w' : State) (s' : ℕ) → Some l ≡ due w i → told w i l ≡ Ok vs
      → Turns (here m (λ ev env. restructured ev i l vs (what ev env))) w s r n w' s' → Turns (here m (λ ev env. updated ev i (what ev env))) w s r n w' s'
  when_told vs r w' s' e h k =
      turns_due m n what i (Some l) w s r w' s' e
      (turns_same (inside m (with_told (Ok vs))) (here m (λ ev env u. updated_with ev i l (what ev env) (told u i l) u)) w s r n w' s'
      (λ t. ap (λ x. inside m (with_told x) w t) (sym h)) k)

  module _ (vs : List Val) where
    abbrev pub updating : Run
    updating = restructured (meaning m.room) i l vs (what (meaning m.room) m.context)

    pub update_no_step : (c : Condition) → s ≡ 0 → c ≡ record { kind = StepLimit; items = [] } → Turns (inside m updating) w s (Err (Refused c)) n w s
    update_no_step c z k =
        stops_at_once m n updating w s c (ap (updating (at m w)) z ∙ ap (λ x. Stopped x (at m w) 0) (sym k) ∙ ap (Stopped c (at m w)) (sym z))

one_more : (t : ℕ) → 1 + t ≡ suc t
one_more t = omega arith

-- the instance has its layout, and is told of it
pub update_goes : (m n : Machine) (id : InstanceId) (l : Layout) (v : Visit) (b : Box Visit) (vs : List Val) (w w' : State) (s s' : ℕ)
    → b.value ≡ v → n ≡ record m { levels = (record { frame = Updated id b; room = m.room }) ∷ m.levels } → s ≡ 1 + s'
    → w' ≡ record w { store = with_update id.0 l w.store } → Turns (here m (λ ev env. restructured ev id.0 l vs (visited ev env id.0 v))) w s (Ok (Invoke UpdateInstanceForRedefinedClass vs)) n w' s'
update_goes m n id l v b vs w w' s s' h e z k = (
  1,
  z,
  λ t. ap (λ x. denote x (Invoke UpdateInstanceForRedefinedClass vs) w' t) e
      ∙ ap (λ u. denote (record m { levels = (record { frame = Updated id b; room = m.room }) ∷ m.levels }) (Invoke UpdateInstanceForRedefinedClass vs) u t) k
      ∙ ap (λ x. inside m (restructured (meaning m.room) id.0 l vs (visited (meaning m.room) m.context id.0 x)) w (suc t)) h
      ∙ sym (ap (λ j. inside m (restructured (meaning m.room) id.0 l vs (visited (meaning m.room) m.context id.0 v)) w j) (one_more t)),
)
