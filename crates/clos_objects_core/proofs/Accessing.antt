-- Calls of readers and writers.
use Rattle.std.proofs.Common.{◌≡◌, ℕ, List, [], ◌∷◌, Some, None, Result, Ok, Err, refl, ap, sym, ◌∙◌}
use Rattle.std.specs.Prelude.{unwrap_or}
use Rattle.lisp_data.specs.Name.{Name}
use Rattle.lisp_data.specs.Value.{Val}
use Rattle.clos_machine.specs.clos_world.Values.{only_value}
use Rattle.clos_machine.specs.clos_world.World.{State}
use Rattle.clos_machine.specs.clos_world.declared.condition.Condition.{Condition}
use Rattle.clos_machine.specs.clos_world.declared.condition.ConditionKind.TheVariants.{ProgramError}
use Rattle.clos_machine.specs.clos_world.declared.condition.Stop.{Stop}
use Rattle.clos_machine.specs.clos_world.declared.condition.Stop.TheVariants.{Refused, Storage}
use Rattle.clos_machine.specs.clos_meaning.Accessors.{read_by, read_of, written_by, written_of}
use Rattle.clos_machine.specs.clos_meaning.Contexts.{Context}
use Rattle.clos_machine.specs.Machine.{DesignatesInstance, Turns, at, inside, resume}
use Rattle.clos_machine.specs.clos_meaning.Meaning.{closed}
use Rattle.clos_machine.specs.clos_meaning.Outcome.{Eval, Stopped, stopped}
use Rattle.clos_machine.specs.clos_meaning.Slots.{instance_in, slot_answer, slot_put}
use Rattle.clos_machine.specs.clos_meaning.Updating.{updated}
use Rattle.clos_forms.specs.clos_names.declared.callee.SlotFunction.TheVariants.{SlotValue}
use Rattle.clos_machine.specs.declared.machine.Doing.{Doing}
use Rattle.clos_machine.specs.declared.machine.Machine.{Machine}
use Rattle.clos_objects_core.specs.Slots.{two_of}
use Rattle.clos_machine.proofs.Runs.{stops_at_once, turns_same}

module _ (ev : Eval) (env : Context) (slot : Name) where
  -- ---- a reader

  none_at : (xs : List Val) (w : State) (s : ℕ) → None ≡ only_value xs → read_by ev env slot xs w s ≡ stopped ProgramError [] w s
  none_at [] w s e = refl
  none_at (x ∷ []) w s e = absurd (cc e)
  none_at (x ∷ (y ∷ xs)) w s e = refl

  one_at : (xs : List Val) (a : Val) (w : State) (s : ℕ) → Some a ≡ only_value xs → read_of ev env slot (instance_in a) w s ≡ read_by ev env slot xs w s
  one_at [] a w s e = absurd (cc e)
  one_at (x ∷ []) a w s e = ap (λ v. read_of ev env slot (instance_in v) w s) (ap (λ o. unwrap_or o x) e)
  one_at (x ∷ (y ∷ xs)) a w s e = absurd (cc e)

  pub not_one : (m n : Machine) (xs : List Val) (c : Condition) (w : State) (s : ℕ) → None ≡ only_value xs → c ≡ record { kind = ProgramError; items = [] }
      → Turns (inside m (read_by ev env slot xs)) w s (Err (Refused c)) n w s
  not_one m n xs c w s e k =
      stops_at_once m n (read_by ev env slot xs) w s c (none_at xs (at m w) s e ∙ ap (λ x. Stopped x (at m w) s) (sym k))

  pub reads : (m n : Machine) (xs : List Val) (a : Val) (i : ℕ) (r : Result Doing Stop) (w : State) (s : ℕ) (w' : State) (s' : ℕ) → Some a ≡ only_value xs → instance_in a ≡ Ok i
      → Turns (inside m (updated ev i (slot_answer ev env SlotValue i slot))) w s r n w' s' → Turns (inside m (read_by ev env slot xs)) w s r n w' s'
  reads m n xs a i r w s w' s' e k h =
      turns_same (inside m (updated ev i (slot_answer ev env SlotValue i slot))) (inside m (read_by ev env slot xs)) w s r n w' s'
      (λ t. ap (λ o. closed (resume m.levels m.context o)) (ap (λ d. read_of ev env slot d (at m w) t) (sym k) ∙ one_at xs a (at m w) t e)) h

  pub reads_nothing : (m n : Machine) (xs : List Val) (a : Val) (stop : Stop) (w : State) (s : ℕ) → Some a ≡ only_value xs → DesignatesInstance (instance_in a) (Err stop)
      → Turns (inside m (read_by ev env slot xs)) w s (Err stop) n w s
  reads_nothing m n xs a Storage w s e k = (refl, refl)
  reads_nothing m n xs a (Refused c) w s e k =
      stops_at_once m n (read_by ev env slot xs) w s c (sym (one_at xs a (at m w) s e) ∙ ap (λ d. read_of ev env slot d (at m w) s) k)

  -- ---- a writer

  not_two_at : (xs : List Val) (w : State) (s : ℕ) → None ≡ two_of xs → written_by ev env slot xs w s ≡ stopped ProgramError [] w s
  not_two_at [] w s e = refl
  not_two_at (x ∷ []) w s e = refl
  not_two_at (x ∷ (y ∷ [])) w s e = absurd (cc e)
  not_two_at (x ∷ (y ∷ (z ∷ xs))) w s e = refl

  pub not_both : (m n : Machine) (vs us : List Val) (c : Condition) (w : State) (s : ℕ) → None ≡ two_of us → us ≡ vs
      → c ≡ record { kind = ProgramError; items = [] } → Turns (inside m (written_by ev env slot vs)) w s (Err (Refused c)) n w s
  not_both m n vs us c w s e k h =
      stops_at_once m n (written_by ev env slot vs) w s c
      (ap (λ xs. written_by ev env slot xs (at m w) s) (sym k) ∙ not_two_at us (at m w) s e ∙ ap (λ d. Stopped d (at m w) s) (sym h))

  two_at : (xs : List Val) (x v : Val) (w : State) (s : ℕ) → Some (x, v) ≡ two_of xs → written_of ev env slot x (instance_in v) w s ≡ written_by ev env slot xs w s
  two_at [] x v w s e = absurd (cc e)
  two_at (a ∷ []) x v w s e = absurd (cc e)
  two_at (a ∷ (b ∷ [])) x v w s e = ap (λ p. written_of ev env slot p.0 (instance_in p.1) w s) (ap (λ o. unwrap_or o (a, b)) e)
  two_at (a ∷ (b ∷ (c ∷ xs))) x v w s e = absurd (cc e)

  pub writes_nothing : (m n : Machine) (vs us : List Val) (x v : Val) (stop : Stop) (w : State) (s : ℕ) → Some (x, v) ≡ two_of us → us ≡ vs
      → DesignatesInstance (instance_in v) (Err stop) → Turns (inside m (written_by ev env slot vs)) w s (Err stop) n w s
  writes_nothing m n vs us x v Storage w s e k d = (refl, refl)
  writes_nothing m n vs us x v (Refused c) w s e k d =
      stops_at_once m n (written_by ev env slot vs) w s c
      (ap (λ xs. written_by ev env slot xs (at m w) s) (sym k) ∙ sym (two_at us x v (at m w) s e) ∙ ap (λ q. written_of ev env slot x q (at m w) s) d)

  pub writes : (m n : Machine) (vs : List Val) (x v y z : Val) (i : ℕ) (r : Result Doing Stop) (w : State) (s : ℕ) (w' : State) (s' : ℕ) → Some (x, v) ≡ two_of vs → instance_in v ≡ Ok i
      → y ≡ x → z ≡ x → Turns (inside m (updated ev i (slot_put ev env i slot (Some y) z))) w s r n w' s' → Turns (inside m (written_by ev env slot vs)) w s r n w' s'
  writes m n vs x v y z i r w s w' s' e d j k h =
      turns_same (inside m (updated ev i (slot_put ev env i slot (Some y) z))) (inside m (written_by ev env slot vs)) w s r n w' s'
      (λ t. ap (λ o. closed (resume m.levels m.context o))
      (ap (λ q. updated ev i (slot_put ev env i slot (Some q) z) (at m w) t) j
      ∙ ap (λ q. updated ev i (slot_put ev env i slot (Some x) q) (at m w) t) k
      ∙ ap (λ q. written_of ev env slot x q (at m w) t) (sym d) ∙ two_at vs x v (at m w) t e)) h
