-- Slots that are read and set by their names.
use Rattle.std.proofs.Common.{◌≡◌, ℕ, suc, ◌+◌, List, [], ◌∷◌, true, false, Option, Some, None, Result, Ok, Err, arith, refl, ap, sym, ◌∙◌}
use Rattle.std.specs.Prelude.{option_map, unwrap_or, is_some}
use Rattle.lisp_data.specs.Name.{Name}
use Rattle.lisp_data.specs.Value.{Val}
use Rattle.lisp_data.specs.ValueView.{value_of}
use Rattle.lisp_data.specs.declared.ids.InstanceId.{InstanceId}
use Rattle.lisp_data.specs.declared.value.Value.{Value}
use Rattle.clos_machine.specs.clos_world.clos_store.Store.{slot_found, with_slot}
use Rattle.clos_machine.specs.clos_world.World.{State}
use Rattle.clos_machine.specs.clos_world.declared.condition.Condition.{Condition}
use Rattle.clos_machine.specs.clos_world.declared.condition.ConditionKind.TheVariants.{ProgramError, StepLimit}
use Rattle.clos_machine.specs.clos_world.declared.condition.Stop.{Stop}
use Rattle.clos_machine.specs.clos_world.declared.condition.Stop.TheVariants.{Refused, Storage}
use Rattle.clos_machine.specs.Machine.{Leads, Turns, at, denote, inside, resume}
use Rattle.clos_machine.specs.clos_meaning.Contexts.{Context}
use Rattle.clos_machine.specs.clos_meaning.Meaning.{closed, meaning}
use Rattle.clos_machine.specs.clos_meaning.Outcome.{Run, Eval, Stopped, step_then, stopped}
use Rattle.clos_machine.specs.clos_meaning.Slots.{slot_applied, slot_asked, slot_called, slot_changed, slot_designated, slot_given, slot_put, slot_set, slot_stored}
use Rattle.clos_machine.specs.clos_meaning.Updating.{updated}
use Rattle.clos_forms.specs.clos_names.declared.callee.SlotFunction.{SlotFunction}
use Rattle.clos_machine.specs.declared.machine.Doing.{Doing}
use Rattle.clos_machine.specs.declared.machine.Doing.TheVariants.{Give}
use Rattle.clos_machine.specs.declared.machine.Machine.{Machine}
use Rattle.clos_machine.proofs.Runs.{stops_at_once, turns_of_leads, turns_same}
use Rattle.clos_machine.proofs.Turns.{leads_same}
use Rattle.clos_objects_core.specs.Slots.{DesignatesSlot, three_of, two_of}

module _ (ev : Eval) (env : Context) where
  -- ---- a function with other than two arguments

  not_two_at : (f : SlotFunction) (xs : List Val) (w : State) (s : ℕ) → None ≡ two_of xs → slot_called ev env f xs w s ≡ stopped ProgramError [] w s
  not_two_at f [] w s e = refl
  not_two_at f (x ∷ []) w s e = refl
  not_two_at f (x ∷ (y ∷ [])) w s e = absurd (cc e)
  not_two_at f (x ∷ (y ∷ (z ∷ xs))) w s e = refl

  pub not_two : (m n : Machine) (f : SlotFunction) (vs us : List Val) (c : Condition) (w : State) (s : ℕ) → None ≡ two_of us → us ≡ vs
      → c ≡ record { kind = ProgramError; items = [] } → Turns (inside m (slot_called ev env f vs)) w s (Err (Refused c)) n w s
  not_two m n f vs us c w s e k h =
      stops_at_once m n (slot_called ev env f vs) w s c
      (ap (λ xs. slot_called ev env f xs (at m w) s) (sym k) ∙ not_two_at f us (at m w) s e ∙ ap (λ d. Stopped d (at m w) s) (sym h))

  two_at : (f : SlotFunction) (xs : List Val) (a b : Val) (w : State) (s : ℕ) → Some (a, b) ≡ two_of xs → slot_applied ev env f (slot_designated a b) w s ≡ slot_called ev env f xs w s
  two_at f [] a b w s e = absurd (cc e)
  two_at f (x ∷ []) a b w s e = absurd (cc e)
  two_at f (x ∷ (y ∷ [])) a b w s e = ap (λ p. slot_applied ev env f (slot_designated p.0 p.1) w s) (ap (λ o. unwrap_or o (x, y)) e)
  two_at f (x ∷ (y ∷ (z ∷ xs))) a b w s e = absurd (cc e)

  pub called_goes : (m n : Machine) (f : SlotFunction) (vs us : List Val) (a b : Val) (p : InstanceId × Name) (w : State) (s : ℕ) (r : Result Doing Stop) (w' : State) (s' : ℕ)
      → Some (a, b) ≡ two_of us → us ≡ vs → slot_designated a b ≡ Ok (p.0.0, p.1) → Turns (inside m (slot_asked ev env f p.0.0 p.1)) w s r n w' s'
      → Turns (inside m (slot_called ev env f vs)) w s r n w' s'
  called_goes m n f vs us a b p w s r w' s' e k d h =
      turns_same (inside m (slot_asked ev env f p.0.0 p.1)) (inside m (slot_called ev env f vs)) w s r n w' s'
      (λ t. ap (λ o. closed (resume m.levels m.context o))
      (ap (λ x. slot_applied ev env f x (at m w) t) (sym d) ∙ two_at f us a b (at m w) t e ∙ ap (λ xs. slot_called ev env f xs (at m w) t) k)) h

  pub called_stops : (m n : Machine) (f : SlotFunction) (vs us : List Val) (a b : Val) (stop : Stop) (w : State) (s : ℕ)
      → Some (a, b) ≡ two_of us → us ≡ vs → DesignatesSlot (slot_designated a b) (Err stop) → Turns (inside m (slot_called ev env f vs)) w s (Err stop) n w s
  called_stops m n f vs us a b Storage w s e k d = (refl, refl)
  called_stops m n f vs us a b (Refused c) w s e k d =
      stops_at_once m n (slot_called ev env f vs) w s c
      (ap (λ xs. slot_called ev env f xs (at m w) s) (sym k) ∙ sym (two_at f us a b (at m w) s e) ∙ ap (λ x. slot_applied ev env f x (at m w) s) d)

  -- ---- a place with other than three arguments

  not_three_at : (xs : List Val) (w : State) (s : ℕ) → None ≡ three_of xs → slot_set ev env xs w s ≡ stopped ProgramError [] w s
  not_three_at [] w s e = refl
  not_three_at (x ∷ []) w s e = refl
  not_three_at (x ∷ (y ∷ [])) w s e = refl
  not_three_at (x ∷ (y ∷ (z ∷ []))) w s e = absurd (cc e)
  not_three_at (x ∷ (y ∷ (z ∷ (u ∷ xs)))) w s e = refl

  pub not_three : (m n : Machine) (vs us : List Val) (c : Condition) (w : State) (s : ℕ) → None ≡ three_of us → us ≡ vs
      → c ≡ record { kind = ProgramError; items = [] } → Turns (inside m (slot_set ev env vs)) w s (Err (Refused c)) n w s
  not_three m n vs us c w s e k h =
      stops_at_once m n (slot_set ev env vs) w s c
      (ap (λ xs. slot_set ev env xs (at m w) s) (sym k) ∙ not_three_at us (at m w) s e ∙ ap (λ d. Stopped d (at m w) s) (sym h))

  three_at : (xs : List Val) (a b x : Val) (w : State) (s : ℕ) → Some (a, (b, x)) ≡ three_of xs → slot_given ev env x (slot_designated a b) w s ≡ slot_set ev env xs w s
  three_at [] a b x w s e = absurd (cc e)
  three_at (y ∷ []) a b x w s e = absurd (cc e)
  three_at (y ∷ (z ∷ [])) a b x w s e = absurd (cc e)
  three_at (y ∷ (z ∷ (u ∷ []))) a b x w s e = ap (λ p. slot_given ev env p.1.1 (slot_designated p.0 p.1.0) w s) (ap (λ o. unwrap_or o (y, (z, u))) e)
  three_at (y ∷ (z ∷ (u ∷ (v ∷ xs)))) a b x w s e = absurd (cc e)

  pub set_goes : (m n : Machine) (vs us : List Val) (a b x y z : Val) (p : InstanceId × Name) (w : State) (s : ℕ) (r : Result Doing Stop) (w' : State) (s' : ℕ)
      → Some (a, (b, x)) ≡ three_of us → us ≡ vs → slot_designated a b ≡ Ok (p.0.0, p.1) → y ≡ x → z ≡ x
      → Turns (inside m (updated ev p.0.0 (slot_put ev env p.0.0 p.1 (Some y) z))) w s r n w' s' → Turns (inside m (slot_set ev env vs)) w s r n w' s'
  set_goes m n vs us a b x y z p w s r w' s' e k d i j h =
      turns_same (inside m (updated ev p.0.0 (slot_put ev env p.0.0 p.1 (Some y) z))) (inside m (slot_set ev env vs)) w s r n w' s'
      (λ t. ap (λ o. closed (resume m.levels m.context o))
      (ap (λ q. updated ev p.0.0 (slot_put ev env p.0.0 p.1 (Some q) z) (at m w) t) i
      ∙ ap (λ q. updated ev p.0.0 (slot_put ev env p.0.0 p.1 (Some x) q) (at m w) t) j
      ∙ ap (λ q. slot_given ev env x q (at m w) t) (sym d) ∙ three_at us a b x (at m w) t e ∙ ap (λ xs. slot_set ev env xs (at m w) t) k)) h

  pub set_stops : (m n : Machine) (vs us : List Val) (a b x : Val) (stop : Stop) (w : State) (s : ℕ)
      → Some (a, (b, x)) ≡ three_of us → us ≡ vs → DesignatesSlot (slot_designated a b) (Err stop) → Turns (inside m (slot_set ev env vs)) w s (Err stop) n w s
  set_stops m n vs us a b x Storage w s e k d = (refl, refl)
  set_stops m n vs us a b x (Refused c) w s e k d =
      stops_at_once m n (slot_set ev env vs) w s c
      (ap (λ xs. slot_set ev env xs (at m w) s) (sym k) ∙ sym (three_at us a b x (at m w) s e) ∙ ap (λ q. slot_given ev env x q (at m w) s) d)

-- ---- a slot is changed

pub none_found : {A B : Type 0} (f : A → B) (o : Option A) (x : Option B) → option_map f o ≡ x → is_some o ≡ false → None ≡ x
none_found f None x e h = e
none_found f (Some a) x e h = absurd (cc h)

pub some_found : {A B : Type 0} (f : A → B) (o : Option A) (x : Option B) → option_map f o ≡ x → is_some o ≡ true → (y : B) × (Some y ≡ x)
some_found f None x e h = absurd (cc h)
some_found f (Some a) x e h = (f a, e)

-- what is done with a slot that is there, or is not
abbrev pub change_at : Machine → InstanceId → Name → Option Val → Val → Run
change_at m id name x v u = slot_changed (meaning m.room) m.context id.0 name x v (slot_found u.store id.0 name) u

pub change_missing : (m n : Machine) (id : InstanceId) (name : Name) (x : Option Val) (v : Val) (w : State) (s : ℕ) (r : Result Doing Stop) → None ≡ slot_found w.store id.0 name
    → Leads (inside m (slot_changed (meaning m.room) m.context id.0 name x v None)) w r n → Turns (inside m (change_at m id name x v)) w s r n w s
change_missing m n id name x v w s r e h =
    turns_of_leads (inside m (change_at m id name x v)) w s r n
    (leads_same (inside m (slot_changed (meaning m.room) m.context id.0 name x v None)) (inside m (change_at m id name x v)) w r n
    (λ t. ap (λ o. inside m (slot_changed (meaning m.room) m.context id.0 name x v o) w t) e) h)

pub change_no_step : (m n : Machine) (id : InstanceId) (name : Name) (x : Option Val) (v : Val) (y : Option Val) (w : State) (s : ℕ) (c : Condition)
    → Some y ≡ slot_found w.store id.0 name → s ≡ 0 → c ≡ record { kind = StepLimit; items = [] } → Turns (inside m (change_at m id name x v)) w s (Err (Refused c)) n w s
change_no_step m n id name x v y w s c e z k =
    stops_at_once m n (change_at m id name x v) w s c
    (ap (λ o. slot_changed (meaning m.room) m.context id.0 name x v o (at m w) s) (sym e) ∙ ap (step_then (slot_stored id.0 name x v) (at m w)) z
    ∙ ap (λ d. Stopped d (at m w) 0) (sym k) ∙ ap (Stopped c (at m w)) (sym z))

one_more : (t : ℕ) → 1 + t ≡ suc t
one_more t = omega arith

pub change_next : (m : Machine) (id : InstanceId) (name : Name) (x : Option Val) (value : Value) (y : Option Val) (w w' : State) (s s' : ℕ)
    → Some y ≡ slot_found w.store id.0 name → s ≡ 1 + s' → w' ≡ record w { store = with_slot id.0 name x w.store }
    → Turns (inside m (change_at m id name x (value_of value))) w s (Ok (Give value)) m w' s'
change_next m id name x value y w w' s s' e z k = (
  1,
  z,
  λ t. ap (λ u. denote m (Give value) u t) k
      ∙ ap (λ o. closed (resume m.levels m.context o))
      (sym (ap (λ o. slot_changed (meaning m.room) m.context id.0 name x (value_of value) o (at m w) (1 + t)) (sym e)
      ∙ ap (step_then (slot_stored id.0 name x (value_of value)) (at m w)) (one_more t))),
)
