-- Instances that change their class, and the system's methods that are told of updates.
use Rattle.std.proofs.Common.{◌≡◌, ℕ, suc, ◌+◌, List, [], ◌∷◌, Bool, true, false, Option, Some, None, Result, Ok, Err, arith, refl, ap, sym, ◌∙◌}
use Rattle.std.specs.Prelude.{IsSome, option_map, unwrap_or, if◌then◌else◌}
use Rattle.lisp_data.specs.Value.{Val}
use Rattle.lisp_data.specs.Value as value
use Rattle.lisp_data.specs.declared.ids.InstanceId.{InstanceId}
use Rattle.lisp_data.specs.declared.value.Value.TheVariants.{Instance}
use Rattle.clos_forms.specs.Form.{Forms, nil}
use Rattle.clos_class.specs.Slots.{Layout}
use Rattle.clos_method.specs.declared.system.SystemFunction.TheVariants.{UpdateInstanceForRedefinedClass, UpdateInstanceForDifferentClass}
use Rattle.clos_machine.specs.clos_world.Class.{layout}
use Rattle.clos_machine.specs.clos_world.clos_store.Store.{has_room, next_instance}
use Rattle.clos_machine.specs.clos_world.clos_store.Update.{with_change}
use Rattle.clos_machine.specs.clos_world.World.{State, class_of_instance}
use Rattle.clos_machine.specs.clos_world.declared.condition.Condition.{Condition}
use Rattle.clos_machine.specs.clos_world.declared.condition.ConditionKind.TheVariants.{ProgramError, StepLimit, TableLimit}
use Rattle.clos_machine.specs.clos_world.declared.condition.Stop.{Stop}
use Rattle.clos_machine.specs.clos_world.declared.condition.Stop.TheVariants.{Refused, Storage}
use Rattle.clos_machine.specs.clos_meaning.ChangeClass.{change_called, changed_by_layout, changed_if, changed_of, changed_to, class_changed, if_there}
use Rattle.clos_machine.specs.clos_meaning.ClassFunctions.{Answer, Tells}
use Rattle.clos_machine.specs.clos_meaning.Meaning.{closed, meaning}
use Rattle.clos_machine.specs.clos_meaning.Objects.{designated}
use Rattle.clos_machine.specs.clos_meaning.Outcome.{Eval, Run, Stopped, stopped}
use Rattle.clos_machine.specs.clos_meaning.Slots.{instance_in}
use Rattle.clos_machine.specs.clos_meaning.SystemMethods.{checked_shared, different, different_from, different_with, new_slots, redefined, system_method_run}
use Rattle.clos_machine.specs.clos_meaning.Updating.{names_listed, updated}
use Rattle.clos_machine.specs.Machine.{Designates, DesignatesInstance, Leads, Turns, at, denote, inside, resume}
use Rattle.clos_machine.specs.Uses.{LeadsBy}
use Rattle.clos_machine.specs.clos_world.clos_cache.Uses.{Uses}
use Rattle.clos_machine.specs.declared.machine.Doing.{Doing}
use Rattle.clos_machine.specs.declared.machine.Doing.TheVariants.{Invoke}
use Rattle.clos_machine.specs.declared.machine.Frame.TheVariants.{Keep}
use Rattle.clos_machine.specs.declared.machine.Machine.{Machine}
use Rattle.clos_machine.proofs.Runs.{stops_at_once, turns_same}
use Rattle.clos_machine.proofs.Turns.{leads_same}
use Rattle.clos_machine.proofs.Uses.{leads_by_same}
use Rattle.clos_objects.specs.Objects.{current_and_initargs, names_and_initargs}
use Rattle.clos_objects.proofs.Methods.{leads_refused, leads_stops, no_instance}

-- ---- update-instance-for-redefined-class

module _ (m n : Machine) (ev : Eval) (v : Val) (w : State) where
  few_at : (rest : List Val) (t : ℕ) → None ≡ names_and_initargs rest → system_method_run ev UpdateInstanceForRedefinedClass (v ∷ rest) (at m w) t ≡ stopped ProgramError [] (at m w) t
  few_at [] t e = refl
  few_at (a ∷ []) t e = refl
  few_at (a ∷ (b ∷ [])) t e = refl
  few_at (a ∷ (b ∷ (c ∷ xs))) t e = absurd (cc e)

  four_at : (rest : List Val) (p : Val × List Val) (t : ℕ) → Some p ≡ names_and_initargs rest
      → redefined ev (v ∷ rest) p.0 p.1 (instance_in v) (at m w) t ≡ system_method_run ev UpdateInstanceForRedefinedClass (v ∷ rest) (at m w) t
  four_at [] p t e = absurd (cc e)
  four_at (a ∷ []) p t e = absurd (cc e)
  four_at (a ∷ (b ∷ [])) p t e = absurd (cc e)
  four_at (a ∷ (b ∷ (c ∷ xs))) p t e =
      ap (λ q. redefined ev (v ∷ a ∷ b ∷ c ∷ xs) q.0 q.1 (instance_in v) (at m w) t) (ap (λ o. unwrap_or o (a, xs)) e)

  module _ (us rest : List Val) (e : us ≡ v ∷ rest) where
    abbrev pub redefining : Run
    redefining = system_method_run ev UpdateInstanceForRedefinedClass us

    pub redefined_few : (c : Condition) → None ≡ names_and_initargs rest → c ≡ record { kind = ProgramError; items = [] } → Leads (inside m redefining) w (Err (Refused c)) n
    redefined_few c h k =
        leads_refused m n w redefining c (record { kind = ProgramError; items = [] })
        (λ t. ap (λ x. system_method_run ev UpdateInstanceForRedefinedClass x (at m w) t) e ∙ few_at rest t h) k

    module _ (p : Val × List Val) (h : Some p ≡ names_and_initargs rest) where
      runs : (t : ℕ) → redefined ev (v ∷ rest) p.0 p.1 (instance_in v) (at m w) t ≡ redefining (at m w) t
      runs t = four_at rest p t h ∙ ap (λ x. system_method_run ev UpdateInstanceForRedefinedClass x (at m w) t) (sym e)

      pub redefined_none : (stop : Stop) → DesignatesInstance (instance_in v) (Err stop) → Leads (inside m redefining) w (Err stop) n
      redefined_none stop d =
          leads_same (inside m (redefined ev (v ∷ rest) p.0 p.1 (instance_in v))) (inside m redefining) w (Err stop) n (λ t. ap (λ o. closed (resume m.levels m.context o)) (runs t))
          (no_instance m n w (redefined ev (v ∷ rest) p.0 p.1) (instance_in v) stop (λ c t. refl) d)

      pub redefined_goes : (xs : List Val) (i : ℕ) (r : Result Doing Stop) (u u' : Uses) → xs ≡ us → instance_in v ≡ Ok i
          → LeadsBy (inside m (checked_shared ev UpdateInstanceForRedefinedClass xs p.0 p.1 i)) w u r n u' → LeadsBy (inside m redefining) w u r n u'
      redefined_goes xs i r u u' k d l =
          leads_by_same (inside m (checked_shared ev UpdateInstanceForRedefinedClass xs p.0 p.1 i)) w u u' r n (inside m redefining)
          (λ t. ap (λ o. closed (resume m.levels m.context o))
          (ap (λ x. checked_shared ev UpdateInstanceForRedefinedClass x p.0 p.1 i (at m w) t) (k ∙ e)
          ∙ ap (λ x. redefined ev (v ∷ rest) p.0 p.1 x (at m w) t) (sym d) ∙ runs t)) l

-- ---- update-instance-for-different-class

module _ (m n : Machine) (ev : Eval) (v : Val) (w : State) where
  none_at : (rest : List Val) (t : ℕ) → None ≡ current_and_initargs rest → system_method_run ev UpdateInstanceForDifferentClass (v ∷ rest) (at m w) t ≡ stopped ProgramError [] (at m w) t
  none_at [] t e = refl
  none_at (a ∷ xs) t e = absurd (cc e)

  two_at : (rest : List Val) (p : Val × List Val) (t : ℕ) → Some p ≡ current_and_initargs rest
      → different ev v p.0 p.1 (instance_in v) (at m w) t ≡ system_method_run ev UpdateInstanceForDifferentClass (v ∷ rest) (at m w) t
  two_at [] p t e = absurd (cc e)
  two_at (a ∷ xs) p t e = ap (λ q. different ev v q.0 q.1 (instance_in v) (at m w) t) (ap (λ o. unwrap_or o (a, xs)) e)

  rest_is : (rest : List Val) (p : Val × List Val) → Some p ≡ current_and_initargs rest → v ∷ rest ≡ v ∷ p.0 ∷ p.1
  rest_is [] p e = absurd (cc e)
  rest_is (a ∷ xs) p e = ap (λ q. v ∷ q.0 ∷ q.1) (sym (ap (λ o. unwrap_or o (a, xs)) e))

  module _ (us rest : List Val) (e : us ≡ v ∷ rest) where
    abbrev pub differing : Run
    differing = system_method_run ev UpdateInstanceForDifferentClass us

    pub different_few : (c : Condition) → None ≡ current_and_initargs rest → c ≡ record { kind = ProgramError; items = [] } → Leads (inside m differing) w (Err (Refused c)) n
    different_few c h k =
        leads_refused m n w differing c (record { kind = ProgramError; items = [] })
        (λ t. ap (λ x. system_method_run ev UpdateInstanceForDifferentClass x (at m w) t) e ∙ none_at rest t h) k

    module _ (p : Val × List Val) (h : Some p ≡ current_and_initargs rest) where
      differs : (t : ℕ) → different ev v p.0 p.1 (instance_in v) (at m w) t ≡ differing (at m w) t
      differs t = two_at rest p t h ∙ ap (λ x. system_method_run ev UpdateInstanceForDifferentClass x (at m w) t) (sym e)

      pub different_none : (stop : Stop) → DesignatesInstance (instance_in v) (Err stop) → Leads (inside m differing) w (Err stop) n
      different_none stop d =
          leads_same (inside m (different ev v p.0 p.1 (instance_in v))) (inside m differing) w (Err stop) n (λ t. ap (λ o. closed (resume m.levels m.context o)) (differs t))
          (no_instance m n w (different ev v p.0 p.1) (instance_in v) stop (λ c t. refl) d)

      pub different_goes : (xs : List Val) (copy : ℕ) (r : Result Doing Stop) (u u' : Uses) → xs ≡ us → instance_in v ≡ Ok copy
          → LeadsBy (inside m (different_from ev xs p.1 copy (instance_in p.0))) w u r n u' → LeadsBy (inside m differing) w u r n u'
      different_goes xs copy r u u' k d l =
          leads_by_same (inside m (different_from ev xs p.1 copy (instance_in p.0))) w u u' r n (inside m differing)
          (λ t. ap (λ o. closed (resume m.levels m.context o))
          (ap (λ x. different_from ev x p.1 copy (instance_in p.0) (at m w) t) (k ∙ e ∙ rest_is rest p h)
          ∙ ap (λ x. different ev v p.0 p.1 x (at m w) t) (sym d) ∙ differs t)) l

module _ (m n : Machine) (ev : Eval) (us initargs : List Val) (copy : ℕ) (w : State) where
  -- the second is no instance
  pub current_none : (v : Val) (stop : Stop) → DesignatesInstance (instance_in v) (Err stop) → Leads (inside m (different_from ev us initargs copy (instance_in v))) w (Err stop) n
  current_none v stop d = no_instance m n w (different_from ev us initargs copy) (instance_in v) stop (λ c t. refl) d

  pub current_there : (v : Val) (i : ℕ) (r : Result Doing Stop) (k k' : Uses) → instance_in v ≡ Ok i
      → LeadsBy (inside m (λ u. different_with ev us initargs i (names_listed (new_slots u copy i)) u)) w k r n k' → LeadsBy (inside m (different_from ev us initargs copy (instance_in v))) w k r n k'
  current_there v i r k k' d l =
      leads_by_same (inside m (λ u. different_with ev us initargs i (names_listed (new_slots u copy i)) u)) w k k' r n (inside m (different_from ev us initargs copy (instance_in v)))
      (λ t. ap (λ x. inside m (different_from ev us initargs copy x) w t) (sym d)) l

  module _ (i : ℕ) where
    abbrev pub with_names : Run
    with_names u = different_with ev us initargs i (names_listed (new_slots u copy i)) u

    pub names_refused : (x : Answer) (stop : Stop) → x ≡ names_listed (new_slots w copy i) → Tells x (Err stop) → Leads (inside m with_names) w (Err stop) n
    names_refused x Storage e h = tt
    names_refused x (Refused c) e h = leads_stops m n w with_names c (λ t. ap (λ y. different_with ev us initargs i y (at m w) t) (sym e ∙ h))

    pub names_there : (x : Answer) (names : Val) (r : Result Doing Stop) (k k' : Uses) → x ≡ names_listed (new_slots w copy i) → x ≡ Ok names
        → LeadsBy (inside m (checked_shared ev UpdateInstanceForDifferentClass us names initargs i)) w k r n k' → LeadsBy (inside m with_names) w k r n k'
    names_there x names r k k' e h l =
        leads_by_same (inside m (checked_shared ev UpdateInstanceForDifferentClass us names initargs i)) w k k' r n (inside m with_names)
        (λ t. ap (λ y. inside m (different_with ev us initargs i y) w t) (sym h ∙ e)) l

-- ---- change-class

module _ (m n : Machine) (ev : Eval) (w : State) (s : ℕ) where
  pub change_none : (vs : List Val) (c : Condition) → vs ≡ [] → c ≡ record { kind = ProgramError; items = [] } → Turns (inside m (change_called ev vs)) w s (Err (Refused c)) n w s
  change_none vs c e k = stops_at_once m n (change_called ev vs) w s c (ap (λ l. change_called ev l (at m w) s) e ∙ ap (λ x. Stopped x (at m w) s) (sym k))

  pub change_one : (vs us : List Val) (v : Val) (c : Condition) → vs ≡ v ∷ us → us ≡ [] → c ≡ record { kind = ProgramError; items = [] } → Turns (inside m (change_called ev vs)) w s (Err (Refused c)) n w s
  change_one vs us v c e h k =
      stops_at_once m n (change_called ev vs) w s c
      (ap (λ l. change_called ev l (at m w) s) (e ∙ ap (λ l. v ∷ l) h) ∙ ap (λ x. Stopped x (at m w) s) (sym k))

  pub change_two : (vs us initargs : List Val) (v class : Val) (r : Result Doing Stop) (w' : State) (s' : ℕ) → vs ≡ v ∷ us → us ≡ class ∷ initargs
      → Turns (inside m (changed_of ev class initargs (instance_in v))) w s r n w' s' → Turns (inside m (change_called ev vs)) w s r n w' s'
  change_two vs us initargs v class r w' s' e h l =
      turns_same (inside m (changed_of ev class initargs (instance_in v))) (inside m (change_called ev vs)) w s r n w' s'
      (λ t. ap (λ x. inside m (change_called ev x) w t) (sym (e ∙ ap (λ x. v ∷ x) h))) l

  module _ (class : Val) (initargs : List Val) where
    pub change_no_instance : (v : Val) (stop : Stop) → DesignatesInstance (instance_in v) (Err stop) → Turns (inside m (changed_of ev class initargs (instance_in v))) w s (Err stop) n w s
    change_no_instance v Storage d = (refl, refl)
    change_no_instance v (Refused c) d =
        stops_at_once m n (changed_of ev class initargs (instance_in v)) w s c (ap (λ x. changed_of ev class initargs x (at m w) s) d)

    pub change_no_class : (v : Val) (i : ℕ) (stop : Stop) → instance_in v ≡ Ok i → Designates (designated w.classes class) (Err stop)
        → Turns (inside m (changed_of ev class initargs (instance_in v))) w s (Err stop) n w s
    change_no_class v i Storage e d = (refl, refl)
    change_no_class v i (Refused c) e d =
        stops_at_once m n (changed_of ev class initargs (instance_in v)) w s c
        (ap (λ x. changed_of ev class initargs x (at m w) s) e ∙ ap (λ x. changed_if ev i initargs x (at m w) s) d)

    pub change_goes : (v : Val) (i c : ℕ) (r : Result Doing Stop) (w' : State) (s' : ℕ) → instance_in v ≡ Ok i → designated w.classes class ≡ Ok c
        → Turns (inside m (updated ev i (changed_to ev i c initargs))) w s r n w' s' → Turns (inside m (changed_of ev class initargs (instance_in v))) w s r n w' s'
    change_goes v i c r w' s' e d l =
        turns_same (inside m (updated ev i (changed_to ev i c initargs))) (inside m (changed_of ev class initargs (instance_in v))) w s r n w' s'
        (λ t. ap (λ o. closed (resume m.levels m.context o))
        (ap (λ x. changed_if ev i initargs x (at m w) t) (sym d) ∙ ap (λ x. changed_of ev class initargs x (at m w) t) (sym e))) l

no_room : (b : Bool) (k : ℕ) → None ≡ (if b then Some k else None) → false ≡ b
no_room true k e = absurd (cc e)
no_room false k e = refl

some_room : (b : Bool) (k i : ℕ) → Some i ≡ (if b then Some k else None) → (true ≡ b) × (i ≡ k)
some_room true k i e = (refl, cc e)
some_room false k i e = absurd (cc e)

pub is_there : {A B : Type 0} (f : A → B) (o : Option A) (x : B) → Some x ≡ option_map f o → IsSome o
is_there f None x e = absurd (cc e)
is_there f (Some a) x e = refl

one_more : (t : ℕ) → 1 + t ≡ suc t
one_more t = omega arith

module _ (m n : Machine) (ev : Eval) (i c : ℕ) (vs : List Val) (w : State) (s : ℕ) where
  abbrev pub changing : Run
  changing = changed_to ev i c vs

  abbrev found : Option Layout
  found = if_there (class_of_instance w i) (layout w.classes c)

  pub change_full : (d : Condition) → None ≡ next_instance w.store → d ≡ record { kind = TableLimit; items = [] } → Turns (inside m changing) w s (Err (Refused d)) n w s
  change_full d h k =
      stops_at_once m n changing w s d
      (ap (λ b. if b then changed_by_layout ev i c vs found (at m w) s else stopped TableLimit [] (at m w) s) (sym (no_room (has_room w.store) _ h))
      ∙ ap (λ x. Stopped x (at m w) s) (sym k))

  room_at : (copy : ℕ) (t : ℕ) → Some copy ≡ next_instance w.store → changed_by_layout ev i c vs found (at m w) t ≡ changing (at m w) t
  room_at copy t h = ap (λ b. if b then changed_by_layout ev i c vs found (at m w) t else stopped TableLimit [] (at m w) t) (some_room (has_room w.store) _ copy h).0

  pub change_no_layout : (copy : ℕ) (d : Condition) → Some copy ≡ next_instance w.store → None ≡ found → d ≡ record { kind = ProgramError; items = [] }
      → Turns (inside m changing) w s (Err (Refused d)) n w s
  change_no_layout copy d h e k =
      stops_at_once m n changing w s d
      (sym (room_at copy s h) ∙ ap (λ o. changed_by_layout ev i c vs o (at m w) s) (sym e) ∙ ap (λ x. Stopped x (at m w) s) (sym k))

  pub change_laid_out : (copy : ℕ) (l : Layout) (r : Result Doing Stop) (w' : State) (s' : ℕ) → Some copy ≡ next_instance w.store → Some l ≡ found
      → Turns (inside m (class_changed ev i c l vs)) w s r n w' s' → Turns (inside m changing) w s r n w' s'
  change_laid_out copy l r w' s' h e x =
      turns_same (inside m (class_changed ev i c l vs)) (inside m changing) w s r n w' s'
      (λ t. ap (λ o. closed (resume m.levels m.context o)) (ap (λ o. changed_by_layout ev i c vs o (at m w) t) e ∙ room_at copy t h)) x

  pub change_no_step : (l : Layout) (d : Condition) → s ≡ 0 → d ≡ record { kind = StepLimit; items = [] } → Turns (inside m (class_changed ev i c l vs)) w s (Err (Refused d)) n w s
  change_no_step l d z k =
      stops_at_once m n (class_changed ev i c l vs) w s d (ap (class_changed ev i c l vs (at m w)) z ∙ ap (λ x. Stopped x (at m w) 0) (sym k) ∙ ap (Stopped d (at m w)) (sym z))

-- the instance is of its new class, and its copy is there
pub change_made : (m n : Machine) (id copy : InstanceId) (c : ℕ) (l : Layout) (fs : Forms) (vs us : List Val) (w w' : State) (s s' : ℕ)
    → n ≡ record m { levels = (record { frame = Keep fs (Instance id); room = m.room }) ∷ m.levels } → fs ≡ nil → Some copy.0 ≡ next_instance w.store
    → us ≡ value.instance copy.0 ∷ value.instance id.0 ∷ vs → s ≡ 1 + s' → w' ≡ record w { store = with_change id.0 c l w.store }
    → Turns (inside m (class_changed (meaning m.room) id.0 c l vs)) w s (Ok (Invoke UpdateInstanceForDifferentClass us)) n w' s'
change_made m n id copy c l fs vs us w w' s s' e f h u z k = (
  1,
  z,
  λ t. ap (λ x. denote x (Invoke UpdateInstanceForDifferentClass us) w' t) (e ∙ ap (λ x. record m { levels = (record { frame = Keep x (Instance id); room = m.room }) ∷ m.levels }) f)
      ∙ ap (λ x. denote kept (Invoke UpdateInstanceForDifferentClass us) x t) k
      ∙ ap (λ x. denote kept (Invoke UpdateInstanceForDifferentClass x) (record w { store = with_change id.0 c l w.store }) t)
      (u ∙ ap (λ j. value.instance j ∷ value.instance id.0 ∷ vs) (some_room (has_room w.store) _ copy.0 h).1)
      ∙ sym (ap (λ j. inside m (class_changed (meaning m.room) id.0 c l vs) w j) (one_more t)),
)
  where
    kept : Machine
    kept = record m { levels = (record { frame = Keep nil (Instance id); room = m.room }) ∷ m.levels }
