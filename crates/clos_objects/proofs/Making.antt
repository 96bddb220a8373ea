-- The making of an instance.
use Rattle.std.proofs.Common.{◌≡◌, ℕ, zero, suc, ◌+◌, ◌*◌, ◌<◌, List, [], ◌∷◌, ◌++◌, Bool, true, false, Option, Some, None, Result, Ok, Err, drop, get_or, length, arith, add-one, refl, ap, sym, subst, ◌∙◌}
use Rattle.std.specs.Prelude.{if◌then◌else◌}
use Rattle.std.proofs.Math.Seq.{drop-cons}
use Rattle.clos_forms.specs.Form.{Form}
use Rattle.lisp_data.specs.Value.{Val, instance}
use Rattle.lisp_data.specs.declared.ids.ClassId.{ClassId}
use Rattle.lisp_data.specs.declared.ids.InstanceId.{InstanceId}
use Rattle.clos_forms.specs.Quotation.{name_value}
use Rattle.clos_defclass.specs.declared.class.DefaultInitarg.{DefaultInitarg}
use Rattle.clos_class.specs.Slots.{Effective}
use Rattle.clos_machine.specs.clos_world.clos_store.Store.{allocated, has_room, next_instance, with_instance}
use Rattle.clos_machine.specs.clos_world.Class.{class_name, effective}
use Rattle.clos_machine.specs.clos_world.World.{State, bound_as, unbound}
use Rattle.clos_machine.specs.clos_world.declared.condition.Condition.{Condition}
use Rattle.clos_machine.specs.clos_world.declared.condition.ConditionKind.TheVariants.{ProgramError, TableLimit, StepLimit}
use Rattle.clos_machine.specs.clos_world.declared.condition.Stop.{Stop}
use Rattle.clos_machine.specs.clos_world.declared.condition.Stop.TheVariants.{Refused, Storage}
use Rattle.clos_machine.specs.clos_meaning.Bodies.{restoring}
use Rattle.clos_machine.specs.clos_meaning.Contexts.{Context, known}
use Rattle.clos_machine.specs.clos_meaning.GenericCalls.{invoked}
use Rattle.clos_machine.specs.clos_meaning.Initialization.{allocate, checked, defaulted, instance_made, making, initialized, invalid_for, invalid_initarg, is_given, made, making_of, methods_reached, reaching}
use Rattle.clos_machine.specs.Machine.{apart, Designates, Leads, Turns, at, inside, resume, default_given, Shrinks, act_weight, given, load, step_weight, value_weight}
use Rattle.clos_machine.specs.clos_meaning.Meaning.{closed, meaning}
use Rattle.clos_machine.specs.clos_meaning.Objects.{designated}
use Rattle.clos_machine.specs.clos_meaning.Parameters.{are_pairs}
use Rattle.clos_machine.specs.clos_meaning.Outcome.{Note, Run, Eval, Stopped, gave, then_do, step_then, stopped}
use Rattle.clos_machine.specs.clos_meaning.Uses.{after_notes, noted}
use Rattle.clos_machine.specs.Uses.{LeadsBy, MadeSome}
use Rattle.clos_machine.specs.clos_world.clos_cache.Uses.{Uses}
use Rattle.clos_machine.specs.declared.finalized.Finalized.{Finalized}
use Rattle.clos_machine.specs.declared.machine.Action.TheVariants.{Initialize}
use Rattle.clos_machine.specs.declared.machine.Doing.{Doing}
use Rattle.clos_machine.specs.declared.machine.Doing.TheVariants.{Act}
use Rattle.clos_machine.specs.declared.machine.Machine.{Machine}
use Rattle.clos_machine.proofs.Runs.{turns_of_leads, stops_at_once, turns_same}
use Rattle.clos_machine.proofs.Turns.{leads_same, stopped_through}
use Rattle.clos_machine.proofs.Uses.{kept_all, leads_noting}
use Rattle.clos_machine.specs.Fault.{TellsCondition}
use Rattle.clos_objects.specs.Objects.{Enters, default_first, ungiven}
use Rattle.clos_objects.proofs.Methods.{leads_refused, reaching_bound}
use Rattle.clos_class.specs.declared.effective_slots.EffectiveSlot.{EffectiveSlot}
use Rattle.clos_method.specs.declared.method.Method.{Method}
use Rattle.clos_method.specs.declared.system.SystemFunction.TheVariants.{InitializeInstance}
use Rattle.lisp_prims.specs.Primitive.{truth}

-- ---- default initargs

module _ (vs : List Val) where
  given_goes : (d : DefaultInitarg) (ds : List DefaultInitarg) → true ≡ is_given vs d → ungiven vs ds ≡ ungiven vs (d ∷ ds)
  given_goes d ds e = ap (λ b. if b then ungiven vs ds else d ∷ ds) e

  given_stays : (d : DefaultInitarg) (ds : List DefaultInitarg) → false ≡ is_given vs d → d ∷ ds ≡ ungiven vs (d ∷ ds)
  given_stays d ds e = ap (λ b. if b then ungiven vs ds else d ∷ ds) e

  pub ungiven_goes : (ds : List DefaultInitarg) (k : ℕ) (d : DefaultInitarg) → k < length ds → d ≡ get_or ds k d → true ≡ is_given vs d
      → ungiven vs (drop (k + 1) ds) ≡ ungiven vs (drop k ds)
  ungiven_goes ds k d p e h =
      ap (λ n. ungiven vs (drop n ds)) (add-one k) ∙ given_goes d (drop (suc k) ds) h ∙ ap (λ x. ungiven vs (x ∷ drop (suc k) ds)) e ∙ ap (ungiven vs) (sym (drop-cons ds k d p))

  pub ungiven_stays : (ds : List DefaultInitarg) (k : ℕ) (d : DefaultInitarg) → k < length ds → d ≡ get_or ds k d → false ≡ is_given vs d → ungiven vs (drop k ds) ≡ drop k ds
  ungiven_stays ds k d p e h =
      let at_k : drop k ds ≡ d ∷ drop (suc k) ds = drop-cons ds k d p ∙ ap (λ x. x ∷ drop (suc k) ds) (sym e) in
      ap (ungiven vs) at_k ∙ sym (given_stays d (drop (suc k) ds) h) ∙ sym at_k

  module _ (ev : Eval) (env : Context) (c : ℕ) (e : Effective) (w : State) (t : ℕ) where
    -- what is done with those that are left
    abbrev expanded : List DefaultInitarg → Run
    expanded [] u k = allocate ev env c e vs u k
    expanded (d ∷ ds) u k = default_first ev env c e (d ∷ ds) vs u k

    by : (b : Bool) (d : DefaultInitarg) (ds : List DefaultInitarg) → b ≡ is_given vs d → defaulted ev env c e ds vs w t ≡ expanded (ungiven vs ds) w t
        → defaulted ev env c e (d ∷ ds) vs w t ≡ expanded (ungiven vs (d ∷ ds)) w t
    by true d ds h r =
        ap (λ b. if b then defaulted ev env c e ds vs w t else default_first ev env c e (d ∷ ds) vs w t) (sym h) ∙ r ∙ ap (λ l. expanded l w t) (given_goes d ds h)
    by false d ds h r =
        ap (λ b. if b then defaulted ev env c e ds vs w t else default_first ev env c e (d ∷ ds) vs w t) (sym h) ∙ ap (λ l. expanded l w t) (given_stays d ds h)

    defaulted_ungiven : (ds : List DefaultInitarg) → defaulted ev env c e ds vs w t ≡ expanded (ungiven vs ds) w t
    defaulted_ungiven [] = refl
    defaulted_ungiven (d ∷ ds) = by (is_given vs d) d ds refl (defaulted_ungiven ds)

    pub defaulted_none : (ds : List DefaultInitarg) → ungiven vs ds ≡ [] → allocate ev env c e vs w t ≡ defaulted ev env c e ds vs w t
    defaulted_none ds h = sym (defaulted_ungiven ds ∙ ap (λ l. expanded l w t) h)

    expanded_first : (all : List DefaultInitarg) (k : ℕ) → k < length all → expanded (drop k all) w t ≡ default_first ev env c e (drop k all) vs w t
    expanded_first [] k p = absurd (omega (arith, p))
    expanded_first (d ∷ all) zero p = refl
    expanded_first (d ∷ all) (suc k) p = expanded_first all k (omega (arith, p))

    pub defaulted_first : (ds all : List DefaultInitarg) (k : ℕ) → k < length all → ungiven vs ds ≡ drop k all
        → default_first ev env c e (drop k all) vs w t ≡ defaulted ev env c e ds vs w t
    defaulted_first ds all k p h = sym (defaulted_ungiven ds ∙ ap (λ l. expanded l w t) h ∙ expanded_first all k p)

-- the first of those from a place on is evaluated
pub first_default : (ev : Eval) (env : Context) (c : ℕ) (e : Effective) (vs : List Val) (w : State) (t : ℕ) (f : Form) (ds : List DefaultInitarg) (k : ℕ) (d : DefaultInitarg)
    → k < length ds → d ≡ get_or ds k d → f ≡ d.form
    → then_do (ev env f w t) (λ v. default_given ev env c e (drop k ds) vs v) ≡ default_first ev env c e (drop k ds) vs w t
first_default ev env c e vs w t f ds k d p q r =
    let at_k : drop k ds ≡ d ∷ drop (suc k) ds = drop-cons ds k d p ∙ ap (λ x. x ∷ drop (suc k) ds) (sym q) in
    ap (λ l. then_do (ev env f w t) (λ v. default_given ev env c e l vs v)) at_k
    ∙ ap (λ g. then_do (ev env g w t) (λ v. default_given ev env c e (d ∷ drop (suc k) ds) vs v)) r ∙ sym (ap (λ l. default_first ev env c e l vs w t) at_k)

-- ---- an instance is made

one_more : (t : ℕ) → 1 + t ≡ suc t
one_more t = omega arith

no_room : (b : Bool) (n : ℕ) → None ≡ (if b then Some n else None) → false ≡ b
no_room true n e = absurd (cc e)
no_room false n e = refl

some_room : (b : Bool) (n i : ℕ) → Some i ≡ (if b then Some n else None) → (true ≡ b) × (i ≡ n)
some_room true n i e = (refl, cc e)
some_room false n i e = absurd (cc e)

module _ (m : Machine) (c : ℕ) (e : Effective) (vs : List Val) where
  abbrev pub allocating : Run
  allocating = allocate (meaning m.room) m.context c e vs

  pub allocate_full : (n : Machine) (d : Condition) (w : State) (s : ℕ) → None ≡ next_instance w.store → d ≡ record { kind = TableLimit; items = [] }
      → Turns (inside m allocating) w s (Err (Refused d)) n w s
  allocate_full n d w s h k =
      stops_at_once m n allocating w s d
      (ap (λ b. if b then step_then (made (meaning m.room) m.context c e vs) (at m w) s else stopped TableLimit [] (at m w) s) (sym (no_room (has_room w.store) _ h))
      ∙ ap (λ x. Stopped x (at m w) s) (sym k))

  has_room_then : (i : InstanceId) (w : State) (s : ℕ) → Some i.0 ≡ next_instance w.store → allocating (at m w) s ≡ step_then (made (meaning m.room) m.context c e vs) (at m w) s
  has_room_then i w s h =
      ap (λ b. if b then step_then (made (meaning m.room) m.context c e vs) (at m w) s else stopped TableLimit [] (at m w) s) (sym (some_room (has_room w.store) _ i.0 h).0)

  pub allocate_no_step : (n : Machine) (i : InstanceId) (d : Condition) (w : State) (s : ℕ) → Some i.0 ≡ next_instance w.store → s ≡ 0 → d ≡ record { kind = StepLimit; items = [] }
      → Turns (inside m allocating) w s (Err (Refused d)) n w s
  allocate_no_step n i d w s h z k =
      stops_at_once m n allocating w s d
      (has_room_then i w s h ∙ ap (step_then (made (meaning m.room) m.context c e vs) (at m w)) z ∙ ap (λ x. Stopped x (at m w) 0) (sym k) ∙ ap (Stopped d (at m w)) (sym z))

  pub room_for : (i : InstanceId) (w : State) → Some i.0 ≡ next_instance w.store → has_room w.store ≡ true
  room_for i w h = sym (some_room (has_room w.store) _ i.0 h).0

  after_step : (i : InstanceId) (w w' : State) (t : ℕ) → Some i.0 ≡ next_instance w.store → w' ≡ record w { store = with_instance (allocated c e.layout) w.store }
      → inside m (checked (meaning m.room) c e vs i.0) w' t ≡ inside m allocating w (1 + t)
  after_step i w w' t h k =
      let made_in : State = record (at m w) { store = with_instance (allocated c e.layout) w.store } in
      ap (λ u. inside m (checked (meaning m.room) c e vs i.0) u t) k
      ∙ ap (λ j. closed (resume m.levels m.context (checked (meaning m.room) c e vs j made_in t))) (some_room (has_room w.store) _ i.0 h).1
      ∙ sym (ap (λ o. closed (resume m.levels m.context o)) (has_room_then i w (1 + t) h ∙ ap (step_then (made (meaning m.room) m.context c e vs) (at m w)) (one_more t)))

pub allocate_goes : (m : Machine) (class : ClassId) (e : Finalized) (vs : List Val) (i : InstanceId) (w w' : State) (s s' : ℕ) → Some i.0 ≡ next_instance w.store → s ≡ 1 + s'
    → w' ≡ record w { store = with_instance (allocated class.0 e.layout) w.store } → Turns (inside m (allocating m class.0 e vs)) w s (Ok (Act (Initialize class e i) vs)) m w' s'
allocate_goes m class e vs i w w' s s' h z k = (1, z, λ t. after_step m class.0 e vs i w w' t h k)

-- ---- an instance that was made is initialized

module _ (m n : Machine) (ev : Eval) (c : ℕ) (e : Effective) (vs : List Val) (i : ℕ) (w : State) where
  -- the leftmost initarg that is not valid
  abbrev pub wrong_new : Option Val
  wrong_new = invalid_initarg w.generics.methods (methods_reached w InitializeInstance (instance i ∷ []) i (truth true)) e.slots vs

  -- the same, of what is at hand
  pub new_given : (methods : List Method) (ms : List ℕ) (names : Val) (slots : List EffectiveSlot) (us : List Val) → methods ≡ w.generics.methods → ms ≡ methods_reached w InitializeInstance (instance i ∷ []) i names
      → names ≡ truth true → slots ≡ e.slots → us ≡ vs → invalid_initarg methods ms slots us ≡ wrong_new
  new_given methods ms names slots us h k l j q =
      ap (λ x. invalid_initarg x ms slots us) h
      ∙ ap (λ x. invalid_initarg w.generics.methods x slots us) (k ∙ ap (methods_reached w InitializeInstance (instance i ∷ []) i) l)
      ∙ ap (λ x. invalid_initarg w.generics.methods (methods_reached w InitializeInstance (instance i ∷ []) i (truth true)) x us) j
      ∙ ap (invalid_initarg w.generics.methods (methods_reached w InitializeInstance (instance i ∷ []) i (truth true)) e.slots) q

  abbrev reached : List Note
  reached = reaching w InitializeInstance (instance i ∷ []) i (truth true)

  module _ (u u' : Uses) where
    checks : (t : ℕ) → checked ev c e vs i (at m w) t ≡ noted reached (initialized ev c vs i wrong_new (at m w) t)
    checks t = ap (λ ns. noted ns (initialized ev c vs i wrong_new (at m w) t)) (reaching_bound m.locals w InitializeInstance (instance i ∷ []) i (truth true))

    pub invalid_new : (k : Val) (stop : Stop) → Some k ≡ wrong_new → TellsCondition (invalid_for k (class_name w.classes c)) stop → u' ≡ after_notes reached u
        → LeadsBy (inside m (checked ev c e vs i)) w u (Err stop) n u'
    invalid_new k stop h d q =
        leads_noting m (checked ev c e vs i) (initialized ev c vs i wrong_new) reached w u u' (Err stop) n checks (refusing stop d) (kept_all {A = Doing} reached (Err stop) u u' q)
      where
        refusing : (x : Stop) → TellsCondition (invalid_for k (class_name w.classes c)) x → Leads (inside m (initialized ev c vs i wrong_new)) w (Err x) n
        refusing Storage y = tt
        refusing (Refused z) y = leads_refused m n w (initialized ev c vs i wrong_new) z (invalid_for k (class_name w.classes c))
            (λ t. ap (λ o. initialized ev c vs i o (at m w) t) (sym h)) y

    pub valid_new : (r : Result Doing Stop) → None ≡ wrong_new → u' ≡ after_notes reached u
        → Leads (inside m (λ v k. then_do (invoked ev InitializeInstance (instance i ∷ vs) v k) (λ x. gave (instance i)))) w r n → LeadsBy (inside m (checked ev c e vs i)) w u r n u'
    valid_new r h q l =
        leads_noting m (checked ev c e vs i) (initialized ev c vs i wrong_new) reached w u u' r n checks
        (leads_same (inside m (initialized ev c vs i None)) (inside m (initialized ev c vs i wrong_new)) w r n (λ t. ap (λ o. inside m (initialized ev c vs i o) w t) h) l)
        (kept_all reached r u u' q)

    -- memory was refused, for the methods or after they were there
    pub storage_new : (names : Val) → names ≡ truth true → MadeSome (reaching w InitializeInstance (instance i ∷ []) i names) u u'
        → LeadsBy (inside m (checked ev c e vs i)) w u (Err Storage) n u'
    storage_new names k q =
        leads_noting m (checked ev c e vs i) (initialized ev c vs i wrong_new) reached w u u' (Err Storage) n checks tt
        (subst (λ x. MadeSome (reaching w InitializeInstance (instance i ∷ []) i x) u u') k q)

    pub storage_initialized : u' ≡ after_notes reached u → LeadsBy (inside m (checked ev c e vs i)) w u (Err Storage) n u'
    storage_initialized q = storage_new (truth true) refl (kept_all {A = Doing} reached (Err Storage) u u' q)

-- ---- within a body without variables

-- what is left to do is less, though a frame came on top
pub within_less : (m n k : Machine) (s s' : ℕ) (r : Result Doing Stop) → Enters m n → Shrinks value_weight s s' n.levels r k → Shrinks act_weight s s' m.levels r k
within_less m n k s s' (Ok d) e h =
    let g : step_weight * s' + (load k.levels + given d) < step_weight * s + ((1 + load m.levels) + value_weight) = subst (λ x. Shrinks value_weight s s' x.levels (Ok d) k) e h in
    omega (arith, g)
within_less m n k s s' (Err stop) e h = tt

module _ (m n k : Machine) (vs : List Val) (c : ℕ) (e : Effective) (w : State) (s : ℕ) (r : Result Doing Stop) where
  pub makes_at_once : (w' : State) (s' : ℕ) → Enters m n → ungiven vs e.defaults ≡ [] → Turns (inside n (allocate (meaning n.room) n.context c e vs)) w s r k w' s'
      → Turns (inside m (making_of (meaning m.room) vs c (Some e))) w s r k w' s'
  makes_at_once w' s' h g l =
      turns_same (inside (apart m (known [])) (allocate (meaning m.room) (known []) c e vs))
      (inside m (making_of (meaning m.room) vs c (Some e))) w s r k w' s'
      (λ t. ap (λ o. closed (resume m.levels m.context (then_do o (restoring m.locals)))) (defaulted_none vs (meaning m.room) (known []) c e (bound_as [] w) t e.defaults g))
      (subst (λ x. Turns (inside x (allocate (meaning x.room) x.context c e vs)) w s r k w' s') h l)

  pub makes_after : (p : ℕ) → Enters m n → p < length e.defaults → ungiven vs e.defaults ≡ drop p e.defaults
      → Leads (inside n (default_first (meaning n.room) n.context c e (drop p e.defaults) vs)) w r k
      → Turns (inside m (making_of (meaning m.room) vs c (Some e))) w s r k w s
  makes_after p h q g l =
      turns_of_leads (inside m (making_of (meaning m.room) vs c (Some e))) w s r k
      (leads_to (subst (λ x. Leads (inside x (default_first (meaning x.room) x.context c e (drop p e.defaults) vs)) w r k) h l))
    where
      same_at : (t : ℕ) → inside (apart m (known []))
          (default_first (meaning m.room) (known []) c e (drop p e.defaults) vs) w t ≡ inside m (making_of (meaning m.room) vs c (Some e)) w t
      same_at t =
          ap (λ o. closed (resume m.levels m.context (then_do o (restoring m.locals))))
          (defaulted_first vs (meaning m.room) (known []) c e (bound_as [] w) t e.defaults e.defaults p q g)

      leads_to : Leads (inside (apart m (known []))
          (default_first (meaning m.room) (known []) c e (drop p e.defaults) vs)) w r k → Leads (inside m (making_of (meaning m.room) vs c (Some e))) w r k
      leads_to x = leads_same (inside (apart m (known []))
          (default_first (meaning m.room) (known []) c e (drop p e.defaults) vs)) (inside m (making_of (meaning m.room) vs c (Some e))) w r k same_at x

-- ---- make-instance

module _ (m n : Machine) (ev : Eval) (w : State) (s : ℕ) where
  pub no_class : (vs : List Val) (d : Condition) → vs ≡ [] → d ≡ record { kind = ProgramError; items = [] } → Turns (inside m (instance_made ev vs)) w s (Err (Refused d)) n w s
  no_class vs d e k =
      stops_at_once m n (instance_made ev vs) w s d (ap (λ l. instance_made ev l (at m w) s) e ∙ ap (λ x. Stopped x (at m w) s) (sym k))

  pub not_pairs : (v : Val) (vs us : List Val) (d : Condition) → false ≡ are_pairs us → us ≡ vs → d ≡ record { kind = ProgramError; items = [] }
      → Turns (inside m (instance_made ev (v ∷ vs))) w s (Err (Refused d)) n w s
  not_pairs v vs us d e h k =
      stops_at_once m n (instance_made ev (v ∷ vs)) w s d
      (ap (λ b. if b then making ev vs (designated w.classes v) (at m w) s else stopped ProgramError [] (at m w) s) (sym (e ∙ ap are_pairs h)) ∙ ap (λ x. Stopped x (at m w) s) (sym k))

  pub undesignated : (v : Val) (vs us : List Val) (stop : Stop) → true ≡ are_pairs us → us ≡ vs → Designates (designated w.classes v) (Err stop)
      → Turns (inside m (instance_made ev (v ∷ vs))) w s (Err stop) n w s
  undesignated v vs us Storage e h d = (refl, refl)
  undesignated v vs us (Refused c) e h d =
      stops_at_once m n (instance_made ev (v ∷ vs)) w s c
      (ap (λ b. if b then making ev vs (designated w.classes v) (at m w) s else stopped ProgramError [] (at m w) s) (sym (e ∙ ap are_pairs h))
      ∙ ap (λ x. making ev vs x (at m w) s) d)

  pub not_complete : (vs : List Val) (c : ℕ) (d : Condition) → None ≡ effective w.classes c → d ≡ record { kind = ProgramError; items = [] }
      → Turns (inside m (λ u. making_of ev vs c (effective u.classes c) u)) w s (Err (Refused d)) n w s
  not_complete vs c d e k =
      stops_at_once m n (λ u. making_of ev vs c (effective u.classes c) u) w s d (ap (λ o. making_of ev vs c o (at m w) s) (sym e) ∙ ap (λ x. Stopped x (at m w) s) (sym k))

  pub complete : (vs : List Val) (c : ℕ) (e : Effective) (r : Result Doing Stop) (w' : State) (s' : ℕ) → Some e ≡ effective w.classes c
      → Turns (inside m (making_of ev vs c (Some e))) w s r n w' s' → Turns (inside m (λ u. making_of ev vs c (effective u.classes c) u)) w s r n w' s'
  complete vs c e r w' s' h l =
      turns_same (inside m (making_of ev vs c (Some e))) (inside m (λ u. making_of ev vs c (effective u.classes c) u)) w s r n w' s'
      (λ t. ap (λ o. inside m (making_of ev vs c o) w t) h) l

-- ---- the value of a default initarg

two_more : (vs : List Val) (a b : Val) → (vs ++ a ∷ []) ++ b ∷ [] ≡ vs ++ a ∷ b ∷ []
two_more [] a b = refl
two_more (v ∷ vs) a b = ap (λ l. v ∷ l) (two_more vs a b)

module _ (m n : Machine) (c : ℕ) (e : Effective) (vs : List Val) (v : Val) (w : State) where
  pub nothing_given : (ds : List DefaultInitarg) (d : Condition) → ds ≡ [] → d ≡ record { kind = ProgramError; items = [] }
      → Leads (inside m (default_given (meaning m.room) m.context c e ds vs v)) w (Err (Refused d)) n
  nothing_given ds d h k = λ t.
      ap (λ l. inside m (default_given (meaning m.room) m.context c e l vs v) w t) h
      ∙ stopped_through m.levels m.context (record { kind = ProgramError; items = [] }) (at m w) t ∙ ap (λ x. Stopped x (unbound w) t) (sym k)

  pub one_given : (ds : List DefaultInitarg) (d : DefaultInitarg) (rest : List DefaultInitarg) (us : List Val) (name : Val) (r : Result Doing Stop)
      → ds ≡ d ∷ rest → name ≡ name_value d.name → us ≡ (vs ++ name ∷ []) ++ v ∷ [] → Leads (inside m (defaulted (meaning m.room) m.context c e rest us)) w r n
      → Leads (inside m (default_given (meaning m.room) m.context c e ds vs v)) w r n
  one_given ds d rest us name r h i j l =
      leads_same (inside m (defaulted (meaning m.room) m.context c e rest us)) (inside m (default_given (meaning m.room) m.context c e ds vs v)) w r n
      (λ t. ap (λ x. inside m (defaulted (meaning m.room) m.context c e rest x) w t) (j ∙ two_more vs name v)
      ∙ ap (λ x. inside m (defaulted (meaning m.room) m.context c e rest (vs ++ x ∷ v ∷ [])) w t) i
      ∙ ap (λ x. inside m (default_given (meaning m.room) m.context c e x vs v) w t) (sym h)) l
