-- What the system's methods do.
use Rattle.std.proofs.Common.{◌≡◌, ℕ, List, [], ◌∷◌, true, false, Option, Some, None, Result, Ok, Err, refl, ap, sym, subst, ◌∙◌}
use Rattle.std.specs.Prelude.{if◌then◌else◌}
use Rattle.lisp_data.specs.Value.{Val, instance}
use Rattle.clos_class.specs.Slots.{Effective}
use Rattle.clos_class.specs.declared.effective_slots.EffectiveSlot.{EffectiveSlot}
use Rattle.clos_method.specs.System.{system_number}
use Rattle.clos_method.specs.declared.method.Method.{Method}
use Rattle.clos_machine.specs.clos_meaning.Parameters.{are_even}
use Rattle.clos_machine.specs.clos_world.Class.{class_name}
use Rattle.clos_machine.specs.clos_world.Keys.{key_of}
use Rattle.clos_machine.specs.clos_world.World.{Local, State, bound_as}
use Rattle.clos_machine.specs.clos_world.clos_cache.Uses.{Uses}
use Rattle.clos_machine.specs.clos_world.declared.condition.Condition.{Condition}
use Rattle.clos_machine.specs.clos_world.declared.condition.ConditionKind.TheVariants.{ProgramError}
use Rattle.clos_machine.specs.clos_world.declared.condition.Stop.{Stop}
use Rattle.clos_machine.specs.clos_world.declared.condition.Stop.TheVariants.{Refused, Storage}
use Rattle.clos_method.specs.declared.system.SystemFunction.{SystemFunction}
use Rattle.clos_method.specs.declared.system.SystemFunction.TheVariants.{InitializeInstance, ReinitializeInstance, SharedInitialize, UpdateInstanceForRedefinedClass, UpdateInstanceForDifferentClass, SlotUnbound, SlotMissing, NoApplicableMethod, NoNextMethod}
use Rattle.clos_machine.specs.clos_meaning.ClassFunctions.{wrong_type}
use Rattle.clos_machine.specs.clos_meaning.Filling.{are_slot_names}
use Rattle.clos_machine.specs.clos_meaning.Initialization.{invalid_for, invalid_initarg, methods_reached, reaching}
use Rattle.clos_machine.specs.Machine.{DesignatesInstance, Leads, Turns, at, inside, resume, initargs_in, names_in}
use Rattle.clos_machine.specs.clos_meaning.Meaning.{closed}
use Rattle.clos_machine.specs.clos_meaning.Outcome.{Eval, Run, Stopped, stopped, used}
use Rattle.clos_machine.specs.clos_meaning.Uses.{after_notes, noted}
use Rattle.clos_machine.specs.Uses.{LeadsBy, MadeSome}
use Rattle.clos_machine.specs.clos_meaning.Slots.{instance_in}
use Rattle.clos_machine.specs.clos_meaning.SystemMethods.{checked_shared, class_in, filled_as, if_valid, initialize_slots, shared_if_valid, shared_initialize, shared_initialized, slots_filled, system_method_run}
use Rattle.clos_machine.specs.clos_meaning.Updating.{updated}
use Rattle.clos_machine.specs.declared.machine.Doing.{Doing}
use Rattle.clos_machine.specs.declared.machine.Machine.{Machine}
use Rattle.clos_machine.proofs.Runs.{turns_same}
use Rattle.clos_machine.proofs.Turns.{leads_same, stopped_through}
use Rattle.clos_machine.proofs.Uses.{kept_all, key_bound, leads_noting}
use Rattle.clos_machine.specs.Fault.{TellsCondition}

-- variables are no part of what initargs reach
pub reaching_bound : (ls : List Local) (w : State) (f : SystemFunction) (vs : List Val) (i : ℕ) (names : Val)
    → reaching (bound_as ls w) f vs i names ≡ reaching w f vs i names
reaching_bound ls w f vs i names =
    ap (λ k. used k ∷ used (key_of (bound_as ls w) (system_number SharedInitialize) (instance i ∷ names ∷ [])) ∷ []) (key_bound ls w (system_number f) vs)
    ∙ ap (λ k. used (key_of w (system_number f) vs) ∷ used k ∷ []) (key_bound ls w (system_number SharedInitialize) (instance i ∷ names ∷ []))

module _ (m n : Machine) (w : State) where
  -- a run that stops at once
  pub leads_stops : (run : Run) (c : Condition) → ((t : ℕ) → run (at m w) t ≡ Stopped c (at m w) t) → Leads (inside m run) w (Err (Refused c)) n
  leads_stops run c h = λ t. ap (λ o. closed (resume m.levels m.context o)) (h t) ∙ stopped_through m.levels m.context c (at m w) t

  pub leads_refused : (run : Run) (c d : Condition) → ((t : ℕ) → run (at m w) t ≡ Stopped d (at m w) t) → c ≡ d → Leads (inside m run) w (Err (Refused c)) n
  leads_refused run c d h e = leads_stops run c (λ t. h t ∙ ap (λ x. Stopped x (at m w) t) (sym e))

  -- what is no instance
  pub no_instance : (go : Result ℕ Condition → Run) (d : Result ℕ Condition) (stop : Stop) → ((c : Condition) (t : ℕ) → go (Err c) (at m w) t ≡ Stopped c (at m w) t)
      → DesignatesInstance d (Err stop) → Leads (inside m (go d)) w (Err stop) n
  no_instance go d Storage h e = tt
  no_instance go d (Refused c) h e = leads_stops (go d) c (λ t. ap (λ x. go x (at m w) t) e ∙ h c t)

  -- ---- no arguments

  none_at : (ev : Eval) (f : SystemFunction) (t : ℕ) → system_method_run ev f [] (at m w) t ≡ stopped ProgramError [] (at m w) t
  none_at ev InitializeInstance t = refl
  none_at ev ReinitializeInstance t = refl
  none_at ev SharedInitialize t = refl
  none_at ev SlotUnbound t = refl
  none_at ev SlotMissing t = refl
  none_at ev NoApplicableMethod t = refl
  none_at ev NoNextMethod t = refl
  none_at ev UpdateInstanceForRedefinedClass t = refl
  none_at ev UpdateInstanceForDifferentClass t = refl

  pub no_arguments : (ev : Eval) (f : SystemFunction) (vs : List Val) (c : Condition) → vs ≡ [] → c ≡ record { kind = ProgramError; items = [] }
      → Leads (inside m (system_method_run ev f vs)) w (Err (Refused c)) n
  no_arguments ev f vs c e k =
      leads_refused (system_method_run ev f vs) c (record { kind = ProgramError; items = [] }) (λ t. ap (λ x. system_method_run ev f x (at m w) t) e ∙ none_at ev f t) k

  -- ---- shared-initialize, for initargs that are checked

  module _ (ev : Eval) (f : SystemFunction) (us : List Val) (names : Val) (vs : List Val) (i : ℕ) where
    abbrev pub sharing : Run
    sharing = checked_shared ev f us names vs i

    pub no_class_to_share : (c : Condition) → None ≡ class_in w i → c ≡ record { kind = ProgramError; items = [] } → Leads (inside m sharing) w (Err (Refused c)) n
    no_class_to_share c e k = leads_refused sharing c (record { kind = ProgramError; items = [] }) (λ t. ap (λ o. shared_if_valid ev f us names vs i o (at m w) t) (sym e)) k

    -- the leftmost initarg that is not valid
    abbrev pub wrong : Effective → Option Val
    wrong e = invalid_initarg w.generics.methods (methods_reached w f us i names) e.slots vs

    pub wrong_given : (e : Effective) (methods : List Method) (ms : List ℕ) (v : Val) (slots : List EffectiveSlot) → methods ≡ w.generics.methods → ms ≡ methods_reached w f us i v
        → v ≡ names → slots ≡ e.slots → invalid_initarg methods ms slots vs ≡ wrong e
    wrong_given e methods ms v slots h k l j =
        ap (λ x. invalid_initarg x ms slots vs) h
        ∙ ap (λ x. invalid_initarg w.generics.methods x slots vs) (k ∙ ap (methods_reached w f us i) l)
        ∙ ap (λ x. invalid_initarg w.generics.methods (methods_reached w f us i names) x vs) j

    module _ (p : ℕ × Effective) (e : Some p ≡ class_in w i) (u u' : Uses) where
      -- what is done once the methods are there that the initargs reach
      abbrev checking : Run
      checking = if_valid p.0 (wrong p.1) (shared_initialized ev i names vs)

      checks : (t : ℕ) → sharing (at m w) t ≡ noted (reaching w f us i names) (checking (at m w) t)
      checks t = ap (λ o. shared_if_valid ev f us names vs i o (at m w) t) (sym e) ∙ ap (λ ns. noted ns (checking (at m w) t)) (reaching_bound m.locals w f us i names)

      pub invalid_shared : (k : Val) (stop : Stop) → Some k ≡ wrong p.1 → TellsCondition (invalid_for k (class_name w.classes p.0)) stop
          → u' ≡ after_notes (reaching w f us i names) u → LeadsBy (inside m sharing) w u (Err stop) n u'
      invalid_shared k stop h d q =
          leads_noting m sharing checking (reaching w f us i names) w u u' (Err stop) n checks (refusing stop d) (kept_all {A = Doing} (reaching w f us i names) (Err stop) u u' q)
        where
          refusing : (x : Stop) → TellsCondition (invalid_for k (class_name w.classes p.0)) x → Leads (inside m checking) w (Err x) n
          refusing Storage y = tt
          refusing (Refused c) y = leads_refused checking c (invalid_for k (class_name w.classes p.0))
              (λ t. ap (λ o. if_valid p.0 o (shared_initialized ev i names vs) (at m w) t) (sym h)) y

      pub valid_shared : (v : Val) (r : Result Doing Stop) → None ≡ wrong p.1 → v ≡ names → u' ≡ after_notes (reaching w f us i names) u
          → Leads (inside m (shared_initialized ev i v vs)) w r n → LeadsBy (inside m sharing) w u r n u'
      valid_shared v r h k q l =
          leads_noting m sharing checking (reaching w f us i names) w u u' r n checks
          (leads_same (inside m (shared_initialized ev i v vs)) (inside m checking) w r n
          (λ t. ap (λ x. inside m (shared_initialized ev i x vs) w t) k ∙ ap (λ o. inside m (if_valid p.0 o (shared_initialized ev i names vs)) w t) h) l)
          (kept_all (reaching w f us i names) r u u' q)

      -- memory was refused, for the methods or after they were there
      pub storage_shared : (v : Val) → v ≡ names → MadeSome (reaching w f us i v) u u' → LeadsBy (inside m sharing) w u (Err Storage) n u'
      storage_shared v k q =
          leads_noting m sharing checking (reaching w f us i names) w u u' (Err Storage) n checks tt (subst (λ x. MadeSome (reaching w f us i x) u u') k q)

      pub storage_reached : u' ≡ after_notes (reaching w f us i names) u → LeadsBy (inside m sharing) w u (Err Storage) n u'
      storage_reached q = storage_shared names refl (kept_all {A = Doing} (reaching w f us i names) (Err Storage) u u' q)

  -- ---- slots that are initialized

  pub no_class_to_fill : (ev : Eval) (i : ℕ) (names : Val) (vs : List Val) (c : Condition) → None ≡ class_in w i → c ≡ record { kind = ProgramError; items = [] }
      → Leads (inside m (slots_filled ev i names vs)) w (Err (Refused c)) n
  no_class_to_fill ev i names vs c e k =
      leads_refused (slots_filled ev i names vs) c (record { kind = ProgramError; items = [] }) (λ t. ap (λ o. filled_as ev i names vs o (at m w) t) (sym e)) k

  module _ (ev : Eval) (v : Val) (us : List Val) where
    abbrev pub slots_run : Run
    slots_run = system_method_run ev SharedInitialize us

    pub one_argument : (rest : List Val) (c : Condition) → us ≡ v ∷ rest → rest ≡ [] → c ≡ record { kind = ProgramError; items = [] } → Leads (inside m slots_run) w (Err (Refused c)) n
    one_argument rest c e h k =
        leads_refused slots_run c (record { kind = ProgramError; items = [] }) (λ t. ap (λ x. system_method_run ev SharedInitialize x (at m w) t) (e ∙ ap (λ r. v ∷ r) h)) k

    module _ (rest : List Val) (names : Val) (initargs : List Val) (e : us ≡ v ∷ rest) (h : rest ≡ names ∷ initargs) where
      whole : us ≡ v ∷ names ∷ initargs
      whole = e ∙ ap (λ r. v ∷ r) h

      whole_runs : (t : ℕ) → shared_initialize ev v names initargs (at m w) t ≡ slots_run (at m w) t
      whole_runs t = ap (λ x. system_method_run ev SharedInitialize x (at m w) t) (sym whole)

      pub odd_initargs : (c : Condition) → are_even initargs ≡ false → c ≡ record { kind = ProgramError; items = [] } → Leads (inside m slots_run) w (Err (Refused c)) n
      odd_initargs c b k =
          leads_refused slots_run c (record { kind = ProgramError; items = [] })
          (λ t. sym (whole_runs t) ∙ ap (λ x. if x then initialize_slots ev names initargs (instance_in v) (at m w) t else stopped ProgramError [] (at m w) t) b) k

      module _ (even : are_even initargs ≡ true) where
        runs : (t : ℕ) → initialize_slots ev names initargs (instance_in v) (at m w) t ≡ slots_run (at m w) t
        runs t =
            ap (λ x. if x then initialize_slots ev names initargs (instance_in v) (at m w) t else stopped ProgramError [] (at m w) t) (sym even) ∙ whole_runs t

        pub slots_of_none : (stop : Stop) → DesignatesInstance (instance_in v) (Err stop) → Leads (inside m slots_run) w (Err stop) n
        slots_of_none stop d =
            leads_same (inside m (initialize_slots ev names initargs (instance_in v))) (inside m slots_run) w (Err stop) n (λ t. ap (λ o. closed (resume m.levels m.context o)) (runs t))
            (no_instance (initialize_slots ev names initargs) (instance_in v) stop (λ c t. refl) d)

        pub no_slot_names : (i : ℕ) (c : Condition) → instance_in v ≡ Ok i → are_slot_names names ≡ false → c ≡ wrong_type names → Leads (inside m slots_run) w (Err (Refused c)) n
        no_slot_names i c d b k =
            leads_refused slots_run c (wrong_type names)
            (λ t. sym (runs t) ∙ ap (λ x. initialize_slots ev names initargs x (at m w) t) d
            ∙ ap (λ x. if x then updated ev i (slots_filled ev i names initargs) (at m w) t else Stopped (wrong_type names) (at m w) t) b) k

        pub slot_names : (i : ℕ) (r : Result Doing Stop) (s : ℕ) (w' : State) (s' : ℕ) → instance_in v ≡ Ok i → are_slot_names names ≡ true
            → Turns (inside m (updated ev i (slots_filled ev i (names_in us) (initargs_in us)))) w s r n w' s' → Turns (inside m slots_run) w s r n w' s'
        slot_names i r s w' s' d b l =
            turns_same (inside m (updated ev i (slots_filled ev i (names_in us) (initargs_in us)))) (inside m slots_run) w s r n w' s'
            (λ t. ap (λ o. closed (resume m.levels m.context o))
            (ap (λ x. updated ev i (slots_filled ev i (names_in x) (initargs_in x)) (at m w) t) whole
            ∙ ap (λ x. if x then updated ev i (slots_filled ev i names initargs) (at m w) t else Stopped (wrong_type names) (at m w) t) (sym b)
            ∙ ap (λ x. initialize_slots ev names initargs x (at m w) t) (sym d) ∙ runs t)) l
