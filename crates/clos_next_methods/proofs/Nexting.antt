-- Next methods that are called.
use Rattle.std.proofs.Common.{◌≡◌, ℕ, List, [], ◌∷◌, Bool, true, false, Option, Some, None, Result, Err, length, slice_get, refl, ap, sym, subst, ◌∙◌}
use Rattle.std.specs.Prelude.{if◌then◌else◌}
use Rattle.lisp_data.specs.Numbers.{same_numbers}
use Rattle.lisp_data.specs.Value.{Val, method}
use Rattle.clos_forms.specs.Form.{Form, Forms, cons, nil}
use Rattle.clos_forms.specs.Operator.{Callable, the_method, made}
use Rattle.clos_machine.specs.clos_world.clos_generic.Table.{Function}
use Rattle.clos_method.specs.Shape.{takes_count}
use Rattle.clos_machine.specs.clos_world.Dispatch.{ordered}
use Rattle.clos_machine.specs.clos_world.World.{Local, State, bound_as}
use Rattle.clos_machine.specs.clos_world.declared.condition.Condition.{Condition}
use Rattle.clos_machine.specs.clos_world.declared.condition.ConditionKind.TheVariants.{NextArguments, ProgramError}
use Rattle.clos_machine.specs.clos_world.declared.condition.Stop.{Stop}
use Rattle.clos_machine.specs.clos_world.declared.condition.Stop.TheVariants.{Refused, Storage}
use Rattle.clos_machine.specs.clos_meaning.Calls.{made_run, method_called, method_run}
use Rattle.clos_machine.specs.clos_meaning.Contexts.{Context, running, with_arguments}
use Rattle.clos_machine.specs.clos_meaning.Dispatch.{Dispatch}
use Rattle.clos_machine.specs.Machine.{Leads, at, inside, resume, acted}
use Rattle.clos_machine.specs.clos_meaning.Meaning.{closed, collect, meaning, next_method}
use Rattle.clos_machine.specs.clos_meaning.NextMethods.{next_by, next_called, next_given, next_in, next_run, none_next}
use Rattle.clos_machine.specs.clos_meaning.Outcome.{Note, Noted, used, Eval, Run, Stopped, stopped}
use Rattle.clos_machine.specs.clos_meaning.Uses.{after_notes, most, noted, with_note}
use Rattle.clos_machine.specs.clos_world.Uses.{AtMostOneMore}
use Rattle.clos_machine.specs.clos_world.clos_cache.Uses.{Uses}
use Rattle.clos_machine.specs.Uses.{KeptAfter, LeadsBy}
use Rattle.clos_machine.specs.clos_meaning.declared.arguments.Running.{Running}
use Rattle.clos_machine.specs.declared.machine.Action.TheVariants.{CallNext}
use Rattle.clos_machine.specs.declared.machine.Doing.{Doing}
use Rattle.clos_machine.specs.declared.machine.Machine.{Machine}
use Rattle.clos_machine.specs.clos_world.Keys.{key_of}
use Rattle.clos_machine.proofs.Turns.{leads_same, stopped_through}
use Rattle.clos_machine.proofs.Uses.{key_bound, kept_all, kept_none, leads_noting, none_made}
use Rattle.clos_calls.specs.GenericCalls.{takes_in}
use Rattle.clos_next_methods.specs.NextMethods.{Refuses, asked_for, asked_in, asked_of, refusal_in, refusal_of}

module _ (ev : Eval) (env : Context) (vs : List Val) where
  -- what is done where this is refused, or nothing is
  abbrev pub decided : Option Running → Option Condition → Run
  decided o None u k = next_called ev env o vs u k
  decided o (Some c) u k = Stopped c u k

  module _ (w : State) (t : ℕ) where
    by_order : (r : Running) (b : Bool) → decided (Some r) (if b then None else Some (record { kind = NextArguments; items = method r.method.0 ∷ [] })) w t
        ≡ (if b then next_run ev env r r.next vs w t else stopped NextArguments (method r.method.0 ∷ []) w t)
    by_order r true = refl
    by_order r false = refl

    abbrev in_order : Running → Dispatch → Option Condition
    in_order r d = if same_numbers (ordered w d.generic vs) d.methods then None else Some (record { kind = NextArguments; items = method r.method.0 ∷ [] })

    abbrev use_of : Dispatch → Bool → List Note
    use_of d b = if b then used (key_of w d.generic vs) ∷ [] else []

    by_count : (r : Running) (d : Dispatch) (f : Function) (b : Bool)
        → noted (use_of d b) (decided (Some r) (if b then in_order r d else Some (record { kind = ProgramError; items = [] })) w t)
        ≡ (if b then Noted (used (key_of w d.generic vs)) (if same_numbers (ordered w d.generic vs) d.methods then next_run ev env r r.next vs w t else stopped NextArguments (method r.method.0 ∷ []) w t)
        else stopped ProgramError [] w t)
    by_count r d f true = ap (Noted (used (key_of w d.generic vs))) (by_order r (same_numbers (ordered w d.generic vs) d.methods))
    by_count r d f false = refl

    by_function : (r : Running) (d : Dispatch) (o : Option Function)
        → noted (use_of d (takes_in o (length vs))) (decided (Some r) (if takes_in o (length vs) then in_order r d else Some (record { kind = ProgramError; items = [] })) w t)
        ≡ next_by ev env r d o vs w t
    by_function r d None = refl
    by_function r d (Some f) = by_count r d f (takes_count f.shape (length vs))

    by_call : (r : Running) (o : Option Dispatch) → noted (asked_in w o vs) (decided (Some r) (refusal_in w r o vs) w t) ≡ next_in ev env r o vs w t
    by_call r None = refl
    by_call r (Some d) = by_function r d (slice_get w.generics.functions d.generic)

    -- the uses of the check are noted first
    pub given_decided : (o : Option Running) → next_given ev env o vs w t ≡ noted (asked_of w o env.call vs) (decided o (refusal_of w o env.call vs) w t)
    given_decided None = refl
    given_decided (Some r) = sym (by_call r env.call)

-- ---- the uses of the check

module _ (w : State) (d : Dispatch) (vs : List Val) where
  asked_by : (b : Bool) → takes_in (slice_get w.generics.functions d.generic) (length vs) ≡ b → (if b then used (key_of w d.generic vs) ∷ [] else []) ≡ asked_for w d vs
  asked_by b e = ap (λ x. if x then used (key_of w d.generic vs) ∷ [] else []) (sym e)

  -- none where there are too many arguments or too few
  pub none_asked : (r : Result (Unit {0}) Stop) (u : Uses) → takes_in (slice_get w.generics.functions d.generic) (length vs) ≡ false → KeptAfter (asked_for w d vs) r u u
  none_asked r u e = subst (λ ns. KeptAfter ns r u u) (asked_by false e) (kept_none r u u refl)

  pub one_asked : (r : Result (Unit {0}) Stop) (u u' : Uses) → takes_in (slice_get w.generics.functions d.generic) (length vs) ≡ true
      → u' ≡ with_note (used (key_of w d.generic vs)) u → KeptAfter (asked_for w d vs) r u u'
  one_asked r u u' e h = subst (λ ns. KeptAfter ns r u u') (asked_by true e) (kept_all (used (key_of w d.generic vs) ∷ []) r u u' h)

  pub asking_refused : (u u' : Uses) → AtMostOneMore most u u' → KeptAfter {A = Unit {0}} (asked_for w d vs) (Err Storage) u u'
  asking_refused u u' h = none_made (asked_for w d vs) u u' h

-- variables are no part of it
asked_bound : (ls : List Local) (w : State) (o : Option Running) (d : Option Dispatch) (vs : List Val) → asked_of (bound_as ls w) o d vs ≡ asked_of w o d vs
asked_bound ls w None d vs = refl
asked_bound ls w (Some r) None vs = refl
asked_bound ls w (Some r) (Some d) vs =
    ap (λ k. if takes_in (slice_get w.generics.functions d.generic) (length vs) then used k ∷ [] else []) (key_bound ls w d.generic vs)

-- ---- the turns of the machine

module _ (m n : Machine) (vs : List Val) (w : State) where
  abbrev pub giving : Run
  giving = next_given (meaning m.room) m.context m.context.running vs

  abbrev pub calling_next : Run
  calling_next = next_called (meaning m.room) m.context m.context.running vs

  abbrev pub asked : List Note
  asked = asked_of w m.context.running m.context.call vs

  abbrev deciding : Run
  deciding v = decided (meaning m.room) m.context vs m.context.running (refusal_of v m.context.running m.context.call vs) v

  decides : (r : Result Doing Stop) (u u' : Uses) → Leads (inside m deciding) w r n → KeptAfter asked r u u' → LeadsBy (inside m giving) w u r n u'
  decides r u u' l k =
      leads_noting m giving deciding asked w u u' r n
      (λ t. given_decided (meaning m.room) m.context vs (at m w) t m.context.running
      ∙ ap (λ ns. noted ns (deciding (at m w) t)) (asked_bound m.locals w m.context.running m.context.call vs)) l k

  refused : (stop : Stop) → Refuses (refusal_of w m.context.running m.context.call vs) (Err stop) → Leads (inside m deciding) w (Err stop) n
  refused Storage h = tt
  refused (Refused c) h = λ t.
      ap (λ x. inside m (decided (meaning m.room) m.context vs m.context.running x) w t) h ∙ stopped_through m.levels m.context c (at m w) t

  pub next_refused : (stop : Stop) (u u' : Uses) → Refuses (refusal_of w m.context.running m.context.call vs) (Err stop) → KeptAfter {A = Unit {0}} asked (Err stop) u u'
      → LeadsBy (inside m giving) w u (Err stop) n u'
  next_refused stop u u' h k = decides (Err stop) u u' (refused stop h) (as_kept stop k)
    where
      as_kept : (x : Stop) → KeptAfter {A = Unit {0}} asked (Err x) u u' → KeptAfter {A = Doing} asked (Err x) u u'
      as_kept Storage q = q
      as_kept (Refused c) q = q

  pub next_passes : (r : Result Doing Stop) (u u' : Uses) → refusal_of w m.context.running m.context.call vs ≡ None → u' ≡ after_notes asked u
      → Leads (inside m calling_next) w r n → LeadsBy (inside m giving) w u r n u'
  next_passes r u u' h k l =
      decides r u u'
      (leads_same (inside m calling_next) (inside m deciding) w r n
      (λ t. ap (λ x. inside m (decided (meaning m.room) m.context vs m.context.running x) w t) (sym h)) l) (kept_all asked r u u' k)

  pub next_storage : (u u' : Uses) → u' ≡ after_notes asked u → LeadsBy (inside m giving) w u (Err Storage) n u'
  next_storage u u' k = decides (Err Storage) u u' tt (kept_all {A = Doing} asked (Err Storage) u u' k)

  module _ (x : Running) (e : m.context.running ≡ Some x) (r : Result Doing Stop) where
    next_as : (run : Run) (ms : List Callable) → ms ≡ x.next → ((t : ℕ) → run (at m w) t ≡ next_run (meaning m.room) m.context x ms vs (at m w) t)
        → Leads (inside m run) w r n → Leads (inside m calling_next) w r n
    next_as run ms h k l =
        leads_same (inside m run) (inside m calling_next) w r n
        (λ t. ap (λ o. closed (resume m.levels m.context o))
        (k t ∙ ap (λ ns. next_run (meaning m.room) m.context x ns vs (at m w) t) h ∙ ap (λ o. next_called (meaning m.room) m.context o vs (at m w) t) (sym e))) l

    pub none_runs : x.next ≡ [] → Leads (inside m (none_next (meaning m.room) m.context.call x.method.0 vs)) w r n → Leads (inside m calling_next) w r n
    none_runs h = next_as (none_next (meaning m.room) m.context.call x.method.0 vs) [] (sym h) (λ t. refl)

    pub method_runs : (k : ℕ) (ns : List Callable) (fs : Forms) → the_method k ∷ ns ≡ x.next → fs ≡ x.forms
        → Leads (inside m (method_run (meaning m.room) (running k ns fs (with_arguments vs m.context)) (slice_get w.generics.methods k))) w r n → Leads (inside m calling_next) w r n
    method_runs k ns fs h i =
        next_as (method_run (meaning m.room) (running k ns fs (with_arguments vs m.context)) (slice_get w.generics.methods k)) (the_method k ∷ ns) h
        (λ t. ap (λ f. method_called (meaning m.room) (with_arguments vs m.context) (the_method k) ns f (at m w) t) i)

    pub made_runs : (ns : List Callable) (fs : Forms) → made ∷ ns ≡ x.next → fs ≡ x.forms
        → Leads (inside m (made_run (meaning m.room) (with_arguments vs m.context) fs)) w r n → Leads (inside m calling_next) w r n
    made_runs ns fs h i =
        next_as (made_run (meaning m.room) (with_arguments vs m.context) fs) (made ∷ ns) h
        (λ t. ap (λ f. method_called (meaning m.room) (with_arguments vs m.context) made ns f (at m w) t) i)

  -- ---- a form without forms, and one with some

  pub none_given : (fs : Forms) (r : Result Doing Stop) → fs ≡ nil → vs ≡ m.context.arguments → Leads (inside m calling_next) w r n
      → Leads (inside m (next_method (meaning m.room) m.context fs)) w r n
  none_given fs r e h l =
      leads_same (inside m calling_next) (inside m (next_method (meaning m.room) m.context fs)) w r n
      (λ t. ap (λ o. closed (resume m.levels m.context o))
      (ap (λ x. next_called (meaning m.room) m.context m.context.running x (at m w) t) h ∙ ap (λ x. next_method (meaning m.room) m.context x (at m w) t) (sym e))) l

pub some_given : (ev : Eval) (env : Context) (fs : Forms) (f : Form) (rest : Forms) (vs : List Val) (w : State) (t : ℕ) → fs ≡ cons f rest → vs ≡ []
    → collect ev env fs vs (acted ev env CallNext) w t ≡ next_method ev env fs w t
some_given ev env fs f rest vs w t e h =
    ap (λ x. collect ev env fs x (acted ev env CallNext) w t) h
    ∙ ap (λ x. collect ev env x [] (acted ev env CallNext) w t) e ∙ ap (λ x. next_method ev env x w t) (sym e)
