-- Calls of generic functions, with applicable methods and without.
use Rattle.std.proofs.Common.{◌≡◌, ℕ, List, [], ◌∷◌, true, false, Option, Some, None, Result, Err, length, slice_get, arith, refl, ap, sym, ◌∙◌}
use Rattle.std.specs.Prelude.{if◌then◌else◌, is_some, option_map}
use Rattle.lisp_data.specs.Value.{Val, generic}
use Rattle.clos_machine.specs.clos_world.clos_generic.Table.{Function}
use Rattle.clos_method.specs.Shape.{takes_count}
use Rattle.clos_method.specs.System.{system_number}
use Rattle.clos_method.specs.declared.system.SystemFunction.TheVariants.{NoApplicableMethod}
use Rattle.clos_machine.specs.clos_world.Dispatch.{ordered}
use Rattle.clos_machine.specs.clos_world.World.{State, unbound}
use Rattle.clos_machine.specs.clos_world.declared.condition.Condition.{Condition}
use Rattle.clos_machine.specs.clos_world.declared.condition.ConditionKind.TheVariants.{ProgramError}
use Rattle.clos_machine.specs.clos_world.declared.condition.Stop.{Stop}
use Rattle.clos_machine.specs.clos_world.declared.condition.Stop.TheVariants.{Refused, Storage}
use Rattle.clos_machine.specs.clos_meaning.GenericCalls.{after_positional, called_generic, combined_run, keywords_fit, matched, matched_or, unmatched, unmatched_by}
use Rattle.clos_machine.specs.clos_meaning.Contexts.{Context, in_call}
use Rattle.clos_machine.specs.Machine.{Leads, at, inside, resume}
use Rattle.clos_machine.specs.clos_meaning.Meaning.{closed}
use Rattle.clos_machine.specs.clos_meaning.Outcome.{Note, Noted, used, Eval, Run, Stopped, stopped}
use Rattle.clos_machine.specs.clos_meaning.Uses.{after_notes, noted}
use Rattle.clos_machine.specs.clos_world.clos_cache.Uses.{Uses}
use Rattle.clos_machine.specs.Uses.{LeadsBy}
use Rattle.clos_machine.specs.declared.machine.Doing.{Doing}
use Rattle.clos_machine.specs.declared.machine.Machine.{Machine}
use Rattle.clos_machine.specs.clos_world.Keys.{key_of}
use Rattle.clos_machine.proofs.Turns.{leads_same, stopped_through}
use Rattle.clos_machine.proofs.Uses.{key_bound, leads_none, leads_used}
use Rattle.clos_comb.specs.Effective as comb
use Rattle.clos_comb.specs.Outcome.{Combined}
use Rattle.clos_comb.specs.OutcomeView.{combined_of}
use Rattle.clos_comb.specs.declared.outcome.Outcome.{Outcome}
use Rattle.clos_machine.specs.Fault.{TellsCondition}
use Rattle.clos_calls.specs.GenericCalls.{takes_in}

-- a function that takes so many arguments is there
pub function_taken : (o : Option Function) (n : ℕ) → true ≡ takes_in o n → (f : Function) × (Some f ≡ o) × (takes_count f.shape n ≡ true)
function_taken None n e = absurd (cc e)
function_taken (Some f) n e = (f, refl, sym e)

-- a function that is there, or is not
pub function_there : {A : Type 0} (f : A → Function) (x : Option A) (o : Option Function) → option_map f x ≡ o → is_some x ≡ true → (y : Function) × (Some y ≡ o)
function_there f None o e h = absurd (cc h)
function_there f (Some a) o e h = (f a, e)

pub nothing_there : {A : Type 0} (f : A → Function) (x : Option A) (o : Option Function) → option_map f x ≡ o → is_some x ≡ false → None ≡ o
nothing_there f None o e h = e
nothing_there f (Some a) o e h = absurd (cc h)

module _ (m n : Machine) (ev : Eval) (w : State) where
  stops : (run : Run) (c : Condition) → ((t : ℕ) → run (at m w) t ≡ stopped ProgramError [] (at m w) t) → c ≡ record { kind = ProgramError; items = [] }
      → Leads (inside m run) w (Err (Refused c)) n
  stops run c h e = λ t.
      ap (λ o. closed (resume m.levels m.context o)) (h t ∙ ap (λ x. Stopped x (at m w) t) (sym e)) ∙ stopped_through m.levels m.context c (at m w) t

  goes : (run run' : Run) (r : Result Doing Stop) → ((t : ℕ) → run (at m w) t ≡ run' (at m w) t) → Leads (inside m run) w r n → Leads (inside m run') w r n
  goes run run' r h l = leads_same (inside m run) (inside m run') w r n (λ t. ap (λ o. closed (resume m.levels m.context o)) (h t)) l

  -- where there are methods
  some_match : (vs : List Val) (g : ℕ) (f : Function) (other : Run) (ms : List ℕ) (t : ℕ) → (length ms ≡ 0 → ⊥) → matched ev vs g f ms (at m w) t ≡ matched_or ev vs g f other ms (at m w) t
  some_match vs g f other [] t h = absurd (h refl)
  some_match vs g f other (x ∷ ms) t h = refl

  none_match : (vs : List Val) (g : ℕ) (f : Function) (other : Run) (ms : List ℕ) (t : ℕ) → length ms ≡ 0 → other (at m w) t ≡ matched_or ev vs g f other ms (at m w) t
  none_match vs g f other [] t h = refl
  none_match vs g f other (x ∷ ms) t h = absurd (omega (arith, h))

  module _ (vs : List Val) (g : ℕ) where
    abbrev pub calling : Run
    calling u = called_generic ev vs g (slice_get u.generics.functions g) u

    -- a use of the function with these arguments is noted
    abbrev pub use_of : List Val → List Note
    use_of us = used (key_of w g us) ∷ []

    not_taken : (o : Option Function) (t : ℕ) → false ≡ takes_in o (length vs) → called_generic ev vs g o (at m w) t ≡ stopped ProgramError [] (at m w) t
    not_taken None t e = refl
    not_taken (Some f) t e =
        ap (λ b. if b then Noted (used (key_of (at m w) g vs)) (matched_or ev vs g f (unmatched ev g vs) (ordered w g vs) (at m w) t) else stopped ProgramError [] (at m w) t) (sym e)

    pub wrong_count : (u : Uses) (c : Condition) → false ≡ takes_in (slice_get w.generics.functions g) (length vs) → c ≡ record { kind = ProgramError; items = [] }
        → LeadsBy (inside m calling) w u (Err (Refused c)) n u
    wrong_count u c e k = leads_none (inside m calling) w u u (Err (Refused c)) n refl (stops calling c (λ t. not_taken (slice_get w.generics.functions g) t e) k)

    right_count : (f : Function) (t : ℕ) → Some f ≡ slice_get w.generics.functions g → takes_count f.shape (length vs) ≡ true
        → Noted (used (key_of w g vs)) (matched_or ev vs g f (unmatched ev g vs) (ordered w g vs) (at m w) t) ≡ calling (at m w) t
    right_count f t e h =
        ap (λ k. Noted (used k) (matched_or ev vs g f (unmatched ev g vs) (ordered w g vs) (at m w) t)) (sym (key_bound m.locals w g vs))
        ∙ ap (λ b. if b then Noted (used (key_of (at m w) g vs)) (matched_or ev vs g f (unmatched ev g vs) (ordered w g vs) (at m w) t) else stopped ProgramError [] (at m w) t) (sym h)
        ∙ ap (λ o. called_generic ev vs g o (at m w) t) e

    pub none_called : (us : List Val) (ms : List ℕ) (r : Result Doing Stop) (v : State) (u mid u' : Uses) → true ≡ takes_in (slice_get w.generics.functions g) (length vs)
        → us ≡ vs → ms ≡ ordered w g us → length ms ≡ 0 → v ≡ w → mid ≡ after_notes (use_of us) u
        → LeadsBy (inside m (unmatched ev g us)) v mid r n u' → LeadsBy (inside m calling) w u r n u'
    none_called us ms r v u mid u' e k h z q p l =
        let x = function_taken (slice_get w.generics.functions g) (length vs) e in
        leads_used m calling (unmatched ev g us) (use_of us) w v u mid u' r n
        (λ t. sym (ap (λ y. Noted (used (key_of w g y)) (unmatched ev g y (at m w) t)) k
        ∙ ap (Noted (used (key_of w g vs))) (none_match vs g x.0 (unmatched ev g vs) (ordered w g vs) t (ap length (sym (h ∙ ap (ordered w g) k)) ∙ z)) ∙ right_count x.0 t x.1 x.2))
        q p l

    pub some_called : (us : List Val) (ms : List ℕ) (r : Result Doing Stop) (v : State) (u mid : Uses) → true ≡ takes_in (slice_get w.generics.functions g) (length vs)
        → us ≡ vs → ms ≡ ordered w g us → (length ms ≡ 0 → ⊥) → v ≡ w → mid ≡ after_notes (use_of us) u
        → ((f : Function) → Some f ≡ slice_get v.generics.functions g → Leads (inside m (matched ev us g f ms)) v r n) → LeadsBy (inside m calling) w u r n mid
    some_called us ms r v u mid e k h z q p l =
        let x = function_taken (slice_get w.generics.functions g) (length vs) e in
        leads_used m calling (matched ev us g x.0 ms) (use_of us) w v u mid mid r n
        (λ t. sym (ap (λ y. Noted (used (key_of w g y)) (matched ev y g x.0 ms (at m w) t)) k
        ∙ ap (Noted (used (key_of w g vs))) (some_match vs g x.0 (unmatched ev g vs) ms t z ∙ ap (λ y. matched_or ev vs g x.0 (unmatched ev g vs) y (at m w) t) (h ∙ ap (ordered w g) k))
        ∙ right_count x.0 t x.1 x.2))
        q p (leads_none (inside m (matched ev us g x.0 ms)) v mid mid r n refl (l x.0 (x.1 ∙ ap (λ y. slice_get y.generics.functions g) (sym q))))

    -- ---- no-applicable-method

    module _ (us : List Val) (k : us ≡ generic g ∷ vs) where
      abbrev number : ℕ
      number = system_number NoApplicableMethod

      abbrev pub use_told : List Note
      use_told = used (key_of w number us) ∷ []

      as_told : (o : Option Function) (t : ℕ) → o ≡ slice_get w.generics.functions number → unmatched_by ev us o (at m w) t ≡ unmatched ev g vs (at m w) t
      as_told o t e = ap (λ x. unmatched_by ev us x (at m w) t) e ∙ ap (λ x. unmatched_by ev x (slice_get w.generics.functions number) (at m w) t) k

      pub untold : (u : Uses) (c : Condition) → None ≡ slice_get w.generics.functions number → c ≡ record { kind = ProgramError; items = [] }
          → LeadsBy (inside m (unmatched ev g vs)) w u (Err (Refused c)) n u
      untold u c e h =
          leads_none (inside m (unmatched ev g vs)) w u u (Err (Refused c)) n refl (stops (unmatched ev g vs) c (λ t. sym (as_told None t e)) h)

      -- what is done with these methods
      told : (f : Function) (ms : List ℕ) (run : Run) (t : ℕ) → Some f ≡ slice_get w.generics.functions number → ms ≡ ordered w number us
          → run (at m w) t ≡ matched_or ev us number f (stopped ProgramError []) ms (at m w) t
          → unmatched ev g vs (at m w) t ≡ noted use_told (run (at m w) t)
      told f ms run t e h j =
          sym (ap (Noted (used (key_of w number us))) (j ∙ ap (λ y. matched_or ev us number f (stopped ProgramError []) y (at m w) t) h)
          ∙ ap (λ k. Noted (used k) (matched_or ev us number f (stopped ProgramError []) (ordered w number us) (at m w) t)) (sym (key_bound m.locals w number us))
          ∙ as_told (Some f) t e)

      pub none_told : (f : Function) (ms : List ℕ) (c : Condition) (u mid : Uses) → Some f ≡ slice_get w.generics.functions number → ms ≡ ordered w number us
          → length ms ≡ 0 → mid ≡ after_notes use_told u → c ≡ record { kind = ProgramError; items = [] } → LeadsBy (inside m (unmatched ev g vs)) w u (Err (Refused c)) n mid
      none_told f ms c u mid e h z p j =
          leads_used m (unmatched ev g vs) (stopped ProgramError []) use_told w w u mid mid (Err (Refused c)) n
          (λ t. told f ms (stopped ProgramError []) t e h (none_match us number f (stopped ProgramError []) ms t z)) refl p
          (leads_none (inside m (stopped ProgramError [])) w mid mid (Err (Refused c)) n refl (stops (stopped ProgramError []) c (λ t. refl) j))

      pub some_told : (f : Function) (ms : List ℕ) (r : Result Doing Stop) (v : State) (u mid : Uses) → Some f ≡ slice_get w.generics.functions number
          → ms ≡ ordered w number us → (length ms ≡ 0 → ⊥) → v ≡ w → mid ≡ after_notes use_told u
          → Leads (inside m (matched ev us number f ms)) v r n → LeadsBy (inside m (unmatched ev g vs)) w u r n mid
      some_told f ms r v u mid e h z q p l =
          leads_used m (unmatched ev g vs) (matched ev us number f ms) use_told w v u mid mid r n
          (λ t. told f ms (matched ev us number f ms) t e h (some_match us number f (stopped ProgramError []) ms t z)) q p
          (leads_none (inside m (matched ev us number f ms)) v mid mid r n refl l)

    -- ---- a call for which these methods are applicable

    module _ (f : Function) (ms : List ℕ) where
      pub keywords_wrong : (c : Condition) → false ≡ keywords_fit w.generics g ms (after_positional f.shape vs) → c ≡ record { kind = ProgramError; items = [] }
          → Leads (inside m (matched ev vs g f ms)) w (Err (Refused c)) n
      keywords_wrong c e h =
          stops (matched ev vs g f ms) c
          (λ t. ap (λ b. if b then combined_run ev (in_call (record { generic = g; methods = ms }) vs) f (comb.effective w.combinations w.generics g ms) (at m w) t else stopped ProgramError [] (at m w) t) (sym e)) h

      pub keywords_right : (x : Combined) (r : Result Doing Stop) → true ≡ keywords_fit w.generics g ms (after_positional f.shape vs) → x ≡ comb.effective w.combinations w.generics g ms
          → Leads (inside m (combined_run ev (in_call (record { generic = g; methods = ms }) vs) f x)) w r n → Leads (inside m (matched ev vs g f ms)) w r n
      keywords_right x r e h l =
          goes (combined_run ev (in_call (record { generic = g; methods = ms }) vs) f x) (matched ev vs g f ms) r
          (λ t. ap (λ y. combined_run ev (in_call (record { generic = g; methods = ms }) vs) f y (at m w) t) h
          ∙ ap (λ b. if b then combined_run ev (in_call (record { generic = g; methods = ms }) vs) f (comb.effective w.combinations w.generics g ms) (at m w) t else stopped ProgramError [] (at m w) t) e) l

  -- ---- the methods are not combined

  pub refusal_told : (env : Context) (f : Function) (o v : Outcome) (c : Condition) (stop : Stop) → o ≡ v → ((t : ℕ) → combined_run ev env f (combined_of v) (at m w) t ≡ Stopped c (at m w) t)
      → TellsCondition c stop → Leads (inside m (combined_run ev env f (combined_of o))) w (Err stop) n
  refusal_told env f o v c Storage is e h = tt
  refusal_told env f o v c (Refused d) is e h = λ t.
      ap (λ y. closed (resume m.levels m.context y)) (ap (λ x. combined_run ev env f (combined_of x) (at m w) t) is ∙ e t) ∙ stopped_through m.levels m.context c (at m w) t
      ∙ ap (λ y. Stopped y (unbound w) t) (sym h)
