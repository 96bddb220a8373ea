-- How the turns of the machine make a run.
use Rattle.std.proofs.Common.{◌≡◌, true, false, map, Option, Some, None, ℕ, zero, suc, ◌+◌, ◌-◌, ◌<◌, ◌≤◌, List, [], ◌∷◌, ◌++◌, Result, Ok, Err, length, refl, ap, sym, subst, ◌∙◌, add_assoc, add-zero, append_assoc, append-nil, arith}
use Rattle.std.specs.Prelude.{ℤ, pos, option_map, if◌then◌else◌}
use Rattle.lisp_data.specs.Value.{Val, nil, list}
use Rattle.lisp_data.specs.ValueView.{value_of}
use Rattle.lisp_data.specs.declared.value.Value.{Value}
use Rattle.lisp_data.specs.Name.{Name}
use Rattle.lisp_prims.specs.Fault as prims
use Rattle.lisp_prims.specs.Primitive.{answer}
use Rattle.lisp_prims.specs.lisp_functions.declared.primitive.Primitive as of_values
use Rattle.lisp_prims.specs.Fault.{StandsFor, AnswersUnlessMemory}
use Rattle.lisp_prims.specs.declared.fault.PrimFault.{PrimFault}
use Rattle.lisp_prims.specs.declared.fault.PrimFault.TheVariants as prims_fault
use Rattle.lisp_prims.specs.declared.fault.PrimFault.TheVariants.{Memory}
use Rattle.clos_forms.specs.Quotation.{name_value}
use Rattle.clos_meaning.specs.clos_world.Globals.{is_global}
use Rattle.clos_meaning.specs.Assignment.{stored, stored_globally, stored_only, made_of, changed, changed_only, global_set}
use Rattle.clos_forms.specs.Form.{Form}
use Rattle.clos_meaning.specs.clos_world.World.{State, unbound}
use Rattle.clos_meaning.specs.clos_world.declared.condition.Condition.{Condition}
use Rattle.clos_meaning.specs.clos_world.declared.condition.ConditionKind.TheVariants.{ProgramError, UnboundVariable, StepLimit, DepthLimit}
use Rattle.clos_meaning.specs.clos_world.declared.condition.Stop.{Stop}
use Rattle.clos_meaning.specs.clos_world.declared.condition.Stop.TheVariants.{Refused, Storage}
use Rattle.clos_machine.specs.Fault.{Signals}
use Rattle.clos_meaning.specs.Fault.{answered}
use Rattle.clos_meaning.specs.Host.{Host, answered_by}
use Rattle.clos_machine.specs.Machine.{at, resume, inside, denote, given_to, leaves_by, AnswersWith, Asks, Leads, Turns, Becomes, Changes, Reached}
use Rattle.clos_meaning.specs.Meaning.{closed, meaning, body}
use Rattle.clos_meaning.specs.Control.{sequence}
use Rattle.clos_meaning.specs.Variables.{Loop, body_of, counted, found_value, variable_value, leaving, result_value, turns}
use Rattle.clos_meaning.specs.Outcome.{leaves, ends_in, Asked, Gave, Given, Looked, Noted, Out, Signalled, Stopped, Run, Eval, then_do, step_then, stopped}
use Rattle.clos_meaning.specs.Output.{written, output_of, line_ended}
use Rattle.clos_forms.specs.clos_names.declared.callee.Output.{Output}
use Rattle.clos_machine.specs.declared.machine.Doing.{Doing}
use Rattle.clos_machine.specs.declared.machine.Doing.TheVariants.{Start, Give}
use Rattle.clos_machine.specs.declared.machine.Level.{Level}
use Rattle.clos_machine.specs.declared.machine.Machine.{Machine}
use Rattle.clos_meaning.specs.clos_world.declared.functions.Function.{Function}
use Rattle.clos_meaning.specs.Bodies.{body_run}
use Rattle.clos_meaning.specs.Calls.{applied_to}
use Rattle.clos_meaning.specs.Contexts.{Context, known}
use Rattle.clos_meaning.specs.Parameters.{fits, sources}
use Rattle.clos_machine.proofs.Turns.{stopped_through, leads_same}
use Rattle.clos_meaning.proofs.Quiet.{no_step}

pub one_more : (t : ℕ) → 1 + t ≡ suc t
one_more t = omega arith

-- a handler that takes no step makes a turn
pub turns_of_leads : (run : Run) (w : State) (s : ℕ) (r : Result Doing Stop) (m : Machine) → Leads run w r m → Turns run w s r m w s
turns_of_leads run w s (Ok d) m h = (0, sym (omega arith), λ t. h t ∙ ap (run w) (omega arith))
turns_of_leads run w s (Err (Refused c)) m h = h s
turns_of_leads run w s (Err Storage) m h = (refl, refl)

-- ---- bytes are written

pub wrote : (m : Machine) (bytes : List ℕ) (value : Value) (w : State) (s : ℕ) (w' : State) (s' : ℕ)
    → Changes (written bytes (value_of value)) (value_of value) (at m w) s (Ok tt) (at m w') s'
    → Turns (inside m (step_then (written bytes (value_of value)))) w s (Ok (Give value)) m w' s'
wrote m bytes value w s w' s' h = (
  1,
  h.0 ∙ omega arith,
  λ t. sym (ap (λ o. closed (resume m.levels m.context o))
      (ap (λ k. step_then (written bytes (value_of value)) (at m w) k) (one_more t) ∙ h.1 t)),
)

pub not_written : (m : Machine) (bytes : List ℕ) (v : Val) (w : State) (s : ℕ) (stop : Stop) (w' : State) (s' : ℕ) (m' : Machine) → Changes (written bytes v) v (at m w) s (Err stop) (at m w') s'
    → Turns (inside m (step_then (written bytes v))) w s (Err stop) m' w' s'
not_written m bytes v w s (Refused c) w' s' m' h =
    ap (λ o. closed (resume m.levels m.context o)) h.2 ∙ stopped_through m.levels m.context c (at m w) s
    ∙ ap (λ u. Stopped c (unbound u) s) (sym h.0) ∙ ap (λ k. Stopped c (unbound w') k) (sym h.1)
not_written m bytes v w s Storage w' s' m' h = (ap unbound h.0, h.1)

-- ---- a call that is refused

pub nothing_printed : (m : Machine) (o : Output) (x : Option Val) (c : Condition) (w : State) (s : ℕ) → None ≡ x → c ≡ record { kind = ProgramError; items = [] }
    → inside m (output_of o x) w s ≡ Stopped c (unbound w) s
nothing_printed m o None c w s e k = stopped_through m.levels m.context (record { kind = ProgramError; items = [] }) (at m w) s ∙ ap (λ d. Stopped d (unbound w) s) (sym k)
nothing_printed m o (Some v) c w s e k = cc

pub line_refused : (m : Machine) (xs : List Value) (vs : List Val) (c : Condition) (w : State) (s : ℕ) → 1 ≤ length xs → map value_of xs ≡ vs
    → c ≡ record { kind = ProgramError; items = [] } → inside m (line_ended vs) w s ≡ Stopped c (unbound w) s
line_refused m [] vs c w s h e k = absurd (omega (arith, h))
line_refused m (x ∷ xs) vs c w s h e k =
    subst (λ us. inside m (line_ended us) w s ≡ Stopped c (unbound w) s) e
    (stopped_through m.levels m.context (record { kind = ProgramError; items = [] }) (at m w) s ∙ ap (λ d. Stopped d (unbound w) s) (sym k))

pub applied_runs : (m : Machine) (ev : Eval) (vs us : List Val) (f : Function) (w : State) (r : Result Doing Stop) (p : Machine) → us ≡ vs
    → true ≡ fits f.lambda_list vs → Leads (inside m (body_run ev (known us) (sources f.lambda_list us) f.body)) w r p → Leads (inside m (applied_to ev vs f)) w r p
applied_runs m ev vs us f w r p e l h =
    leads_same (inside m (body_run ev (known us) (sources f.lambda_list us) f.body)) (inside m (applied_to ev vs f)) w r p
    (λ t. ap (λ xs. inside m (body_run ev (known xs) (sources f.lambda_list xs) f.body) w t) e
    ∙ ap (λ b. closed (resume m.levels m.context (if b then body_run ev (known vs) (sources f.lambda_list vs) f.body (at m w) t else stopped ProgramError [] (at m w) t))) l) h

pub not_made : (x : Result Val prims.Condition) (f : PrimFault) (stop : Stop) (w : State)
    → AnswersUnlessMemory {A = Value} value_of (Err f) x → ((c : prims.Condition) → StandsFor f c → Signals c stop) → (f ≡ Memory → stop ≡ Storage)
    → Becomes (answered x) w (Err stop)
not_made x f Storage w a h k = tt
not_made x Memory (Refused d) w a h k = absurd (cc (k refl))
not_made (Ok v) prims_fault.ProgramError (Refused d) w a h k = absurd a
not_made (Err c) prims_fault.ProgramError (Refused d) w a h k = λ t. ap (λ y. Stopped y w t) (sym (h c a))
not_made (Ok v) (prims_fault.TypeError u) (Refused d) w a h k = absurd a
not_made (Err c) (prims_fault.TypeError u) (Refused d) w a h k = λ t. ap (λ y. Stopped y w t) (sym (h c a))
not_made (Ok v) prims_fault.IntegerRange (Refused d) w a h k = absurd a
not_made (Err c) prims_fault.IntegerRange (Refused d) w a h k = λ t. ap (λ y. Stopped y w t) (sym (h c a))
not_made (Ok v) prims_fault.DivisionByZero (Refused d) w a h k = absurd a
not_made (Err c) prims_fault.DivisionByZero (Refused d) w a h k = λ t. ap (λ y. Stopped y w t) (sym (h c a))
not_made (Ok v) prims_fault.Unsupported (Refused d) w a h k = absurd a
not_made (Err c) prims_fault.Unsupported (Refused d) w a h k = λ t. ap (λ y. Stopped y w t) (sym (h c a))

pub not_computed : (m m' : Machine) (x : Result Val prims.Condition) (f : PrimFault) (stop : Stop) (w : State)
    → AnswersUnlessMemory {A = Value} value_of (Err f) x → ((c : prims.Condition) → StandsFor f c → Signals c stop) → (f ≡ Memory → stop ≡ Storage)
    → Leads (inside m (answered x)) w (Err stop) m'
not_computed m m' x f Storage w a h k = tt
not_computed m m' x f (Refused d) w a h k = λ t.
    ap (λ o. closed (resume m.levels m.context o)) (not_made x f (Refused d) (at m w) a h k t) ∙ stopped_through m.levels m.context d (at m w) t

-- ---- a f begins

pub start_no_step : (m : Machine) (f : Form) (w : State) (s : ℕ) → s ≡ 0 → denote m (Start f) w s ≡ stopped StepLimit [] (unbound w) s
start_no_step m f w s e =
    ap (denote m (Start f) w) e ∙ ap (λ o. closed (resume m.levels m.context o)) (no_step m.room m.context f (at m w))
    ∙ stopped_through m.levels m.context (record { kind = StepLimit; items = [] }) (at m w) 0 ∙ ap (stopped StepLimit [] (unbound w)) (sym e)

too_deep : (n : ℕ) (env : Context) (f : Form) (w : State) (s : ℕ) → n ≡ 0 → 0 < s → meaning n env f w s ≡ stopped DepthLimit [] w (s - 1)
too_deep n env f w zero e h = absurd (omega arith)
too_deep zero env f w (suc s) e h = ap (stopped DepthLimit [] w) (omega arith)
too_deep (suc n) env f w (suc s) e h = absurd (omega arith)

pub start_too_deep : (m : Machine) (f : Form) (w : State) (s : ℕ) → m.room ≡ 0 → 0 < s → denote m (Start f) w s ≡ stopped DepthLimit [] (unbound w) (s - 1)
start_too_deep m f w s e h =
    ap (λ o. closed (resume m.levels m.context o)) (too_deep m.room m.context f (at m w) s e h)
    ∙ stopped_through m.levels m.context (record { kind = DepthLimit; items = [] }) (at m w) (s - 1)

begins : (n : ℕ) (env : Context) (f : Form) (w : State) (s : ℕ) → 0 < n → 0 < s → meaning n env f w s ≡ body (meaning (n - 1)) env f w (s - 1)
begins n env f w zero h k = absurd (omega arith)
begins zero env f w (suc s) h k = absurd (omega arith)
begins (suc n) env f w (suc s) h k =
    ap (λ j. body (meaning j) env f w s) (omega arith) ∙ ap (body (meaning (suc n - 1)) env f w) (omega arith)

pub start_begins : (ls : List Level) (n : ℕ) (env : Context) (f : Form) (w : State) (s : ℕ) → 0 < n → 0 < s
    → closed (resume ls env (meaning n env f w s)) ≡ closed (resume ls env (body (meaning (n - 1)) env f w (s - 1)))
start_begins ls n env f w s h k = ap (λ o. closed (resume ls env o)) (begins n env f w s h k)

pub start_begins_at : (ls : List Level) (n : ℕ) (env : Context) (f : Form) (w : State) (t : ℕ) → 0 < n
    → closed (resume ls env (meaning n env f w (1 + t))) ≡ closed (resume ls env (body (meaning (n - 1)) env f w t))
start_begins_at ls n env f w t h =
    start_begins ls n env f w (1 + t) h (omega arith) ∙ ap (λ k. closed (resume ls env (body (meaning (n - 1)) env f w k))) (omega arith)

-- ---- what was answered

-- where nothing was asked
pub quiet_answered : (host : Host) (o : Out) (w : State) (s : ℕ) → leaves o w s → leaves_by host o [] w s
quiet_answered host (Gave v u j) w s h = (Given v u j, refl, h)
quiet_answered host (Stopped c u j) w s h = (Signalled c u j, refl, h)
quiet_answered host (Noted n o) w s h = quiet_answered host o w s h
quiet_answered host (Looked name more) w s h =
    quiet_answered host (more (option_map (λ f. f.takes) (host name))) w s (h (option_map (λ f. f.takes) (host name)))
quiet_answered host (Asked name xs more) w s h = absurd h

-- a turn in which nothing was asked
pub turns_ask : (host : Host) (run : Run) (w : State) (s : ℕ) (past : List ℤ) (r : Result Doing Stop) (m : Machine) (w' : State) (s' : ℕ)
    → Turns run w s r m w' s' → Asks host run w s past r m w' s' past
turns_ask host run w s past (Ok d) m w' s' h = (h.0, [], h.1, sym (append-nil past), λ t more. ap (λ o. answered_by host o more) (h.2 t))
turns_ask host run w s past (Err (Refused c)) m w' s' h = (refl, ap (λ o. answered_by host o []) h)
turns_ask host run w s past (Err Storage) m w' s' h = (refl, h.0, h.1)

-- ---- a run

pub reached_on : (host : Host) (run : Run) (w0 : State) (s0 : ℕ) (past0 : List ℤ) (den : Run) (w : State) (s : ℕ) (past : List ℤ)
    (d : Doing) (m : Machine) (w' : State) (s' : ℕ) (past' : List ℤ)
    → Reached host run w0 s0 past0 den w s past → Asks host den w s past (Ok d) m w' s' past' → Reached host run w0 s0 past0 (denote m d) w'
    s' past'
reached_on host run w0 s0 past0 den w s past d m w' s' past' r e = record {
  taken = r.taken + e.0;
  used = r.used ++ e.1;
  steps = r.steps ∙ ap (λ k. r.taken + k) e.2 ∙ sym (add_assoc r.taken e.0 s');
  answers = e.3 ∙ ap (λ xs. xs ++ e.1) r.answers ∙ append_assoc past0 r.used e.1;
  same = λ t more. e.4 t more ∙ r.same (e.0 + t) (e.1 ++ more)
      ∙ ap (λ k. answered_by host (run w0 k) (r.used ++ (e.1 ++ more))) (sym (add_assoc r.taken e.0 t))
      ∙ ap (λ xs. answered_by host (run w0 (r.taken + e.0 + t)) xs) (sym (append_assoc r.used e.1 more));
}

-- what the run comes to is what is left comes to, where no more answers come
pub reached_now : (host : Host) (run : Run) (w0 : State) (s0 : ℕ) (past0 : List ℤ) (den : Run) (w : State) (s : ℕ) (past : List ℤ)
    → (r : Reached host run w0 s0 past0 den w s past)
    → (t : ℕ) → answered_by host (run w0 (r.taken + t)) r.used ≡ answered_by host (den w t) []
reached_now host run w0 s0 past0 den w s past r t = ap (λ xs. answered_by host (run w0 (r.taken + t)) xs) (sym (append-nil r.used))
    ∙ sym (r.same t [])

pub ended : (host : Host) (run : Run) (w0 : State) (s0 : ℕ) (past0 : List ℤ) (den : Run) (w : State) (s : ℕ) (past : List ℤ) (stop : Stop)
    (m : Machine) (w' : State) (s' : ℕ) (past' : List ℤ)
    → leaves (den w 0) (unbound w) 0 → Reached host run w0 s0 past0 den w s past → Asks host den w s past (Err stop) m w' s' past'
    → AnswersWith host run w0 s0 past0 (Err stop) (unbound w') s' past'
ended host run w0 s0 past0 den w s past (Refused c) m w' s' past' q r e = (
  r.used,
  e.0 ∙ r.answers,
  ap (λ k. answered_by host (run w0 k) r.used) r.steps ∙ reached_now host run w0 s0 past0 den w s past r
      s ∙ e.1,
)
ended host run w0 s0 past0 den w s past Storage m w' s' past' q r e =
    let x : leaves_by host (den w 0) [] (unbound w) 0 = quiet_answered host (den w 0) (unbound w) 0 q in (
      r.used,
      e.0 ∙ r.answers,
      r.taken,
      r.steps ∙ ap (λ k. r.taken + k) (sym e.2),
      (
        x.0,
        ap (λ k. answered_by host (run w0 k) r.used) (sym (add-zero r.taken)) ∙ reached_now host run w0 s0 past0 den w s past r 0 ∙ x.1,
        subst (λ u. ends_in x.0 u 0) (sym e.1) x.2,
      ),
    )

-- the top level takes the value
pub popped : (m : Machine) (l : Level) (ls : List Level) (value : Value) (w : State) (t : ℕ) → m.levels ≡ l ∷ ls
    → given_to (record { levels = ls; context = m.context; locals = m.locals; room = l.room }) l.frame (value_of value) w t ≡ denote m (Give value) w t
popped m l ls value w t e = ap (λ x. closed (resume x m.context (Gave (value_of value) (at m w) t))) (sym e)

-- ---- a global variable is set

pub global_unbound : (m : Machine) (name : Name) (v : Val) (c : Condition) (w : State) (s : ℕ) → is_global w.globals name ≡ false
    → c ≡ record { kind = UnboundVariable; items = name_value name ∷ [] } → inside m (stored_globally name v) w s ≡ Stopped c (unbound w) s
global_unbound m name v c w s e k =
    ap (λ b. closed (resume m.levels m.context (if b then step_then (global_set name v) (at m w) s else stopped UnboundVariable (name_value name ∷ []) (at m w) s))) e
    ∙ stopped_through m.levels m.context (record { kind = UnboundVariable; items = name_value name ∷ [] }) (at m w) s ∙ ap (λ d. Stopped d (unbound w) s) (sym k)

global_found : (m : Machine) (name : Name) (v : Val) (w : State) (s : ℕ) → is_global w.globals name ≡ true
    → inside m (stored_globally name v) w s ≡ inside m (step_then (global_set name v)) w s
global_found m name v w s e =
    ap (λ b. closed (resume m.levels m.context (if b then step_then (global_set name v) (at m w) s else stopped UnboundVariable (name_value name ∷ []) (at m w) s))) e

pub global_no_step : (m : Machine) (name : Name) (v : Val) (c : Condition) (w : State) (s : ℕ) → is_global w.globals name ≡ true → s ≡ 0
    → c ≡ record { kind = StepLimit; items = [] } → inside m (stored_globally name v) w s ≡ Stopped c (unbound w) s
global_no_step m name v c w s e z k =
    global_found m name v w s e ∙ ap (inside m (step_then (global_set name v)) w) z
    ∙ stopped_through m.levels m.context (record { kind = StepLimit; items = [] }) (at m w) 0
    ∙ ap (λ d. Stopped d (unbound w) 0) (sym k) ∙ ap (Stopped c (unbound w)) (sym z)

pub global_next : (m : Machine) (name : Name) (v : Val) (w : State) (t : ℕ) → is_global w.globals name ≡ true
    → inside m (stored_globally name v) w (1 + t) ≡ inside m (global_set name v) w t
global_next m name v w t e = global_found m name v w (1 + t) e ∙ ap (inside m (step_then (global_set name v)) w) (one_more t)

-- ---- loops

pub loop_ends : (ev : Eval) (env : Context) (l : Loop) (counter : ℕ × ℕ) (w : State) (t : ℕ) → counter.0 ≡ 0
    → then_do (result_value ev env l.has_result l.forms (counted l (pos counter.1) w) t) (leaving l.outer) ≡ turns ev env l counter.0 counter.1 w t
loop_ends ev env l counter w t e = ap (λ i. turns ev env l i counter.1 w t) (sym e)

pub loop_no_step : (m : Machine) (ev : Eval) (env : Context) (l : Loop) (counter next : ℕ × ℕ) (c : Condition) (w : State) (s : ℕ) → counter.0 ≡ suc next.0 → s ≡ 0
    → c ≡ record { kind = StepLimit; items = [] } → inside m (turns ev env l counter.0 counter.1) w s ≡ Stopped c (unbound w) s
loop_no_step m ev env l counter next c w s e z k =
    ap (λ i. inside m (turns ev env l i counter.1) w s) e ∙ ap (inside m (turns ev env l (suc next.0) counter.1) w) z
    ∙ stopped_through m.levels m.context (record { kind = StepLimit; items = [] }) (at m w) 0
    ∙ ap (λ d. Stopped d (unbound w) 0) (sym k) ∙ ap (Stopped c (unbound w)) (sym z)

-- a turn of a loop, after its step
abbrev pub turn_of : Eval → Context → Loop → ℤ → ℕ × ℕ → Run
turn_of ev env l n next w s =
    then_do (sequence ev env (body_of l.has_result l.forms) (list nil) (counted l n w) s) (λ v. turns ev env l next.0 next.1)

pub loop_turns : (ev : Eval) (env : Context) (l : Loop) (counter next : ℕ × ℕ) (w : State) (t : ℕ) → counter.0 ≡ suc next.0 → next.1 ≡ suc counter.1
    → turn_of ev env l (pos counter.1) next w t ≡ turns ev env l counter.0 counter.1 w (1 + t)
loop_turns ev env l counter next w t e f =
    ap (λ j. then_do (sequence ev env (body_of l.has_result l.forms) (list nil) (counted l (pos counter.1) w) t) (λ v. turns ev env l next.0 j)) f
    ∙ sym (ap (λ i. turns ev env l i counter.1 w (1 + t)) e ∙ ap (turns ev env l (suc next.0) counter.1 w) (one_more t))

-- ---- assignment

becomes_same : (run run' : Run) (w : State) (r : Result Value Stop) → ((t : ℕ) → run' w t ≡ run w t) → Becomes run w r → Becomes run' w r
becomes_same run run' w (Ok v) e h = λ t. e t ∙ h t
becomes_same run run' w (Err (Refused c)) e h = λ t. e t ∙ h t
becomes_same run run' w (Err Storage) e h = tt

pub made_from : (p : of_values.Primitive) (name : Name) (amount : Val) (w : State) (v : Val) (r : Result Value Stop) → Some v ≡ found_value w name
    → Becomes (answered (answer p (v ∷ amount ∷ []))) w r → Becomes (made_of p name amount) w r
made_from p name amount w v r e h =
    becomes_same (answered (answer p (v ∷ amount ∷ []))) (made_of p name amount) w r
    (λ t. ap (λ o. then_do (variable_value name o w t) (λ old. answered (answer p (old ∷ amount ∷ [])))) (sym e)) h

pub not_changed : (m : Machine) (p : of_values.Primitive) (name : Name) (amount : Val) (w : State) (s : ℕ) (stop : Stop) (n : Machine)
    → Becomes (made_of p name amount) (at m w) (Err stop) → Turns (inside m (changed p name amount)) w s (Err stop) n w s
not_changed m p name amount w s (Refused c) n h =
    ap (λ o. closed (resume m.levels m.context (then_do o (λ v. stored name v)))) (h s) ∙ stopped_through m.levels m.context c (at m w) s
not_changed m p name amount w s Storage n h = (refl, refl)

pub nothing_stored : (m : Machine) (name : Name) (o : Option Val) (c : Condition) (w : State) (s : ℕ) → None ≡ o → c ≡ record { kind = ProgramError; items = [] }
    → inside m (stored_only name o) w s ≡ Stopped c (unbound w) s
nothing_stored m name None c w s e k = stopped_through m.levels m.context (record { kind = ProgramError; items = [] }) (at m w) s ∙ ap (λ d. Stopped d (unbound w) s) (sym k)
nothing_stored m name (Some v) c w s e k = cc

pub nothing_changed : (m : Machine) (p : of_values.Primitive) (name : Name) (o : Option Val) (c : Condition) (w : State) (s : ℕ) → None ≡ o
    → c ≡ record { kind = ProgramError; items = [] } → inside m (changed_only p name o) w s ≡ Stopped c (unbound w) s
nothing_changed m p name None c w s e k = stopped_through m.levels m.context (record { kind = ProgramError; items = [] }) (at m w) s ∙ ap (λ d. Stopped d (unbound w) s) (sym k)
nothing_changed m p name (Some v) c w s e k = cc

-- a turn of a run that ends like another
pub turns_same : (run run' : Run) (w : State) (s : ℕ) (r : Result Doing Stop) (m : Machine) (w' : State) (s' : ℕ) → ((t : ℕ) → run w t ≡ run' w t)
    → Turns run w s r m w' s' → Turns run' w s r m w' s'
turns_same run run' w s (Ok d) m w' s' e h = (h.0, h.1, λ t. h.2 t ∙ e (h.0 + t))
turns_same run run' w s (Err (Refused c)) m w' s' e h = sym (e s) ∙ h
turns_same run run' w s (Err Storage) m w' s' e h = h

-- a run that stops at once
pub stops_at_once : (m n : Machine) (run : Run) (w : State) (s : ℕ) (c : Condition) → run (at m w) s ≡ Stopped c (at m w) s → Turns (inside m run) w s (Err (Refused c)) n w s
stops_at_once m n run w s c e = ap (λ o. closed (resume m.levels m.context o)) e ∙ stopped_through m.levels m.context c (at m w) s
