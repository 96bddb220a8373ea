-- What comes next keeps what an evaluation keeps: so with no step left the machine changes nothing.
use Rattle.std.specs.Prelude.{option_map}
use Rattle.std.proofs.Common.{ℕ, drop, List, [], ◌∷◌, ◌++◌, refl}
use Rattle.lisp_data.specs.Value.{Val}
use Rattle.lisp_data.specs.ValueView.{value_of}
use Rattle.clos_forms.specs.Form.{Forms, operator_in}
use Rattle.clos_forms.specs.Quotation.{name_value}
use Rattle.clos_meaning.specs.clos_world.Values.{last_first}
use Rattle.clos_meaning.specs.clos_world.World.{State, unbound, held}
use Rattle.clos_meaning.specs.clos_world.clos_class.Slots.{Effective}
use Rattle.clos_meaning.specs.clos_world.clos_class.clos_defclass.declared.class.DefaultInitarg.{DefaultInitarg}
use Rattle.clos_meaning.specs.clos_world.clos_class.declared.effective_slots.EffectiveSlot.{EffectiveSlot}
use Rattle.clos_forms.specs.clos_names.Callee.{callee_of}
use Rattle.clos_meaning.specs.Bodies.{parameters_run}
use Rattle.clos_meaning.specs.Contexts.{Context}
use Rattle.clos_meaning.specs.Control.{clauses, sequence}
use Rattle.clos_meaning.specs.Filling.{Subject, fill}
use Rattle.clos_machine.specs.Machine.{access_of, acted, at, below, after, default_given, doing_run, fill_with, followed, initargs_in, names_in, resume, denote, loop_of, performed, slot_names, slot_visited, slots_left, subject_of, tended, targets, visited}
use Rattle.clos_meaning.specs.Meaning.{alone, changed_place, collect, meaning}
use Rattle.clos_meaning.specs.Functions.{place_set}
use Rattle.clos_meaning.specs.Outcome.{leaves, Eval, Out, then_do, is_true}
use Rattle.clos_meaning.specs.SlotNames.{place_denoted}
use Rattle.clos_meaning.specs.Variables.{binding, in_order, turns}
use Rattle.clos_machine.specs.declared.machine.Action.{Action}
use Rattle.clos_machine.specs.declared.machine.Action.TheVariants.{Call, Set, Store, Change, NewValue, Amount, ChangePlace, Allocate, Initialize, Read, CallNext}
use Rattle.clos_machine.specs.declared.machine.BuiltIn.{BuiltIn}
use Rattle.clos_machine.specs.declared.machine.BuiltIn.TheVariants.{Reader, Writer, System}
use Rattle.clos_machine.specs.declared.machine.Control.{Control}
use Rattle.clos_machine.specs.declared.machine.Doing.{Doing}
use Rattle.clos_machine.specs.declared.machine.Control.TheVariants.{Progn, Prog1, If, When, Unless, And, Or}
use Rattle.clos_machine.specs.declared.machine.Doing.TheVariants.{Start, Act, Invoke, Perform, Tend, Native, Give}
use Rattle.clos_machine.specs.declared.machine.Doing.TheVariants as doing
use Rattle.clos_machine.specs.declared.machine.Frame.{Frame}
use Rattle.clos_machine.specs.declared.machine.Frame.TheVariants.{Rest, Keep, Clause, Collect, Body, Bind, Scope, InOrder, Aside, Count, Turn, Setq, Setf, Changed, Default, Filled, Updated, Truth, Slots}
use Rattle.clos_forms.specs.clos_names.declared.callee.SlotFunction.TheVariants.{SlotValue, SlotBoundp}
use Rattle.clos_machine.specs.declared.machine.SlotVisit.{SlotVisit}
use Rattle.clos_machine.specs.declared.machine.SlotVisit.TheVariants as visits
use Rattle.clos_machine.specs.declared.machine.Visit as visiting
use Rattle.clos_machine.specs.declared.machine.Visit.TheVariants as visit
use Rattle.clos_machine.specs.declared.machine.InstanceTask.{InstanceTask}
use Rattle.clos_machine.specs.declared.machine.InstanceTask.TheVariants.{Fill, FillWith, Visit}
use Rattle.clos_machine.specs.declared.machine.Level.{Level}
use Rattle.clos_machine.specs.declared.machine.Machine.{Machine}
use Rattle.clos_meaning.proofs.Kept.{Keeps, Kept, allocate_kept, amount_kept, and_kept, applied_kept, aside_kept, binding_kept, branch_kept, changed_from_kept, changed_place_kept, changed_to_kept, checked_kept, choice_kept, clauses_kept, collect_kept, defaulted_kept, fill_kept, filled_with_kept, invoked_kept, keeping_kept, meaning_kept, name_changed_kept, name_set_kept, native_kept, next_given_kept, or_kept, order_kept, parameters_kept, read_kept, reader_kept, reinitialize_instance_kept, repeated_kept, restored, sequence_kept, set_kept, setf_kept, setq_kept, slot_answer_kept, slot_put_kept, slots_filled_kept, still, system_kept, then_kept, turns_kept, where_false_kept, where_true_kept, within_kept, within_slots_kept, writer_kept}

module _ (ev : Eval) (h : Keeps ev) where
  -- ---- points of return

  fill_with_kept : (env : Context) (f : Subject) (slots : List EffectiveSlot) (v : Val) (w : State) (k : ℕ) → Kept w k (fill_with ev env f slots v w k)
  fill_with_kept env f [] v w k = still w k
  fill_with_kept env f (slot ∷ slots) v w k = filled_with_kept f slot (λ u j. fill ev env f slots u j) (λ u j. fill_kept ev h env f slots u j) v w k

  default_given_kept : (env : Context) (c : ℕ) (e : Effective) (ds : List DefaultInitarg) (vs : List Val) (v : Val) (w : State) (k : ℕ)
      → Kept w k (default_given ev env c e ds vs v w k)
  default_given_kept env c e [] vs v w k = still w k
  default_given_kept env c e (d ∷ ds) vs v w k = defaulted_kept ev h env c e ds (vs ++ name_value d.name ∷ v ∷ []) w k

  -- ---- instances that are up to date

  slot_visited_kept : (env : Context) (i : ℕ) (v : SlotVisit) (w : State) (k : ℕ) → Kept w k (slot_visited ev env i v w k)
  slot_visited_kept env i (visits.Read name) w k = slot_answer_kept ev h env SlotValue i name w k
  slot_visited_kept env i (visits.Test name) w k = slot_answer_kept ev h env SlotBoundp i name w k
  slot_visited_kept env i (visits.Change name value given) w k = slot_put_kept ev h env i name (option_map value_of value) (value_of given) w k

  visited_kept : (env : Context) (i : ℕ) (v : visiting.Visit) (w : State) (k : ℕ) → Kept w k (visited ev env i v w k)
  visited_kept env i (visit.Slot v) w k = slot_visited_kept env i v w k
  visited_kept env i (visit.Reinitialize initargs) w k = reinitialize_instance_kept ev h initargs i w k
  visited_kept env i (visit.Fill arguments) w k = slots_filled_kept ev h i (names_in arguments) (initargs_in arguments) w k
  visited_kept env i (visit.ChangeClass c initargs) w k = changed_to_kept ev h i c.0 initargs w k

  -- ---- actions

  acted_kept : (env : Context) (a : Action) (vs : List Val) (w : State) (k : ℕ) → Kept w k (acted ev env a vs w k)
  acted_kept env (Call name) vs w k = applied_kept ev h env (callee_of name) name vs w k
  acted_kept env (Set t) vs w k = set_kept ev h env (access_of t) vs w k
  acted_kept env (Store name) vs w k = name_set_kept ev h env name (place_denoted w name) vs w k
  acted_kept env (Change p name) vs w k = name_changed_kept ev h env p name (place_denoted w name) vs w k
  acted_kept env (NewValue t f) vs w k =
      collect_kept ev h env (alone f) vs (λ us u j. place_set ev env (access_of t) us u j) (λ us u j. set_kept ev h env (access_of t) us u j) w k
  acted_kept env (Amount p t fs) vs w k =
      amount_kept ev h env fs vs (λ us u j. changed_place ev env p (access_of t.value) (last_first us) u j)
      (λ us u j. changed_place_kept ev h env p (access_of t.value) (last_first us) u j) w k
  acted_kept env (ChangePlace p t) vs w k = changed_place_kept ev h env p (access_of t) (last_first vs) w k
  acted_kept env (Allocate c e) vs w k = allocate_kept ev h env c.0 e vs w k
  acted_kept env (Initialize c e i) vs w k = checked_kept ev h c.0 e vs i.0 w k
  acted_kept env (Read t) vs w k = read_kept ev h env (access_of t) vs w k
  acted_kept env CallNext vs w k = next_given_kept ev h env env.running vs w k

  collect_acted_kept : (env : Context) (fs : Forms) (vs : List Val) (a : Action) (w : State) (k : ℕ) → Kept w k (collect ev env fs vs (acted ev env a) w k)
  collect_acted_kept env fs vs a w k = collect_kept ev h env fs vs (acted ev env a) (λ us u j. acted_kept env a us u j) w k

  -- ---- how forms follow one another

  followed_kept : (env : Context) (c : Control) (fs : Forms) (v : Val) (w : State) (k : ℕ) → Kept w k (followed ev env c fs v w k)
  followed_kept env Progn fs v w k = sequence_kept ev h env fs v w k
  followed_kept env Prog1 fs v w k = keeping_kept ev h env fs v w k
  followed_kept env If fs v w k = branch_kept ev h env (is_true v) fs w k
  followed_kept env When fs v w k = where_true_kept ev h env fs v w k
  followed_kept env Unless fs v w k = where_false_kept ev h env fs v w k
  followed_kept env And fs v w k = and_kept ev h env fs v w k
  followed_kept env Or fs v w k = or_kept ev h env fs v w k

  -- ---- frames

  after_kept : (env : Context) (f : Frame) (v : Val) (w : State) (k : ℕ) → Kept w k (after ev env f v w k)
  after_kept env (Rest c fs) v w k = followed_kept env c fs v w k
  after_kept env (Keep fs u) v w k = keeping_kept ev h env fs (value_of u) w k
  after_kept env (Clause fs cs) v w k =
      choice_kept (is_true v) w k (sequence ev env fs v w k) (clauses ev env cs w k) (sequence_kept ev h env fs v w k) (clauses_kept ev h env cs w k)
  after_kept env (Collect action rest values) v w k = collect_acted_kept env rest (values ++ v ∷ []) action w k
  after_kept env (Body rest saved locals) v w k = restored locals w k (sequence ev env rest v w k) (sequence_kept ev h env rest v w k)
  after_kept env (Bind b) v w k =
      restored b.value.outer w k (binding b.value.name v (parameters_run ev env b.value.plan b.value.body) w k)
      (binding_kept b.value.name v (parameters_run ev env b.value.plan b.value.body) (λ u j. parameters_kept ev h env b.value.plan b.value.body u j) w k)
  after_kept env (Scope outer rest) v w k = within_kept ev h env outer rest v w k
  after_kept env (InOrder outer name plan forms) v w k =
      binding_kept name v (in_order ev env outer plan forms) (λ u j. order_kept ev h env outer plan forms u j) w k
  after_kept env (Aside b) v w k = aside_kept ev h env b.value.outer b.value.plan b.value.forms ((b.value.name, held v) ∷ b.value.locals) w k
  after_kept env (Count l) v w k = repeated_kept ev h env (loop_of l.value) v w k
  after_kept env (Turn l counter rest) v w k =
      then_kept w k (sequence ev env rest v w k) (λ u. turns ev env (loop_of l.value) counter.0 counter.1) (sequence_kept ev h env rest v w k)
      (λ x u j. turns_kept ev h env (loop_of l.value) counter.0 counter.1 u j)
  after_kept env (Setq f place rest) v w k = setq_kept ev h env (drop place (targets (operator_in f))) rest v w k
  after_kept env (Setf rest) v w k = setf_kept ev h env rest v w k
  after_kept env (Changed p t vs amount) v w k = changed_from_kept ev h env p (access_of t) vs (value_of amount) v w k
  after_kept env (Default c e place vs) v w k = default_given_kept env c.0 e (drop place e.defaults) vs v w k
  after_kept env (Filled f) v w k = fill_with_kept env (subject_of f.value) (slots_left f.value) v w k
  after_kept env (Updated i x) v w k = visited_kept env i.0 x.value w k
  after_kept env Truth v w k = still w k
  after_kept env (Slots f rest) v w k = within_slots_kept ev h env (slot_names (operator_in f)) rest v w k

  -- ---- instances

  tended_kept : (env : Context) (t : InstanceTask) (w : State) (k : ℕ) → Kept w k (tended ev env t w k)
  tended_kept env (Fill f) w k = fill_kept ev h env (subject_of f.value) (slots_left f.value) w k
  tended_kept env (FillWith f v) w k = fill_with_kept env (subject_of f.value) (slots_left f.value) (value_of v) w k
  tended_kept env (Visit i v) w k = visited_kept env i.0 v.value w k

  -- ---- methods without forms

  performed_kept : (env : Context) (b : BuiltIn) (vs : List Val) (w : State) (k : ℕ) → Kept w k (performed ev env b vs w k)
  performed_kept env (Reader slot) vs w k = reader_kept ev h env slot vs w k
  performed_kept env (Writer slot) vs w k = writer_kept ev h env slot vs w k
  performed_kept env (System f) vs w k = system_kept ev h f vs w k

resume_kept : (ls : List Level) (env : Context) (w : State) (k : ℕ) (o : Out) → Kept w k o → Kept w k (resume ls env o)
resume_kept [] env w k o h = h
resume_kept (l ∷ ls) env w k o h =
    resume_kept ls (below env l.frame) w k (then_do o (after (meaning l.room) env l.frame))
    (then_kept w k o (after (meaning l.room) env l.frame) h (λ v u j. after_kept (meaning l.room) (meaning_kept l.room) env l.frame v u j))

-- ---- what comes next

run_kept : (n : ℕ) (env : Context) (d : Doing) (w : State) (k : ℕ) → Kept w k (doing_run n env d w k)
run_kept n env (Start f) w k = meaning_kept n env f w k
run_kept n env (doing.Collect action fs vs) w k = collect_acted_kept (meaning n) (meaning_kept n) env fs vs action w k
run_kept n env (Act action vs) w k = acted_kept (meaning n) (meaning_kept n) env action vs w k
run_kept n env (Invoke f vs) w k = invoked_kept (meaning n) (meaning_kept n) f vs w k
run_kept n env (Perform b vs) w k = performed_kept (meaning n) (meaning_kept n) env b vs w k
run_kept n env (doing.Turn l counter) w k = turns_kept (meaning n) (meaning_kept n) env (loop_of l.value) counter.0 counter.1 w k
run_kept n env (Tend task) w k = tended_kept (meaning n) (meaning_kept n) env task w k
run_kept n env (Native vs) w k = native_kept vs w k
run_kept n env (Give v) w k = still w k

-- with no step left, what comes next and all that waits change nothing
pub doing_quiet : (m : Machine) (d : Doing) (w : State) → leaves (denote m d w 0) (unbound w) 0
doing_quiet m d w = (resume_kept m.levels m.context (at m w) 0 (doing_run m.room m.context d (at m w) 0) (run_kept m.room m.context d (at m w) 0)).1 refl
