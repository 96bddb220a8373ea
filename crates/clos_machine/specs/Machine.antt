-- What a state of the machine stands for: the rest of the definition.
use Rattle.std.specs.Prelude.{◌≡◌, ℕ, suc, ℤ, ◌+◌, ◌*◌, ◌≤◌, ◌<◌, List, [], ◌∷◌, ◌++◌, Result, Ok, Err, Option, Some, None, drop, option_map, slice_get, Bool, true, false, if◌then◌else◌}
use Rattle.lisp_data.specs.Name.{Name}
use Rattle.lisp_data.specs.Value.{Val, instance, list, nil}
use Rattle.lisp_data.specs.ValueView.{value_of}
use Rattle.std.specs.Option.{option_map_or}
use Rattle.lisp_data.specs.declared.ids.ClassId.{ClassId}
use Rattle.lisp_data.specs.declared.ids.InstanceId.{InstanceId}
use Rattle.lisp_data.specs.declared.value.Value.{Value}
use Rattle.lisp_prims.specs.Primitive.{truth}
use Rattle.clos_forms.specs.Form.{Form, Forms, operator_in}
use Rattle.clos_forms.specs.Form as form
use Rattle.clos_forms.specs.Operator as of
use Rattle.clos_forms.specs.Operator.{Operator, Bound, BoundSlot}
use Rattle.clos_forms.specs.Quotation.{name_value}
use Rattle.clos_meaning.specs.clos_world.Globals.{Variables, is_global}
use Rattle.clos_meaning.specs.clos_world.Values.{last_first}
use Rattle.clos_meaning.specs.clos_world.clos_class.Slots.{Effective}
use Rattle.clos_meaning.specs.clos_world.clos_class.clos_defclass.declared.class.DefaultInitarg.{DefaultInitarg}
use Rattle.clos_meaning.specs.clos_world.clos_class.declared.effective_slots.EffectiveSlot.{EffectiveSlot}
use Rattle.clos_meaning.specs.clos_world.World.{State, held, Local, bound_as, unbound}
use Rattle.clos_meaning.specs.clos_world.declared.condition.Condition.{Condition}
use Rattle.clos_meaning.specs.clos_world.declared.condition.ConditionKind.TheVariants.{ProgramError, Unsupported}
use Rattle.clos_meaning.specs.clos_world.declared.condition.Stop.{Stop}
use Rattle.clos_meaning.specs.clos_world.declared.condition.Stop.TheVariants.{Refused, Storage}
use Rattle.clos_meaning.specs.Accessors.{read_by, written_by}
use Rattle.clos_meaning.specs.Bodies.{restoring, parameters_run}
use Rattle.clos_meaning.specs.Control.{and_then, branch_by, clauses, first_then, keeping, or_then, sequence, tested, where_false, where_true}
use Rattle.clos_meaning.specs.Filling.{Subject, fill, filled_with}
use Rattle.clos_meaning.specs.GenericCalls.{invoked}
use Rattle.clos_meaning.specs.Host.{Host, answered_by}
use Rattle.clos_meaning.specs.Initialization.{allocate, checked, defaulted}
use Rattle.clos_meaning.specs.Functions.{Access, call_access, called, place_read, place_set, slot_access}
use Rattle.clos_meaning.specs.Meaning.{changed_from, changed_place, collect, setq, setf, meaning, closed, name_changed_by, place_changed_by, place_set_to}
use Rattle.clos_meaning.specs.Natives.{native_called}
use Rattle.clos_meaning.specs.NextMethods.{next_with}
use Rattle.clos_meaning.specs.Outcome.{End, Out, Gave, Given, Signalled, Stopped, Run, Eval, then_do, step_then, ends_in, gave, is_true, leaves, stopped}
use Rattle.clos_meaning.specs.Parameters.{Sources, argument, refused, init}
use Rattle.clos_forms.specs.clos_names.declared.callee.SlotFunction.TheVariants.{SlotValue, SlotBoundp}
use Rattle.clos_meaning.specs.ChangeClass.{changed_to}
use Rattle.clos_meaning.specs.Contexts.{Context}
use Rattle.clos_meaning.specs.SlotNames.{name_stored, within_slots}
use Rattle.clos_meaning.specs.Slots.{slot_answer, slot_put}
use Rattle.clos_meaning.specs.SystemMethods.{reinitialize_instance, slots_filled, system_method_run}
use Rattle.clos_meaning.specs.Variables.{Loop, found_value, in_order, binding, within, aside, repeated, turns}
use Rattle.clos_machine.specs.declared.machine.Action.{Action}
use Rattle.clos_machine.specs.declared.machine.Action.TheVariants.{Call, Set, Store, Change, NewValue, Amount, ChangePlace, Allocate, Initialize, Read, CallNext}
use Rattle.clos_machine.specs.declared.machine.BuiltIn.{BuiltIn}
use Rattle.clos_machine.specs.declared.machine.BuiltIn.TheVariants.{Reader, Writer, System}
use Rattle.clos_machine.specs.declared.machine.Control.{Control}
use Rattle.clos_machine.specs.declared.machine.Control.TheVariants.{Progn, Prog1, If, When, Unless, And, Or}
use Rattle.clos_machine.specs.declared.machine.Doing.{Doing}
use Rattle.clos_machine.specs.declared.machine.Doing.TheVariants.{Start, Act, Invoke, Perform, Tend, Native, Give}
use Rattle.clos_machine.specs.declared.machine.Doing.TheVariants as doing
use Rattle.clos_machine.specs.declared.machine.Filling.{Filling}
use Rattle.clos_machine.specs.declared.machine.Frame.{Frame}
use Rattle.clos_machine.specs.declared.machine.Frame.TheVariants.{Rest, Keep, Clause, Collect, Body, Bind, Scope, InOrder, Aside, Count, Turn, Setq, Setf, Changed, Default, Filled, Updated, Truth, Slots}
use Rattle.clos_machine.specs.declared.machine.InstanceTask.{InstanceTask}
use Rattle.clos_machine.specs.declared.machine.InstanceTask.TheVariants.{Fill, FillWith, Visit}
use Rattle.clos_machine.specs.declared.machine.Level.{Level}
use Rattle.clos_machine.specs.declared.machine.Machine.{Machine}
use Rattle.clos_machine.specs.declared.machine.Repetition.{Repetition}
use Rattle.clos_machine.specs.declared.machine.SlotVisit.{SlotVisit}
use Rattle.clos_machine.specs.declared.machine.SlotVisit.TheVariants as visits
use Rattle.clos_machine.specs.declared.machine.Target.{Target}
use Rattle.clos_machine.specs.declared.machine.Target.TheVariants as target
use Rattle.clos_machine.specs.declared.machine.Visit as visiting
use Rattle.clos_machine.specs.declared.machine.Visit.TheVariants as visit

-- ---- what actions do, in the words of the meaning

-- how a place is accessed
abbrev pub access_of : Target → Access
access_of (target.Call name) = call_access name
access_of target.SlotValue = slot_access

-- the arguments of shared-initialize after the instance: the names of the slots, and the initargs
abbrev pub names_in : List Val → Val
names_in vs = option_map_or (λ v. v) (slice_get vs 1) (list nil)

abbrev pub initargs_in : List Val → List Val
initargs_in vs = drop 2 vs

abbrev pub subject_of : Filling → Subject
subject_of f = record { instance = f.instance.0; class = f.class.0; names = names_in f.arguments; initargs = initargs_in f.arguments }

-- the slots that come next
abbrev pub slots_left : Filling → List EffectiveSlot
slots_left f = drop f.place f.effective.slots

-- the slots that come next, where the value of the first one's initform is there
abbrev pub fill_with : Eval → Context → Subject → List EffectiveSlot → Val → Run
fill_with ev env f [] v w s = Gave (instance f.instance) w s
fill_with ev env f (slot ∷ slots) v w s = filled_with f slot (λ u k. fill ev env f slots u k) v w s

-- the default initargs that come next, where the value of the first one is there
abbrev pub default_given : Eval → Context → ℕ → Effective → List DefaultInitarg → List Val → Val → Run
default_given ev env c e [] vs v w s = stopped ProgramError [] w s
default_given ev env c e (d ∷ ds) vs v w s = defaulted ev env c e ds (vs ++ name_value d.name ∷ v ∷ []) w s

-- ---- what is done with an instance that is up to date

abbrev pub slot_visited : Eval → Context → ℕ → SlotVisit → Run
slot_visited ev env i (visits.Read name) w s = slot_answer ev env SlotValue i name w s
slot_visited ev env i (visits.Test name) w s = slot_answer ev env SlotBoundp i name w s
slot_visited ev env i (visits.Change name value given) w s = slot_put ev env i name (option_map value_of value) (value_of given) w s

abbrev pub visited : Eval → Context → ℕ → visiting.Visit → Run
visited ev env i (visit.Slot v) w s = slot_visited ev env i v w s
visited ev env i (visit.Reinitialize initargs) w s = reinitialize_instance ev initargs i w s
visited ev env i (visit.Fill arguments) w s = slots_filled ev i (names_in arguments) (initargs_in arguments) w s
visited ev env i (visit.ChangeClass c initargs) w s = changed_to ev i c.0 initargs w s

-- what is done with the values
abbrev pub acted : Eval → Context → Action → List Val → Run
acted ev env (Call name) = called ev env name
acted ev env (Set t) = place_set ev env (access_of t)
acted ev env (Store name) = name_stored ev env name
acted ev env (Change p name) = name_changed_by ev env p name
acted ev env (NewValue t f) = place_set_to ev env (access_of t) f
acted ev env (Amount p t fs) = place_changed_by ev env p (access_of t.value) fs
acted ev env (ChangePlace p t) = λ vs. changed_place ev env p (access_of t) (last_first vs)
acted ev env (Allocate c e) = allocate ev env c.0 e
acted ev env (Initialize c e i) = λ vs. checked ev c.0 e vs i.0
acted ev env (Read t) = place_read ev env (access_of t)
acted ev env CallNext = next_with ev env

-- what is done with an instance
abbrev pub tended : Eval → Context → InstanceTask → Run
tended ev env (Fill f) = fill ev env (subject_of f.value) (slots_left f.value)
tended ev env (FillWith f v) = fill_with ev env (subject_of f.value) (slots_left f.value) (value_of v)
tended ev env (Visit i v) = visited ev env i.0 v.value

-- what a method without forms does with the arguments of its call
abbrev pub performed : Eval → Context → BuiltIn → List Val → Run
performed ev env (Reader slot) = read_by ev env slot
performed ev env (Writer slot) = written_by ev env slot
performed ev env (System f) = system_method_run ev f

-- these forms, and then what is done with their values
abbrev pub collected : Eval → Context → Forms → Action → Run
collected ev env fs action w s = collect ev env fs [] (acted ev env action) w s

-- ---- how forms follow one another

-- what follows a value, with these forms left
abbrev pub followed : Eval → Context → Control → Forms → Val → Run
followed ev env Progn = sequence ev env
followed ev env Prog1 = keeping ev env
followed ev env If = branch_by ev env
followed ev env When = where_true ev env
followed ev env Unless = where_false ev env
followed ev env And = and_then ev env
followed ev env Or = or_then ev env

-- the first of these forms, and what follows its value; or this value where there is none
abbrev pub going : Eval → Context → Control → Forms → Val → Run
going ev env c fs v w s = first_then ev env fs (followed ev env c) v w s

-- ---- frames

-- these variables, after one of this name that has an init form
abbrev pub with_next : Option Name → List Bound → List Bound
with_next None bs = []
with_next (Some name) bs = (record { name = name; has_init = true }) ∷ bs

-- the names of a setq form
abbrev pub targets : Operator → List Name
targets (of.setq names) = names
targets o = []

-- the names of a with-slots form
abbrev pub slot_names : Operator → List BoundSlot
slot_names (of.with_slots bs) = bs
slot_names o = []

abbrev pub loop_of : Repetition → Loop
loop_of r = record { outer = r.outer; name = r.name; has_result = r.has_result; forms = r.forms }

-- the context under a frame
abbrev pub below : Context → Frame → Context
below env (Rest c fs) = env
below env (Keep fs v) = env
below env (Clause fs cs) = env
below env (Collect action rest values) = env
below env (Body rest saved locals) = saved
below env (Bind b) = b.value.saved
below env (Scope outer rest) = env
below env (InOrder outer name plan forms) = env
below env (Aside b) = env
below env (Count l) = env
below env (Turn l counter rest) = env
below env (Setq f place rest) = env
below env (Setf rest) = env
below env (Changed p t vs amount) = env
below env (Default c e place vs) = env
below env (Filled f) = env
below env (Updated i v) = env
below env Truth = env
below env (Slots f rest) = env

-- what a frame does with the value that it waits for
abbrev pub after : Eval → Context → Frame → Val → Run
after ev env (Rest c fs) = λ v. followed ev env c fs v
after ev env (Keep fs v) = λ u. keeping ev env fs (value_of v)
after ev env (Clause fs cs) = λ v. tested ev env fs (clauses ev env cs) v
after ev env (Collect action rest values) = λ v. collect ev env rest (values ++ v ∷ []) (acted ev env action)
after ev env (Body rest saved locals) = λ v w s. then_do (sequence ev env rest v w s) (restoring locals)
after ev env (Bind b) = λ v w s. then_do (binding b.value.name v (parameters_run ev env b.value.plan b.value.body) w s) (restoring b.value.outer)
after ev env (Scope outer rest) = λ v. within ev env outer rest v
after ev env (InOrder outer name plan forms) = λ v. binding name v (in_order ev env outer plan forms)
after ev env (Aside b) = λ v. aside ev env b.value.outer b.value.plan b.value.forms ((b.value.name, held v) ∷ b.value.locals)
after ev env (Count l) = λ v. repeated ev env (loop_of l.value) v
after ev env (Turn l counter rest) = λ v w s. then_do (sequence ev env rest v w s) (λ u. turns ev env (loop_of l.value) counter.0 counter.1)
after ev env (Setq f place rest) = λ v. setq ev env (drop place (targets (operator_in f))) rest v
after ev env (Setf rest) = λ v. setf ev env rest v
after ev env (Changed p t vs amount) = λ old. changed_from ev env p (access_of t) vs (value_of amount) old
after ev env (Default c e place vs) = λ v. default_given ev env c.0 e (drop place e.defaults) vs v
after ev env (Filled f) = λ v. fill_with ev env (subject_of f.value) (slots_left f.value) v
after ev env (Updated i v) = λ x. visited ev env i.0 v.value
after ev env Truth = λ v. gave (truth (is_true v))
after ev env (Slots f rest) = λ v. within_slots ev env (slot_names (operator_in f)) rest v

-- ---- tail position: of the body on top nothing is left but that its caller goes on

-- no forms are left
abbrev pub none_left : Forms → Bool
none_left form.nil = true
none_left (form.cons f fs) = false

-- the end of a body: after it the caller's context and variables come back
abbrev pub is_end : Frame → Bool
is_end (Body rest saved locals) = none_left rest
is_end frame = false

-- such an end is on top
abbrev pub ends_body : List Level → Bool
ends_body [] = false
ends_body (l ∷ ls) = is_end l.frame

-- what follows so gives the value of the last form as it is
abbrev pub gives_last : Control → Bool
gives_last Progn = true
gives_last Prog1 = true
gives_last If = false
gives_last When = false
gives_last Unless = false
gives_last And = true
gives_last Or = true

-- what the levels do with an outcome, the top one first
abbrev pub resume : List Level → Context → Out → Out
resume [] env o = o
resume (l ∷ ls) env o = resume ls (below env l.frame) (then_do o (after (meaning l.room) env l.frame))

abbrev pub doing_run : ℕ → Context → Doing → Run
doing_run room env (Start f) w s = meaning room env f w s
doing_run room env (doing.Collect action forms values) w s = collect (meaning room) env forms values (acted (meaning room) env action) w s
doing_run room env (Act action values) w s = acted (meaning room) env action values w s
doing_run room env (Invoke f values) w s = invoked (meaning room) f values w s
doing_run room env (Perform b arguments) w s = performed (meaning room) env b arguments w s
doing_run room env (Native values) w s = native_called values w s
doing_run room env (doing.Turn l counter) w s = turns (meaning room) env (loop_of l.value) counter.0 counter.1 w s
doing_run room env (Tend task) w s = tended (meaning room) env task w s
doing_run room env (Give value) w s = Gave (value_of value) w s

-- the state with the machine's variables
abbrev pub at : Machine → State → State
at m w = bound_as m.locals w

-- how the run ends from this state of the machine
abbrev pub denote : Machine → Doing → Run
denote m d w s = closed (resume m.levels m.context (doing_run m.room m.context d (at m w) s))

-- how it ends where a form has begun, or its level was taken off, and `run` is left to do
abbrev pub inside : Machine → Run → Run
inside m run w s = closed (resume m.levels m.context (run (at m w) s))

-- the machine in this context and with no variables, where its own come back after what comes next
abbrev pub apart : Machine → Context → Machine
apart m env = record {
  levels = (record { frame = Body form.nil m.context m.locals; room = m.room }) ∷ m.levels;
  context = env;
  locals = [];
  room = m.room;
}

-- A control handler changes the machine alone.
abbrev pub Leads : Run → State → Result Doing Stop → Machine → Type 0
Leads run w (Ok d) m = (t : ℕ) → denote m d w t ≡ run w t
Leads run w (Err (Refused c)) m = (t : ℕ) → run w t ≡ Stopped c (unbound w) t
Leads run w (Err Storage) m = Unit {0}

-- how the run ends where this is left to do, in the machine's context and with its room
abbrev pub here : Machine → (Eval → Context → Run) → Run
here m what = inside m (what (meaning m.room) m.context)

-- A handler does this: it leads to where any run does that is the same.
abbrev pub Does : (Eval → Context → Run) → Machine → Result Doing Stop → Machine → Type 0
Does what m r n = (run : Run) (w : State) → ((t : ℕ) → what (meaning m.room) m.context (at m w) t ≡ run (at m w) t) → Leads (inside m run) w r n

-- It gives this value, or stops, and changes nothing.
abbrev pub Becomes : Run → State → Result Value Stop → Type 0
Becomes run w (Ok v) = (t : ℕ) → run w t ≡ Gave (value_of v) w t
Becomes run w (Err (Refused c)) = (t : ℕ) → run w t ≡ Stopped c w t
Becomes run w (Err Storage) = Unit {0}

-- A turn may take steps and change the state; want of memory leaves both.
abbrev pub Turns : Run → State → ℕ → Result Doing Stop → Machine → State → ℕ → Type 0
Turns run w s (Ok d) m w' s' = (k : ℕ) × (s ≡ k + s') × ((t : ℕ) → denote m d w' t ≡ run w (k + t))
Turns run w s (Err (Refused c)) m w' s' = run w s ≡ Stopped c (unbound w') s'
Turns run w s (Err Storage) m w' s' = (unbound w' ≡ unbound w) × (s' ≡ s)

-- The answer is the run's; where memory was refused, the state is that of the run with the steps taken as its budget.
abbrev pub Answers : Run → State → ℕ → Result Value Stop → State → ℕ → Type 0
Answers run w s (Ok v) w' s' = run w s ≡ Gave (value_of v) w' s'
Answers run w s (Err (Refused c)) w' s' = run w s ≡ Stopped c w' s'
Answers run w s (Err Storage) w' s' = (k : ℕ) × (s ≡ k + s') × leaves (run w k) w' 0

-- ---- where functions that the host stored may have been called: their answers come after those of earlier calls

-- A turn in which one may have answered.
abbrev pub Asks : Host → Run → State → ℕ → List ℤ → Result Doing Stop → Machine → State → ℕ → List ℤ → Type 0
Asks host run w s past (Ok d) m w' s' past' =
    (k : ℕ) × (used : List ℤ) × (s ≡ k + s') × (past' ≡ past ++ used)
    × ((t : ℕ) (more : List ℤ) → answered_by host (denote m d w' t) more ≡ answered_by host (run w (k + t)) (used ++ more))
Asks host run w s past (Err (Refused c)) m w' s' past' = (past' ≡ past)
    × (answered_by host (run w s) [] ≡ Some (Signalled c (unbound w') s'))
Asks host run w s past (Err Storage) m w' s' past' = (past' ≡ past) × (unbound w' ≡ unbound w) × (s' ≡ s)

-- where an outcome leaves the state and the steps, with these answers
abbrev pub leaves_by : Host → Out → List ℤ → State → ℕ → Type 0
leaves_by host o used w s = (e : End) × (answered_by host o used ≡ Some e) × ends_in e w s

-- The answer is the run's with the answers that came; where memory was refused, the state is that of the run with the steps taken
-- as its budget.
abbrev pub AnswersWith : Host → Run → State → ℕ → List ℤ → Result Value Stop → State → ℕ → List ℤ → Type 0
AnswersWith host run w s past (Ok v) w' s' past' = (used : List ℤ) × (past' ≡ past ++ used)
    × (answered_by host (run w s) used ≡ Some (Given (value_of v) w' s'))
AnswersWith host run w s past (Err (Refused c)) w' s' past' = (used : List ℤ) × (past' ≡ past ++ used)
    × (answered_by host (run w s) used ≡ Some (Signalled c w' s'))
AnswersWith host run w s past (Err Storage) w' s' past' = (used : List ℤ) × (past' ≡ past ++ used) × (k : ℕ) × (s ≡ k + s')
    × leaves_by host (run w k) used w' 0

-- ---- What is left to do has a weight, and each turn makes it less

-- a value to be given
abbrev pub value_weight : ℕ
value_weight = 6

-- what a value leads to adds less, beside the weight of the frame that waits for it
abbrev pub follow_growth : ℕ
follow_growth = 5

-- a frame after whose value another form begins, or a value is given
abbrev pub waiting_weight : ℕ
waiting_weight = 2

-- a place that is read before it is changed
abbrev pub changed_weight : ℕ
changed_weight = 6

-- an update after which something is done with the instance
abbrev pub updated_weight : ℕ
updated_weight = 5

-- the call of a generic function of the system's
abbrev pub invoke_weight : ℕ
invoke_weight = 3

-- what a call of a generic function adds at most
abbrev pub call_growth : ℕ
call_growth = 2

-- a call of a function that the host stored, which comes of an action
abbrev pub native_weight : ℕ
native_weight = 7

-- the next turn of a loop
abbrev pub turn_weight : ℕ
turn_weight = 8

-- an action that no other action follows without a step between
abbrev pub act_weight : ℕ
act_weight = 8

-- what a method without forms adds at most: an action, and the frame of its variables
abbrev pub built_in_growth : ℕ
built_in_growth = 9

-- a method without forms, which weighs more than that; so what runs a method adds at most as much
abbrev pub perform_weight : ℕ
perform_weight = 10

-- What an action weighs more than others, since some may follow it with no step between: another action that sets, reads or
-- changes the place that a name stands for, or a method without forms.
abbrev pub lift : Action → ℕ
lift (Call name) = 0
lift (Set t) = 0
lift (Store name) = 1
lift (Change p name) = 8
lift (NewValue t f) = 0
lift (Amount p t fs) = 9
lift (ChangePlace p t) = 7
lift (Allocate c e) = 0
lift (Initialize c e i) = 0
lift (Read t) = 0
lift CallNext = 3

abbrev pub action_weight : Action → ℕ
action_weight a = act_weight + lift a

-- an action whose values are collected first
abbrev pub collect_weight : Action → ℕ
collect_weight a = 1 + action_weight a

-- what is done with an instance; once it is up to date, that may be the action or the method that it was updated for
abbrev pub task_weight : InstanceTask → ℕ
task_weight (Fill f) = act_weight
task_weight (FillWith f v) = act_weight
task_weight (Visit i v) = perform_weight

-- what a form adds at most as it begins, with the heaviest of actions
abbrev pub form_growth : ℕ
form_growth = 18

-- a step, which weighs more than that
abbrev pub step_weight : ℕ
step_weight = 20

-- a frame, by what may follow the value that it waits for
abbrev pub weight_of : Frame → ℕ
weight_of (Rest c fs) = waiting_weight
weight_of (Keep fs v) = waiting_weight
weight_of (Clause fs cs) = waiting_weight
weight_of (Collect action rest values) = 4 + lift action
weight_of (Body rest saved locals) = 1
weight_of (Bind b) = waiting_weight
weight_of (Scope outer rest) = waiting_weight
weight_of (InOrder outer name plan forms) = waiting_weight
weight_of (Aside b) = waiting_weight
weight_of (Count l) = 4
weight_of (Turn l counter rest) = 4
weight_of (Setq f place rest) = waiting_weight
weight_of (Setf rest) = waiting_weight
weight_of (Changed p t vs amount) = changed_weight
weight_of (Default c e place vs) = 5
weight_of (Filled f) = 4
weight_of (Updated i v) = updated_weight
weight_of Truth = waiting_weight
weight_of (Slots f rest) = waiting_weight

-- all frames
abbrev pub load : List Level → ℕ
load [] = 0
load (l ∷ ls) = weight_of l.frame + load ls

-- what comes next
abbrev pub given : Doing → ℕ
given (Start f) = 0
given (doing.Collect action forms values) = collect_weight action
given (Act action values) = action_weight action
given (Invoke f values) = invoke_weight
given (Perform b arguments) = perform_weight
given (doing.Turn l counter) = turn_weight
given (Tend task) = task_weight task
given (Native values) = native_weight
given (Give value) = value_weight

abbrev pub weight : ℕ → Machine → Doing → ℕ
weight steps m d = step_weight * steps + (load m.levels + given d)

-- A handler adds no more than this to what is left to do.
abbrev pub Grows : ℕ → List Level → Result Doing Stop → Machine → Type 0
Grows n old (Ok d) m = load m.levels + given d ≤ load old + n
Grows n old (Err e) m = Unit {0}

-- A turn makes less what is left to do, of which so much is what comes next, whether it takes a step or not.
abbrev pub Shrinks : ℕ → ℕ → ℕ → List Level → Result Doing Stop → Machine → Type 0
Shrinks n s s' old (Ok d) m = step_weight * s' + (load m.levels + given d) < step_weight * s + (load old + n)
Shrinks n s s' old (Err e) m = Unit {0}

-- the class that a value designates, or why there is none
abbrev pub Designates : Result ℕ Condition → Result ClassId Stop → Type 0
Designates d (Ok c) = d ≡ Ok c.0
Designates d (Err (Refused c)) = d ≡ Err c
Designates d (Err Storage) = Unit {0}

-- the instance that a value is, or why not
abbrev pub DesignatesInstance : Result ℕ Condition → Result InstanceId Stop → Type 0
DesignatesInstance d (Ok i) = d ≡ Ok i.0
DesignatesInstance d (Err (Refused c)) = d ≡ Err c
DesignatesInstance d (Err Storage) = Unit {0}

-- the machine goes on with what a frame does with a value
abbrev pub given_to : Machine → Frame → Val → Run
given_to m f v w s = closed (resume m.levels (below m.context f) (after (meaning m.room) m.context f v (at m w) s))

-- the machine goes on with a body, and then with its caller's context and variables
abbrev pub under : Machine → Context → List Local → Run → Run
under m saved outer run w s = closed (resume m.levels saved (then_do (run (at m w) s) (restoring outer)))

-- A change takes one step, and touches the state alone; want of memory leaves both.
abbrev pub Changes : Run → Val → State → ℕ → Result (Unit {0}) Stop → State → ℕ → Type 0
Changes change v w s (Ok u) w' s' = (s ≡ suc s') × ((t : ℕ) → step_then change w (suc t) ≡ Gave v w' t)
Changes change v w s (Err (Refused c)) w' s' = (w' ≡ w) × (s' ≡ s) × (step_then change w s ≡ Stopped c w s)
Changes change v w s (Err Storage) w' s' = (w' ≡ w) × (s' ≡ s)

-- the variables that have no init form, up to the next that has one, bound to NIL; but a global variable is never bound
abbrev pub unset : Variables → List Bound → List Local → Option (List Local × List Bound)
unset gs [] ls = Some (ls, [])
unset gs (b ∷ bs) ls =
    if b.has_init then Some (ls, b ∷ bs) else if is_global gs b.name then None else unset gs bs ((b.name, held (list nil)) ∷ ls)

-- the same, where they are only put aside
abbrev pub unset_aside : List Bound → List Local → List Local × List Bound
unset_aside [] ls = (ls, [])
unset_aside (b ∷ bs) ls = if b.has_init then (ls, b ∷ bs) else unset_aside bs ((b.name, held (list nil)) ∷ ls)

-- these are bound, and the next has this name, or one of them may not be
abbrev pub Skips : Option (List Local × List Bound) → Result (Option Name) Stop → List Local → List Bound → Type 0
Skips x (Ok next) ls bs = x ≡ Some (ls, with_next next bs)
Skips x (Err (Refused c)) ls bs = (x ≡ None) × (c ≡ record { kind = Unsupported; items = [] })
Skips x (Err Storage) ls bs = Unit {0}

-- The run has come to here: after some steps and answers it goes on as `rest` does from here.
pub record Reached (host : Host) (run : Run) (w0 : State) (s0 : ℕ) (past0 : List ℤ) (rest : Run) (w : State) (s : ℕ)
    (past : List ℤ) : Type 0 where
  pub taken : ℕ
  pub used : List ℤ
  pub steps : s0 ≡ taken + s
  pub answers : past ≡ past0 ++ used
  pub same : (t : ℕ) (more : List ℤ) → answered_by host (rest w t) more ≡ answered_by host (run w0 (taken + t)) (used ++ more)

-- the value of a form of this operator that is a constant, or a variable that has one
abbrev pub at_once : State → Operator → Option Val
at_once w (of.constant v) = Some v
at_once w (of.variable name) = found_value w name
at_once w o = None

-- The first of the forms are gone: of each, a step was taken, and its value is there.
pub record Took (n : ℕ) (env : Context) (w : State) (fs : Forms) (vs : List Val) (s : ℕ) (fs' : Forms) (vs' : List Val) (s' : ℕ) : Type 0 where
  pub taken : ℕ
  pub steps : s ≡ taken + s'
  pub same : (go : List Val → Run) (t : ℕ) → collect (meaning n) env fs' vs' go w t ≡ collect (meaning n) env fs vs go w (taken + t)

-- the parameters whose values are there, bound up to the next that has an init form
abbrev pub settled : Variables → Sources → List Local → Result (List Local × Sources) Condition
settled gs [] ls = Ok (ls, [])
settled gs ((n, argument v) ∷ ps) ls = if is_global gs n then Err (record { kind = Unsupported; items = [] }) else settled gs ps ((n, held v) ∷ ls)
settled gs ((n, refused c) ∷ ps) ls = Err c
settled gs ((n, init f) ∷ ps) ls = Ok (ls, (n, init f) ∷ ps)

-- these parameters, after one of this name with an init form; none where there is no such
abbrev pub with_init : Option (Name × Form) → Sources → Sources
with_init None ps = []
with_init (Some p) ps = (p.0, init p.1) ∷ ps

abbrev pub Settles : Result (List Local × Sources) Condition → Result (Option (Name × Form)) Stop → List Local → Sources → Type 0
Settles x (Ok next) ls ps = x ≡ Ok (ls, with_init next ps)
Settles x (Err (Refused c)) ls ps = x ≡ Err c
Settles x (Err Storage) ls ps = Unit {0}

-- the same, where all values are there
abbrev pub Binds : Result (List Local × Sources) Condition → Result (List Local) Stop → Type 0
Binds x (Ok ls) = x ≡ Ok (ls, [])
Binds x (Err (Refused c)) = x ≡ Err c
Binds x (Err Storage) = Unit {0}
