-- What an evaluation keeps: all that is defined, and where no step is left all but variables.
use Rattle.std.proofs.Common.{◌≡◌, subst, ℕ, zero, suc, List, [], ◌∷◌, ◌++◌, map, Option, Some, None, Result, Ok, Err, Bool, true, false, length, ◌+◌, slice_get, refl, ap, append-nil, append_assoc, sym, ◌∙◌}
use Rattle.std.specs.Prelude.{codes, pos, is_some, ℤ, ◌==◌, if◌then◌else◌}
use Rattle.lisp_data.specs.Name.{Name}
use Rattle.lisp_data.specs.Print.{Called, by_symbol, by_setf}
use Rattle.lisp_data.specs.Value.{Val}
use Rattle.lisp_data.specs.Value as value
use Rattle.lisp_prims.specs.Fault as prims
use Rattle.lisp_prims.specs.Primitive.{answer, truth}
use Rattle.lisp_prims.specs.lisp_functions.declared.arithmetic.Arithmetic.TheVariants.{Sum, Difference}
use Rattle.lisp_prims.specs.lisp_functions.declared.primitive.Primitive as of_values
use Rattle.lisp_prims.specs.lisp_functions.declared.primitive.Primitive.TheVariants.{Number}
use Rattle.clos_forms.specs.Form.{Form, Forms, nil, cons, parts_in, operator_in}
use Rattle.clos_forms.specs.Operator as of
use Rattle.clos_forms.specs.Operator.{Callable, Operator, Bound, BoundSlot, Place, variable_place, slot_value_place, call_place}
use Rattle.clos_forms.specs.Quotation.{name_value}
use Rattle.clos_world.specs.Definitions.{Same}
use Rattle.clos_world.specs.FunctionName.{setter_value}
use Rattle.clos_world.specs.Functions.{function_in}
use Rattle.clos_forms.specs.declared.operator.FunctionName.TheVariants.{Symbol, Setf}
use Rattle.clos_world.specs.clos_generic.Table.{named}
use Rattle.clos_world.specs.clos_generic.Table as generics
use Rattle.clos_world.specs.clos_method.Shape.{takes_count}
use Rattle.clos_world.specs.clos_method.declared.method.Method.{Method}
use Rattle.clos_world.specs.clos_method.declared.method.MethodBody.{MethodBody}
use Rattle.clos_world.specs.clos_method.declared.method.MethodBody.TheVariants.{Forms as Body, Reader, Writer, System}
use Rattle.clos_world.specs.clos_comb.Effective as comb
use Rattle.clos_world.specs.clos_comb.Outcome.{Combined}
use Rattle.clos_world.specs.clos_comb.Outcome as outcome
use Rattle.lisp_data.specs.Numbers.{same_numbers}
use Rattle.clos_world.specs.Dispatch.{ordered}
use Rattle.clos_world.specs.Globals.{is_global, any_global}
use Rattle.clos_world.specs.clos_method.System.{system_number}
use Rattle.clos_world.specs.clos_method.declared.system.SystemFunction.{SystemFunction}
use Rattle.clos_world.specs.clos_method.declared.system.SystemFunction.TheVariants.{InitializeInstance, ReinitializeInstance, SharedInitialize, UpdateInstanceForRedefinedClass, UpdateInstanceForDifferentClass, SlotUnbound, SlotMissing, NoApplicableMethod, NoNextMethod}
use Rattle.clos_world.specs.Values.{only_value, last_first}
use Rattle.clos_world.specs.World.{State, Local, bound_as, unbound, local_named, names_of, class_of, class_of_instance, held}
use Rattle.clos_world.specs.declared.condition.Condition.{Condition}
use Rattle.clos_world.specs.declared.condition.ConditionKind.TheVariants.{DepthLimit, ProgramError}
use Rattle.clos_world.specs.declared.functions.Function.{Function}
use Rattle.clos_meaning.specs.Accessors.{read_by, read_of, written_by, written_of}
use Rattle.clos_meaning.specs.Assignment.{stored, stored_globally, stored_only, made_of, changed_only, global_set}
use Rattle.clos_forms.specs.clos_names.Callee.{callee_of}
use Rattle.clos_meaning.specs.ClassFunctions.{Answer, class_answer, comes_to, symbol_in}
use Rattle.clos_meaning.specs.Bodies.{restoring, parameters_run, body_run}
use Rattle.clos_meaning.specs.Calls.{called_defined, called_setter, called_setter_by, called_function, keys_are_even, method_run, method_body_run, method_called, made_run}
use Rattle.clos_meaning.specs.Natives.{answer_given, integers_given, integers_in, native_called, native_found, native_named}
use Rattle.clos_meaning.specs.NextMethods.{next_with, next_by, next_called, next_given, next_in, next_run, none_next}
use Rattle.clos_meaning.specs.FindMethod.{method_answer}
use Rattle.clos_meaning.specs.Dispatch.{Dispatch}
use Rattle.clos_meaning.specs.Contexts.{Context, in_call, known, running, with_arguments}
use Rattle.clos_meaning.specs.GenericCalls.{after_positional, called_generic, combined_run, invoked, keywords_fit, matched_or, unmatched, unmatched_by}
use Rattle.clos_meaning.specs.SystemMethods.{class_in, checked_shared, different, different_from, different_with, new_slots, redefined, reinitialize_instance, shared_if_valid, shared_initialized, slots_filled, initialize, if_valid, reinitialize, filled_as, initialize_slots, system_method_run}
use Rattle.clos_meaning.specs.Control.{keeping, sequence, while_true, until_true, branch, branch_by, where_true, where_false, and_then, or_then, first_then, tested, clause, clauses}
use Rattle.clos_meaning.specs.Fault.{answered}
use Rattle.clos_meaning.specs.Meaning.{collect, alone, setq, setf, assigned, place_in, next_method, with_amount, set_place, changed_from, changed_place, changing, changed_by, other_function, is_plain_function, symbol_function, setter_function, function_value, operated, body, meaning, closed, evaluation, name_changed, name_changed_by, place_set_to, place_changed_by}
use Rattle.clos_meaning.specs.Objects.{designated}
use Rattle.clos_meaning.specs.Filling.{are_slot_names, Filler, nothing, initform, filler, filled, filled_with, filled_by, fill, is_the_class, Subject}
use Rattle.clos_meaning.specs.Filling as filler
use Rattle.clos_meaning.specs.Functions.{Access, applied, call_access, called, place_read, place_set, slot_access}
use Rattle.clos_meaning.specs.Initialization.{allocate, checked, initialized, invalid_initarg, is_given, made, methods_reached, defaulted, making_of, making, instance_made}
use Rattle.clos_meaning.specs.Slots.{class_value, operation_name, missing_called, missing_changed, instance_in, slot_designated, slot_read, slot_tested, slot_changed, slot_answer, slot_applied, slot_asked, slot_called, slot_given, slot_put, slot_set, slot_stored}
use Rattle.clos_forms.specs.clos_names.declared.callee.SlotFunction as of_slots
use Rattle.clos_forms.specs.clos_names.declared.callee.SlotFunction.TheVariants.{SlotValue, SlotBoundp, SlotMakunbound, SlotExistsP}
use Rattle.clos_world.specs.clos_class.Slots.{Effective as Whole, Layout}
use Rattle.clos_world.specs.clos_class.declared.effective_slots.EffectiveSlot.{EffectiveSlot}
use Rattle.clos_world.specs.clos_class.clos_defclass.declared.class.DefaultInitarg.{DefaultInitarg}
use Rattle.clos_world.specs.clos_store.Store.{allocated, has_room, slot_found, with_instance}
use Rattle.clos_world.specs.clos_store.Update.{with_change, with_update}
use Rattle.clos_world.specs.Class.{effective, layout}
use Rattle.clos_meaning.specs.ChangeClass.{change_called, changed_by_layout, changed_if, changed_of, changed_to, class_changed, different_called, if_there}
use Rattle.clos_meaning.specs.Updating.{due, names_listed, restructured, told, updated, updated_if, updated_with}
use Rattle.clos_meaning.specs.Outcome.{leaves, Noted, Looked, Asked, Out, Gave, Stopped, Run, Eval, then_do, step_then, gave, stopped, is_true}
use Rattle.clos_meaning.specs.Output.{WritesMore, output_of, text_by, written, line_ended}
use Rattle.clos_meaning.specs.Parameters.{Sources, argument, refused, init, are_even, are_pairs, fits, sources}
use Rattle.clos_meaning.specs.Variables.{Loop, found_value, variable_value, inner, leaving, init_form, within, binding, in_order, together, aside, name_in, counted, body_of, result_value, turns, turns_in, repeated}
use Rattle.clos_meaning.specs.SlotNames.{name_stored, name_read, name_set, place_denoted, slot_locals, within_slots}
use Rattle.clos_meaning.proofs.Quiet.{Quiet}
use Rattle.clos_meaning.specs.declared.arguments.Running.{Running}
use Rattle.clos_forms.specs.clos_names.declared.callee.Callee.{Callee}
use Rattle.clos_forms.specs.clos_names.declared.callee.Callee.TheVariants.{Output, Terpri, Primitive, MakeInstance, ChangeClass, FindMethod, NativeCall, ClassFunction, SlotFunction, Defined}
use Rattle.clos_forms.specs.clos_names.declared.callee.Output as output

pub same : (w : State) → Same w w
same w = (refl, refl, refl, refl, refl, refl)

pub same_then : (w u t : State) → Same w u → Same u t → Same w t
same_then w u t h g = (g.0 ∙ h.0, g.1 ∙ h.1, g.2 ∙ h.2, g.3 ∙ h.3, g.4 ∙ h.4, g.5 ∙ h.5)

-- the definitions are the same, and nothing that was written is gone
abbrev pub Follows : State → State → Type 0
Follows w u = Same w u × WritesMore w u

pub nothing_written : (w : State) → WritesMore w w
nothing_written w = ([], sym (append-nil w.written))

pub writes_then : (w u t : State) → WritesMore w u → WritesMore u t → WritesMore w t
writes_then w u t h g = (h.0 ++ g.0, g.1 ∙ ap (λ l. l ++ g.0) h.1 ∙ append_assoc w.written h.0 g.0)

pub stays : (w : State) → Follows w w
stays w = (same w, nothing_written w)

pub follows_then : (w u t : State) → Follows w u → Follows u t → Follows w t
follows_then w u t h g = (same_then w u t h.0 g.0, writes_then w u t h.1 g.1)

-- each state that it comes to follows
abbrev pub SameAfter : State → Out → Type 0
SameAfter w (Gave v u k) = Follows w u
SameAfter w (Stopped c u k) = Follows w u
SameAfter w (Noted n o) = SameAfter w o
SameAfter w (Looked name more) = (n : Option ℕ) → SameAfter w (more n)
SameAfter w (Asked name xs more) = (x : ℤ) → SameAfter w (more x)

-- An outcome from this state with so many steps: it defines nothing, and where no step is left it changes no more than variables.
abbrev pub Kept : State → ℕ → Out → Type 0
Kept w k o = SameAfter w o × (k ≡ 0 → Quiet o w)

abbrev pub Keeps : Eval → Type 0
Keeps ev = (env : Context) (f : Form) (w : State) (k : ℕ) → Kept w k (ev env f w k)

-- the state stays, but for variables, and no step is taken
pub still : (w : State) (k : ℕ) → Follows w w × (k ≡ 0 → (unbound w ≡ unbound w) × (k ≡ 0))
still w k = (stays w, λ e. (refl, e))

-- .. also those before an earlier state with the same
pub shifted : (w u : State) (o : Out) → Follows w u → SameAfter u o → SameAfter w o
shifted w u (Gave v t k) h g = follows_then w u t h g
shifted w u (Stopped c t k) h g = follows_then w u t h g
shifted w u (Noted n o) h g = shifted w u o h g
shifted w u (Looked name more) h g = λ n. shifted w u (more n) h (g n)
shifted w u (Asked name xs more) h g = λ x. shifted w u (more x) h (g x)

then_same : (w : State) (o : Out) (go : Val → Run) → SameAfter w o → ((v : Val) (u : State) (j : ℕ) → Kept u j (go v u j)) → SameAfter w (then_do o go)
then_same w (Gave v u j) go h g = shifted w u (go v u j) h (g v u j).0
then_same w (Stopped c u j) go h g = h
then_same w (Noted n o) go h g = then_same w o go h g
then_same w (Looked name more) go h g = λ n. then_same w (more n) go (h n) g
then_same w (Asked name xs more) go h g = λ x. then_same w (more x) go (h x) g

then_quiet : (w : State) (o : Out) (go : Val → Run) → Quiet o w → ((v : Val) (u : State) (j : ℕ) → Kept u j (go v u j)) → Quiet (then_do o go) w
then_quiet w (Stopped c u j) go h g = h
then_quiet w (Noted n o) go h g = then_quiet w o go h g
then_quiet w (Looked name more) go h g = λ n. then_quiet w (more n) go (h n) g
then_quiet w (Asked name xs more) go h g = absurd h
then_quiet w (Gave v u j) go h g = subst (λ x. leaves (closed (go v u j)) x 0) h.0 ((g v u j).1 h.1)

-- what follows a value
pub then_kept : (w : State) (k : ℕ) (o : Out) (go : Val → Run) → Kept w k o → ((v : Val) (u : State) (j : ℕ) → Kept u j (go v u j)) → Kept w k (then_do o go)
then_kept w k o go h g = (then_same w o go h.0 g, λ e. then_quiet w o go (h.1 e) g)

pub choice_kept : (b : Bool) (w : State) (k : ℕ) (x y : Out) → Kept w k x → Kept w k y → Kept w k (if b then x else y)
choice_kept true w k x y h g = h
choice_kept false w k x y h g = g

-- a change that takes a step
step_kept : (run : Run) (w : State) (k : ℕ) → ((j : ℕ) → SameAfter w (run w j)) → Kept w k (step_then run w k)
step_kept run w zero h = still w zero
step_kept run w (suc k) h = (h k, λ e. absurd (cc e))

-- ---- variables that are put back

same_restored : (l : List Local) (w : State) (o : Out) → SameAfter w o → SameAfter w (then_do o (restoring l))
same_restored l w (Gave v u j) h = h
same_restored l w (Stopped c u j) h = h
same_restored l w (Noted n o) h = same_restored l w o h
same_restored l w (Looked name more) h = λ n. same_restored l w (more n) (h n)
same_restored l w (Asked name xs more) h = λ x. same_restored l w (more x) (h x)

quiet_restored : (l : List Local) (w : State) (o : Out) → Quiet o w → Quiet (then_do o (restoring l)) w
quiet_restored l w (Gave v u j) h = h
quiet_restored l w (Stopped c u j) h = h
quiet_restored l w (Noted n o) h = quiet_restored l w o h
quiet_restored l w (Looked name more) h = λ n. quiet_restored l w (more n) (h n)
quiet_restored l w (Asked name xs more) h = absurd h

pub restored : (l : List Local) (w : State) (k : ℕ) (o : Out) → Kept w k o → Kept w k (then_do o (restoring l))
restored l w k o h = (same_restored l w o h.0, λ e. quiet_restored l w o (h.1 e))

same_left : (m : ℕ) (w : State) (o : Out) → SameAfter w o → SameAfter w (then_do o (leaving m))
same_left m w (Gave v u j) h = h
same_left m w (Stopped c u j) h = h
same_left m w (Noted n o) h = same_left m w o h
same_left m w (Looked name more) h = λ n. same_left m w (more n) (h n)
same_left m w (Asked name xs more) h = λ x. same_left m w (more x) (h x)

quiet_left : (m : ℕ) (w : State) (o : Out) → Quiet o w → Quiet (then_do o (leaving m)) w
quiet_left m w (Gave v u j) h = h
quiet_left m w (Stopped c u j) h = h
quiet_left m w (Noted n o) h = quiet_left m w o h
quiet_left m w (Looked name more) h = λ n. quiet_left m w (more n) (h n)
quiet_left m w (Asked name xs more) h = absurd h

left_kept : (m : ℕ) (w : State) (k : ℕ) (o : Out) → Kept w k o → Kept w k (then_do o (leaving m))
left_kept m w k o h = (same_left m w o h.0, λ e. quiet_left m w o (h.1 e))

abbrev none : Val
none = value.list value.nil

-- ---- what evaluates no forms

pub binding_kept : (name : Name) (v : Val) (go : Run) → ((u : State) (j : ℕ) → Kept u j (go u j)) → (w : State) (k : ℕ) → Kept w k (binding name v go w k)
binding_kept name v go h w k = choice_kept (is_global w.globals name) w k _ (go (inner name v w) k) (still w k) (h (inner name v w) k)

stored_kept_then : (f : Subject) (slot : EffectiveSlot) (rest : Run) → ((u : State) (j : ℕ) → Kept u j (rest u j)) → (v : Val) (w : State) (k : ℕ) → Kept w k (filled f slot rest v w k)
stored_kept_then f slot rest g v w k =
    then_kept w k (step_then (slot_stored f.instance slot.name (Some v) v) w k) (λ x u j. rest u j)
    (step_kept (slot_stored f.instance slot.name (Some v) v) w k (λ j. stays w)) (λ x u j. g u j)

pub filled_with_kept : (f : Subject) (slot : EffectiveSlot) (rest : Run) → ((u : State) (j : ℕ) → Kept u j (rest u j)) → (v : Val) (w : State) (k : ℕ) → Kept w k (filled_with f slot rest v w k)
filled_with_kept f slot rest g v w k =
    choice_kept (is_the_class f.class (class_of_instance w f.instance)) w k (filled f slot rest v w k) _ (stored_kept_then f slot rest g v w k) (still w k)

-- ---- calls of functions that the host stored

integers_kept : (name : Name) (r : Result (List ℤ) Val) (w : State) (k : ℕ) → Kept w k (integers_given name r w k)
integers_kept name (Err v) w k = still w k
integers_kept name (Ok xs) w k = step_kept (answer_given name xs) w k (λ j x. stays w)

found_kept : (name : Name) (vs : List Val) (n : Option ℕ) (w : State) (k : ℕ) → Kept w k (native_found name vs n w k)
found_kept name vs None w k = still w k
found_kept name vs (Some n) w k = choice_kept (length vs == n) w k (integers_given name (integers_in vs) w k) _
    (integers_kept name (integers_in vs) w k) (still w k)

named_kept : (v : Val) (name : Option Name) (vs : List Val) (w : State) (k : ℕ) → Kept w k (native_named v name vs w k)
named_kept v None vs w k = still w k
named_kept v (Some name) vs w k = (λ n. (found_kept name vs n w k).0, λ e n. (found_kept name vs n w k).1 e)

pub native_kept : (vs : List Val) (w : State) (k : ℕ) → Kept w k (native_called vs w k)
native_kept [] w k = still w k
native_kept (v ∷ vs) w k = named_kept v (symbol_in v) vs w k

output_kept : (o : output.Output) (x : Option Val) (w : State) (k : ℕ) → Kept w k (output_of o x w k)
output_kept o None w k = still w k
output_kept o (Some v) w k = step_kept (written (text_by o (names_of w) v) v) w k (λ j. (same w, (text_by o (names_of w) v, refl)))

line_kept : (vs : List Val) (w : State) (k : ℕ) → Kept w k (line_ended vs w k)
line_kept [] w k = step_kept (written (codes "\n") none) w k (λ j. (same w, (codes "\n", refl)))
line_kept (v ∷ vs) w k = still w k

answered_kept : (x : Result Val prims.Condition) (w : State) (k : ℕ) → Kept w k (answered x w k)
answered_kept (Ok v) w k = still w k
answered_kept (Err c) w k = still w k

comes_kept : (x : Answer) (w : State) (k : ℕ) → Kept w k (comes_to x w k)
comes_kept (Ok v) w k = still w k
comes_kept (Err c) w k = still w k

variable_kept : (name : Name) (o : Option Val) (w : State) (k : ℕ) → Kept w k (variable_value name o w k)
variable_kept name None w k = still w k
variable_kept name (Some v) w k = still w k

globally_kept : (name : Name) (v : Val) (w : State) (k : ℕ) → Kept w k (stored_globally name v w k)
globally_kept name v w k =
    choice_kept (is_global w.globals name) w k (step_then (global_set name v) w k) _ (step_kept (global_set name v) w k (λ j. stays w)) (still w k)

stored_kept : (name : Name) (v : Val) (w : State) (k : ℕ) → Kept w k (stored name v w k)
stored_kept name v w k = choice_kept (is_some (local_named w.locals name)) w k _ (stored_globally name v w k) (still w k) (globally_kept name v w k)

stored_only_kept : (name : Name) (o : Option Val) (w : State) (k : ℕ) → Kept w k (stored_only name o w k)
stored_only_kept name None w k = still w k
stored_only_kept name (Some v) w k = stored_kept name v w k

made_of_kept : (p : of_values.Primitive) (name : Name) (amount : Val) (w : State) (k : ℕ) → Kept w k (made_of p name amount w k)
made_of_kept p name amount w k =
    then_kept w k (variable_value name (found_value w name) w k) (λ old. answered (answer p (old ∷ amount ∷ []))) (variable_kept name (found_value w name) w k)
    (λ old u j. answered_kept (answer p (old ∷ amount ∷ [])) u j)

changed_kept : (p : of_values.Primitive) (name : Name) (o : Option Val) (w : State) (k : ℕ) → Kept w k (changed_only p name o w k)
changed_kept p name None w k = still w k
changed_kept p name (Some amount) w k =
    then_kept w k (made_of p name amount w k) (λ v. stored name v) (made_of_kept p name amount w k) (λ v u j. stored_kept name v u j)

valid_kept : (c : ℕ) (o : Option Val) (go : Run) (w : State) (k : ℕ) → Kept w k (go w k) → Kept w k (if_valid c o go w k)
valid_kept c None go w k h = h
valid_kept c (Some x) go w k h = still w k

other_kept : (b : Bool) (name : Val) (w : State) (k : ℕ) → Kept w k (other_function b name w k)
other_kept true name w k = still w k
other_kept false name w k = still w k

symbol_kept : (name : Name) (o : Option ℕ) (w : State) (k : ℕ) → Kept w k (symbol_function name o w k)
symbol_kept name None w k = other_kept (is_plain_function w name) (name_value name) w k
symbol_kept name (Some g) w k = still w k

setter_value_kept : (name : Name) (o : Option ℕ) (w : State) (k : ℕ) → Kept w k (setter_function name o w k)
setter_value_kept name None w k = other_kept (is_some (function_in w.setters name)) (setter_value name) w k
setter_value_kept name (Some g) w k = still w k

value_kept : (c : Called) (w : State) (k : ℕ) → Kept w k (function_value c w k)
value_kept (by_symbol name) w k = symbol_kept name (named w.generics (Symbol name)) w k
value_kept (by_setf name) w k = setter_value_kept name (named w.generics (Setf name)) w k

-- ---- what evaluates forms, by an evaluation that keeps them

module _ (ev : Eval) (h : Keeps ev) where
  -- ---- forms one after another

  pub keeping_kept : (env : Context) (fs : Forms) (v : Val) (w : State) (k : ℕ) → Kept w k (keeping ev env fs v w k)
  keeping_kept env nil v w k = still w k
  keeping_kept env (cons f fs) v w k =
      then_kept w k (ev env f w k) (λ u. keeping ev env fs v) (h env f w k) (λ x u j. keeping_kept env fs v u j)

  pub sequence_kept : (env : Context) (fs : Forms) (v : Val) (w : State) (k : ℕ) → Kept w k (sequence ev env fs v w k)
  sequence_kept env nil v w k = still w k
  sequence_kept env (cons f fs) v w k =
      then_kept w k (ev env f w k) (λ u. sequence ev env fs u) (h env f w k) (λ x u j. sequence_kept env fs x u j)

  while_kept : (env : Context) (fs : Forms) (v : Val) (w : State) (k : ℕ) → Kept w k (while_true ev env fs v w k)
  while_kept env nil v w k = still w k
  while_kept env (cons f fs) v w k =
      then_kept w k (ev env f w k) (λ u t j. if is_true u then while_true ev env fs u t j else Gave u t j) (h env f w k)
      (λ x u j. choice_kept (is_true x) u j (while_true ev env fs x u j) (Gave x u j) (while_kept env fs x u j) (still u j))

  until_kept : (env : Context) (fs : Forms) (v : Val) (w : State) (k : ℕ) → Kept w k (until_true ev env fs v w k)
  until_kept env nil v w k = still w k
  until_kept env (cons f fs) v w k =
      then_kept w k (ev env f w k) (λ u t j. if is_true u then Gave u t j else until_true ev env fs u t j) (h env f w k)
      (λ x u j. choice_kept (is_true x) u j (Gave x u j) (until_true ev env fs x u j) (still u j) (until_kept env fs x u j))

  pub branch_kept : (env : Context) (b : Bool) (fs : Forms) (w : State) (k : ℕ) → Kept w k (branch ev env b fs w k)
  branch_kept env b nil w k = still w k
  branch_kept env b (cons f fs) w k =
      choice_kept b w k (ev env f w k) (sequence ev env fs none w k) (h env f w k) (sequence_kept env fs none w k)

  pub where_true_kept : (env : Context) (fs : Forms) (v : Val) (w : State) (k : ℕ) → Kept w k (where_true ev env fs v w k)
  where_true_kept env fs v w k = choice_kept (is_true v) w k (sequence ev env fs none w k) (Gave none w k) (sequence_kept env fs none w k) (still w k)

  pub where_false_kept : (env : Context) (fs : Forms) (v : Val) (w : State) (k : ℕ) → Kept w k (where_false ev env fs v w k)
  where_false_kept env fs v w k = choice_kept (is_true v) w k (Gave none w k) (sequence ev env fs none w k) (still w k) (sequence_kept env fs none w k)

  pub and_kept : (env : Context) (fs : Forms) (v : Val) (w : State) (k : ℕ) → Kept w k (and_then ev env fs v w k)
  and_kept env fs v w k = choice_kept (is_true v) w k (while_true ev env fs v w k) (Gave v w k) (while_kept env fs v w k) (still w k)

  pub or_kept : (env : Context) (fs : Forms) (v : Val) (w : State) (k : ℕ) → Kept w k (or_then ev env fs v w k)
  or_kept env fs v w k = choice_kept (is_true v) w k (Gave v w k) (until_true ev env fs v w k) (still w k) (until_kept env fs v w k)

  first_kept : (env : Context) (fs : Forms) (go : Forms → Val → Run) → ((gs : Forms) (v : Val) (u : State) (j : ℕ) → Kept u j (go gs v u j))
      → (v : Val) (w : State) (k : ℕ) → Kept w k (first_then ev env fs go v w k)
  first_kept env nil go g v w k = still w k
  first_kept env (cons f fs) go g v w k = then_kept w k (ev env f w k) (λ u. go fs u) (h env f w k) (λ x u j. g fs x u j)

  -- ---- the clauses of a cond form

  clause_kept : (env : Context) (fs : Forms) (rest : Run) → ((u : State) (j : ℕ) → Kept u j (rest u j)) → (w : State) (k : ℕ) → Kept w k (clause ev env fs rest w k)
  clause_kept env nil rest g w k = still w k
  clause_kept env (cons f fs) rest g w k =
      then_kept w k (ev env f w k) (λ v. tested ev env fs rest v) (h env f w k)
      (λ v u j. choice_kept (is_true v) u j (sequence ev env fs v u j) (rest u j) (sequence_kept env fs v u j) (g u j))

  pub clauses_kept : (env : Context) (cs : Forms) (w : State) (k : ℕ) → Kept w k (clauses ev env cs w k)
  clauses_kept env nil w k = still w k
  clauses_kept env (cons c cs) w k =
      clause_kept env (parts_in c) (λ t j. clauses ev env cs t j) (λ u j. clauses_kept env cs u j) w k

  -- ---- calls

  pub collect_kept : (env : Context) (fs : Forms) (vs : List Val) (go : List Val → Run) → ((us : List Val) (u : State) (j : ℕ) → Kept u j (go us u j)) → (w : State) (k : ℕ) → Kept w k (collect ev env fs vs go w k)
  collect_kept env nil vs go g w k = g vs w k
  collect_kept env (cons f fs) vs go g w k =
      then_kept w k (ev env f w k) (λ v. collect ev env fs (vs ++ v ∷ []) go) (h env f w k)
      (λ v u j. collect_kept env fs (vs ++ v ∷ []) go g u j)

  combined_kept : (env : Context) (f : generics.Function) (c : Combined) (w : State) (k : ℕ) → Kept w k (combined_run ev env f c w k)
  combined_kept env f (outcome.effective e) w k = restored w.locals w k (ev env e (bound_as [] w) k) (h env e (bound_as [] w) k)
  combined_kept env f (outcome.invalid_method m) w k = still w k
  combined_kept env f (outcome.group_empty name) w k = still w k
  combined_kept env f (outcome.ambiguous_methods m n) w k = still w k
  combined_kept env f outcome.bad_expansion w k = still w k
  combined_kept env f outcome.expansion_limit w k = still w k

  matched_kept : (vs : List Val) (g : ℕ) (f : generics.Function) (other : Run) (ms : List ℕ) (w : State) (k : ℕ) → Kept w k (other w k)
      → Kept w k (matched_or ev vs g f other ms w k)
  matched_kept vs g f other [] w k e = e
  matched_kept vs g f other (m ∷ ms) w k e =
      choice_kept (keywords_fit w.generics g (m ∷ ms) (after_positional f.shape vs)) w k _ _
      (combined_kept (in_call (record { generic = g; methods = m ∷ ms }) vs) f (comb.effective w.combinations w.generics g (m ∷ ms)) w k) (still w k)

  unmatched_kept : (vs : List Val) (o : Option generics.Function) (w : State) (k : ℕ) → Kept w k (unmatched_by ev vs o w k)
  unmatched_kept vs None w k = still w k
  unmatched_kept vs (Some f) w k =
      matched_kept vs (system_number NoApplicableMethod) f (stopped ProgramError []) (ordered w (system_number NoApplicableMethod) vs) w k (still w k)

  generic_kept : (vs : List Val) (g : ℕ) (o : Option generics.Function) (w : State) (k : ℕ) → Kept w k (called_generic ev vs g o w k)
  generic_kept vs g None w k = still w k
  generic_kept vs g (Some f) w k =
      choice_kept (takes_count f.shape (length vs)) w k _ _
      (matched_kept vs g f (unmatched ev g vs) (ordered w g vs) w k
      (unmatched_kept (value.generic g ∷ vs) (slice_get w.generics.functions (system_number NoApplicableMethod)) w k)) (still w k)

  pub invoked_kept : (f : SystemFunction) (vs : List Val) (w : State) (k : ℕ) → Kept w k (invoked ev f vs w k)
  invoked_kept f vs w k = generic_kept vs (system_number f) (slice_get w.generics.functions (system_number f)) w k

  pub parameters_kept : (env : Context) (ps : Sources) (fs : Forms) (w : State) (k : ℕ) → Kept w k (parameters_run ev env ps fs w k)
  parameters_kept env [] fs w k = sequence_kept env fs none w k
  parameters_kept env ((x, argument v) ∷ ps) fs w k =
      binding_kept x v (parameters_run ev env ps fs) (λ u j. parameters_kept env ps fs u j) w k
  parameters_kept env ((x, refused c) ∷ ps) fs w k = still w k
  parameters_kept env ((x, init f) ∷ ps) fs w k =
      then_kept w k (ev env f w k) (λ v. binding x v (parameters_run ev env ps fs)) (h env f w k)
      (λ v u j. binding_kept x v (parameters_run ev env ps fs) (λ t i. parameters_kept env ps fs t i) u j)

  body_kept : (env : Context) (ps : Sources) (fs : Forms) (w : State) (k : ℕ) → Kept w k (body_run ev env ps fs w k)
  body_kept env ps fs w k = restored w.locals w k (parameters_run ev env ps fs (bound_as [] w) k) (parameters_kept env ps fs (bound_as [] w) k)

  defined_kept : (vs : List Val) (name : Val) (o : Option Function) (w : State) (k : ℕ) → Kept w k (called_defined ev vs name o w k)
  defined_kept vs name None w k = still w k
  defined_kept vs name (Some f) w k =
      choice_kept (fits f.lambda_list vs) w k (body_run ev (known vs) (sources f.lambda_list vs) f.body w k) _ (body_kept (known vs) (sources f.lambda_list vs) f.body w k) (still w k)

  function_kept : (name : Name) (vs : List Val) (o : Option ℕ) (w : State) (k : ℕ) → Kept w k (called_function ev name vs o w k)
  function_kept name vs None w k = defined_kept vs (name_value name) (function_in w.functions name) w k
  function_kept name vs (Some g) w k = generic_kept vs g (slice_get w.generics.functions g) w k

  -- ---- updates

  restructured_kept : (i : ℕ) (l : Layout) (vs : List Val) (go : Run) → ((u : State) (j : ℕ) → Kept u j (go u j)) → (w : State) (k : ℕ) → Kept w k (restructured ev i l vs go w k)
  restructured_kept i l vs go g w k =
      step_kept (λ u j. then_do (invoked ev UpdateInstanceForRedefinedClass vs (record u { store = with_update i l u.store }) j) (λ v x t. go x t)) w k
      (λ j. (then_kept (record w { store = with_update i l w.store }) j (invoked ev UpdateInstanceForRedefinedClass vs (record w { store = with_update i l w.store }) j)
      (λ v x t. go x t) (invoked_kept UpdateInstanceForRedefinedClass vs (record w { store = with_update i l w.store }) j) (λ v x t. g x t)).0)

  updated_kept_with : (i : ℕ) (l : Layout) (go : Run) → ((u : State) (j : ℕ) → Kept u j (go u j)) → (x : Result (List Val) Condition) (w : State) (k : ℕ) → Kept w k (updated_with ev i l go x w k)
  updated_kept_with i l go g (Err c) w k = still w k
  updated_kept_with i l go g (Ok vs) w k = restructured_kept i l vs go g w k

  updated_kept_if : (i : ℕ) (go : Run) → ((u : State) (j : ℕ) → Kept u j (go u j)) → (o : Option Layout) (w : State) (k : ℕ) → Kept w k (updated_if ev i go o w k)
  updated_kept_if i go g None w k = g w k
  updated_kept_if i go g (Some l) w k = updated_kept_with i l go g (told w i l) w k

  pub updated_kept : (i : ℕ) (go : Run) → ((u : State) (j : ℕ) → Kept u j (go u j)) → (w : State) (k : ℕ) → Kept w k (updated ev i go w k)
  updated_kept i go g w k = updated_kept_if i go g (due w i) w k

  -- ---- slots

  missing_kept : (i : ℕ) (name : Name) (operation : List ℕ) (new : List Val) (w : State) (k : ℕ) → Kept w k (missing_called ev i name operation new w k)
  missing_kept i name operation new w k =
      invoked_kept SlotMissing (class_value w i ∷ value.instance i ∷ name_value name ∷ operation_name operation ∷ new) w k

  pub slot_read_kept : (env : Context) (i : ℕ) (name : Name) (o : Option (Option Val)) (w : State) (k : ℕ) → Kept w k (slot_read ev env i name o w k)
  slot_read_kept env i name None w k = missing_kept i name (codes "SLOT-VALUE") [] w k
  slot_read_kept env i name (Some None) w k = invoked_kept SlotUnbound (class_value w i ∷ value.instance i ∷ name_value name ∷ []) w k
  slot_read_kept env i name (Some (Some v)) w k = still w k

  pub slot_tested_kept : (env : Context) (i : ℕ) (name : Name) (o : Option (Option Val)) (w : State) (k : ℕ) → Kept w k (slot_tested ev env i name o w k)
  slot_tested_kept env i name None w k =
      then_kept w k (missing_called ev i name (codes "SLOT-BOUNDP") [] w k) (λ v. gave (truth (is_true v)))
      (missing_kept i name (codes "SLOT-BOUNDP") [] w k) (λ v u j. still u j)
  slot_tested_kept env i name (Some x) w k = still w k

  missing_changed_kept : (i : ℕ) (name : Name) (x : Option Val) (w : State) (k : ℕ) → Kept w k (missing_changed ev i name x w k)
  missing_changed_kept i name None w k = missing_kept i name (codes "SLOT-MAKUNBOUND") [] w k
  missing_changed_kept i name (Some v) w k = missing_kept i name (codes "SETF") (v ∷ []) w k

  slot_changed_kept : (env : Context) (i : ℕ) (name : Name) (x : Option Val) (v : Val) (o : Option (Option Val)) (w : State) (k : ℕ)
      → Kept w k (slot_changed ev env i name x v o w k)
  slot_changed_kept env i name x v None w k =
      then_kept w k (missing_changed ev i name x w k) (λ y. gave v) (missing_changed_kept i name x w k) (λ y u j. still u j)
  slot_changed_kept env i name x v (Some old) w k = step_kept (slot_stored i name x v) w k (λ j. stays w)

  pub slot_put_kept : (env : Context) (i : ℕ) (name : Name) (x : Option Val) (v : Val) (w : State) (k : ℕ) → Kept w k (slot_put ev env i name x v w k)
  slot_put_kept env i name x v w k = slot_changed_kept env i name x v (slot_found w.store i name) w k

  pub slot_answer_kept : (env : Context) (f : of_slots.SlotFunction) (i : ℕ) (name : Name) (w : State) (k : ℕ) → Kept w k (slot_answer ev env f i name w k)
  slot_answer_kept env SlotValue i name w k = slot_read_kept env i name (slot_found w.store i name) w k
  slot_answer_kept env SlotBoundp i name w k = slot_tested_kept env i name (slot_found w.store i name) w k
  slot_answer_kept env SlotMakunbound i name w k = slot_put_kept env i name None (value.instance i) w k
  slot_answer_kept env SlotExistsP i name w k = still w k

  slot_asked_kept : (env : Context) (f : of_slots.SlotFunction) (i : ℕ) (name : Name) (w : State) (k : ℕ) → Kept w k (slot_asked ev env f i name w k)
  slot_asked_kept env SlotValue i name w k = updated_kept i (slot_answer ev env SlotValue i name) (slot_answer_kept env SlotValue i name) w k
  slot_asked_kept env SlotBoundp i name w k = updated_kept i (slot_answer ev env SlotBoundp i name) (slot_answer_kept env SlotBoundp i name) w k
  slot_asked_kept env SlotMakunbound i name w k = updated_kept i (slot_answer ev env SlotMakunbound i name) (slot_answer_kept env SlotMakunbound i name) w k
  slot_asked_kept env SlotExistsP i name w k = still w k

  slot_applied_kept : (env : Context) (f : of_slots.SlotFunction) (d : Result (ℕ × Name) Condition) (w : State) (k : ℕ) → Kept w k (slot_applied ev env f d w k)
  slot_applied_kept env f (Err c) w k = still w k
  slot_applied_kept env f (Ok p) w k = slot_asked_kept env f p.0 p.1 w k

  slot_called_kept : (env : Context) (f : of_slots.SlotFunction) (vs : List Val) (w : State) (k : ℕ) → Kept w k (slot_called ev env f vs w k)
  slot_called_kept env f [] w k = still w k
  slot_called_kept env f (v ∷ []) w k = still w k
  slot_called_kept env f (v ∷ (x ∷ [])) w k = slot_applied_kept env f (slot_designated v x) w k
  slot_called_kept env f (v ∷ (x ∷ (y ∷ vs))) w k = still w k

  slot_given_kept : (env : Context) (x : Val) (d : Result (ℕ × Name) Condition) (w : State) (k : ℕ) → Kept w k (slot_given ev env x d w k)
  slot_given_kept env x (Err c) w k = still w k
  slot_given_kept env x (Ok p) w k = updated_kept p.0 (slot_put ev env p.0 p.1 (Some x) x) (slot_put_kept env p.0 p.1 (Some x) x) w k

  slot_set_kept : (env : Context) (vs : List Val) (w : State) (k : ℕ) → Kept w k (slot_set ev env vs w k)
  slot_set_kept env [] w k = still w k
  slot_set_kept env (v ∷ []) w k = still w k
  slot_set_kept env (v ∷ (x ∷ [])) w k = still w k
  slot_set_kept env (v ∷ (x ∷ (y ∷ []))) w k = slot_given_kept env y (slot_designated v x) w k
  slot_set_kept env (v ∷ (x ∷ (y ∷ (z ∷ vs)))) w k = still w k

  -- ---- methods

  read_kept_of : (env : Context) (slot : Name) (d : Result ℕ Condition) (w : State) (k : ℕ) → Kept w k (read_of ev env slot d w k)
  read_kept_of env slot (Err c) w k = still w k
  read_kept_of env slot (Ok i) w k = updated_kept i (slot_answer ev env SlotValue i slot) (slot_answer_kept env SlotValue i slot) w k

  pub reader_kept : (env : Context) (slot : Name) (vs : List Val) (w : State) (k : ℕ) → Kept w k (read_by ev env slot vs w k)
  reader_kept env slot [] w k = still w k
  reader_kept env slot (v ∷ []) w k = read_kept_of env slot (instance_in v) w k
  reader_kept env slot (v ∷ (x ∷ vs)) w k = still w k

  written_kept_of : (env : Context) (slot : Name) (x : Val) (d : Result ℕ Condition) (w : State) (k : ℕ) → Kept w k (written_of ev env slot x d w k)
  written_kept_of env slot x (Err c) w k = still w k
  written_kept_of env slot x (Ok i) w k = updated_kept i (slot_put ev env i slot (Some x) x) (slot_put_kept env i slot (Some x) x) w k

  pub writer_kept : (env : Context) (slot : Name) (vs : List Val) (w : State) (k : ℕ) → Kept w k (written_by ev env slot vs w k)
  writer_kept env slot [] w k = still w k
  writer_kept env slot (x ∷ []) w k = still w k
  writer_kept env slot (x ∷ (v ∷ [])) w k = written_kept_of env slot x (instance_in v) w k
  writer_kept env slot (x ∷ (v ∷ (y ∷ vs))) w k = still w k

  -- ---- the making of instances

  filled_kept : (env : Context) (f : Subject) (slot : EffectiveSlot) (rest : Run) → ((u : State) (j : ℕ) → Kept u j (rest u j)) → (x : Filler) (w : State) (k : ℕ)
      → Kept w k (filled_by ev env f slot rest x w k)
  filled_kept env f slot rest g nothing w k = g w k
  filled_kept env f slot rest g (filler.value v) w k = stored_kept_then f slot rest g v w k
  filled_kept env f slot rest r (initform g) w k =
      then_kept w k (ev env g w k) (λ v. filled_with f slot rest v) (h env g w k) (λ v u j. filled_with_kept f slot rest r v u j)

  pub fill_kept : (env : Context) (f : Subject) (slots : List EffectiveSlot) (w : State) (k : ℕ) → Kept w k (fill ev env f slots w k)
  fill_kept env f [] w k = still w k
  fill_kept env f (slot ∷ slots) w k =
      filled_kept env f slot (λ u j. fill ev env f slots u j) (λ u j. fill_kept env f slots u j) (filler w f slot) w k

  initialized_kept : (c : ℕ) (vs : List Val) (i : ℕ) (o : Option Val) (w : State) (k : ℕ) → Kept w k (initialized ev c vs i o w k)
  initialized_kept c vs i (Some x) w k = still w k
  initialized_kept c vs i None w k =
      then_kept w k (invoked ev InitializeInstance (value.instance i ∷ vs) w k) (λ v. gave (value.instance i)) (invoked_kept InitializeInstance (value.instance i ∷ vs) w k) (λ v u j. still u j)

  pub checked_kept : (c : ℕ) (e : Whole) (vs : List Val) (i : ℕ) (w : State) (k : ℕ) → Kept w k (checked ev c e vs i w k)
  checked_kept c e vs i w k =
      initialized_kept c vs i (invalid_initarg w.generics.methods (methods_reached w InitializeInstance (value.instance i ∷ []) i (truth true)) e.slots vs) w k

  pub allocate_kept : (env : Context) (c : ℕ) (e : Whole) (vs : List Val) (w : State) (k : ℕ) → Kept w k (allocate ev env c e vs w k)
  allocate_kept env c e vs w k =
      choice_kept (has_room w.store) w k (step_then (made ev env c e vs) w k) _
      (step_kept (made ev env c e vs) w k
      (λ j. (checked_kept c e vs (length w.store.instances + 1) (record w { store = with_instance (allocated c e.layout) w.store }) j).0)) (still w k)

  pub defaulted_kept : (env : Context) (c : ℕ) (e : Whole) (ds : List DefaultInitarg) (vs : List Val) (w : State) (k : ℕ) → Kept w k (defaulted ev env c e ds vs w k)
  defaulted_kept env c e [] vs w k = allocate_kept env c e vs w k
  defaulted_kept env c e (d ∷ ds) vs w k =
      choice_kept (is_given vs d) w k (defaulted ev env c e ds vs w k) _ (defaulted_kept env c e ds vs w k)
      (then_kept w k (ev env d.form w k) (λ v. defaulted ev env c e ds (vs ++ name_value d.name ∷ v ∷ [])) (h env d.form w k)
      (λ v u j. defaulted_kept env c e ds (vs ++ name_value d.name ∷ v ∷ []) u j))

  making_of_kept : (vs : List Val) (c : ℕ) (o : Option Whole) (w : State) (k : ℕ) → Kept w k (making_of ev vs c o w k)
  making_of_kept vs c None w k = still w k
  making_of_kept vs c (Some e) w k =
      restored w.locals w k (defaulted ev (known []) c e e.defaults vs (bound_as [] w) k) (defaulted_kept (known []) c e e.defaults vs (bound_as [] w) k)

  making_kept : (vs : List Val) (d : Result ℕ Condition) (w : State) (k : ℕ) → Kept w k (making ev vs d w k)
  making_kept vs (Err c) w k = still w k
  making_kept vs (Ok c) w k = making_of_kept vs c (effective w.classes c) w k

  instance_kept : (vs : List Val) (w : State) (k : ℕ) → Kept w k (instance_made ev vs w k)
  instance_kept [] w k = still w k
  instance_kept (v ∷ vs) w k =
      choice_kept (are_pairs vs) w k (making ev vs (designated w.classes v) w k) _ (making_kept vs (designated w.classes v) w k) (still w k)

  -- ---- change-class

  different_called_kept : (copy i : ℕ) (vs : List Val) (w : State) (k : ℕ) → Kept w k (different_called ev copy i vs w k)
  different_called_kept copy i vs w k =
      then_kept w k (invoked ev UpdateInstanceForDifferentClass (value.instance copy ∷ value.instance i ∷ vs) w k) (λ v. gave (value.instance i))
      (invoked_kept UpdateInstanceForDifferentClass (value.instance copy ∷ value.instance i ∷ vs) w k) (λ v u j. still u j)

  class_changed_kept : (i c : ℕ) (l : Layout) (vs : List Val) (w : State) (k : ℕ) → Kept w k (class_changed ev i c l vs w k)
  class_changed_kept i c l vs w k =
      step_kept (λ u j. different_called ev (length u.store.instances + 1) i vs (record u { store = with_change i c l u.store }) j) w k
      (λ j. (different_called_kept (length w.store.instances + 1) i vs (record w { store = with_change i c l w.store }) j).0)

  changed_by_layout_kept : (i c : ℕ) (vs : List Val) (o : Option Layout) (w : State) (k : ℕ) → Kept w k (changed_by_layout ev i c vs o w k)
  changed_by_layout_kept i c vs None w k = still w k
  changed_by_layout_kept i c vs (Some l) w k = class_changed_kept i c l vs w k

  pub changed_to_kept : (i c : ℕ) (vs : List Val) (w : State) (k : ℕ) → Kept w k (changed_to ev i c vs w k)
  changed_to_kept i c vs w k =
      choice_kept (has_room w.store) w k (changed_by_layout ev i c vs (if_there (class_of_instance w i) (layout w.classes c)) w k) _
      (changed_by_layout_kept i c vs (if_there (class_of_instance w i) (layout w.classes c)) w k) (still w k)

  changed_if_kept : (i : ℕ) (vs : List Val) (d : Result ℕ Condition) (w : State) (k : ℕ) → Kept w k (changed_if ev i vs d w k)
  changed_if_kept i vs (Err e) w k = still w k
  changed_if_kept i vs (Ok c) w k = updated_kept i (changed_to ev i c vs) (changed_to_kept i c vs) w k

  changed_of_kept : (class : Val) (vs : List Val) (d : Result ℕ Condition) (w : State) (k : ℕ) → Kept w k (changed_of ev class vs d w k)
  changed_of_kept class vs (Err e) w k = still w k
  changed_of_kept class vs (Ok i) w k = changed_if_kept i vs (designated w.classes class) w k

  change_called_kept : (vs : List Val) (w : State) (k : ℕ) → Kept w k (change_called ev vs w k)
  change_called_kept [] w k = still w k
  change_called_kept (v ∷ []) w k = still w k
  change_called_kept (v ∷ (class ∷ vs)) w k = changed_of_kept class vs (instance_in v) w k

  pub applied_kept : (env : Context) (c : Callee) (name : Name) (vs : List Val) (w : State) (k : ℕ) → Kept w k (applied ev env c name vs w k)
  applied_kept env (Output o) name vs w k = output_kept o (only_value vs) w k
  applied_kept env Terpri name vs w k = line_kept vs w k
  applied_kept env (Primitive p) name vs w k = answered_kept (answer p vs) w k
  applied_kept env MakeInstance name vs w k = instance_kept vs w k
  applied_kept env ChangeClass name vs w k = change_called_kept vs w k
  applied_kept env FindMethod name vs w k = comes_kept (method_answer w.classes w.generics vs) w k
  applied_kept env NativeCall name vs w k = native_kept vs w k
  applied_kept env (SlotFunction f) name vs w k = slot_called_kept env f vs w k
  applied_kept env (ClassFunction f) name vs w k = comes_kept (class_answer f w.classes (class_of w) vs) w k
  applied_kept env Defined name vs w k = function_kept name vs (named w.generics (Symbol name)) w k

  -- ---- variables

  init_kept : (env : Context) (fs : Forms) (go : Forms → Val → Run) → ((gs : Forms) (v : Val) (u : State) (j : ℕ) → Kept u j (go gs v u j)) → (w : State) (k : ℕ) → Kept w k (init_form ev env fs go w k)
  init_kept env nil go g w k = still w k
  init_kept env (cons f fs) go g w k = then_kept w k (ev env f w k) (λ v. go fs v) (h env f w k) (λ v u j. g fs v u j)

  pub within_kept : (env : Context) (m : ℕ) (fs : Forms) (v : Val) (w : State) (k : ℕ) → Kept w k (within ev env m fs v w k)
  within_kept env m fs v w k = left_kept m w k (sequence ev env fs v w k) (sequence_kept env fs v w k)

  pub order_kept : (env : Context) (m : ℕ) (bs : List Bound) (fs : Forms) (w : State) (k : ℕ) → Kept w k (in_order ev env m bs fs w k)
  order_kept env m [] fs w k = within_kept env m fs none w k
  order_kept env m (b ∷ bs) fs w k =
      choice_kept b.has_init w k (init_form ev env fs (λ rest v. binding b.name v (in_order ev env m bs rest)) w k) (binding b.name none (in_order ev env m bs fs) w k)
      (init_kept env fs (λ rest v. binding b.name v (in_order ev env m bs rest))
      (λ gs v u j. binding_kept b.name v (in_order ev env m bs gs) (λ t i. order_kept env m bs gs t i) u j) w k)
      (binding_kept b.name none (in_order ev env m bs fs) (λ t i. order_kept env m bs fs t i) w k)

  together_kept : (env : Context) (m : ℕ) (ls : List Local) (fs : Forms) (w : State) (k : ℕ) → Kept w k (together ev env m ls fs w k)
  together_kept env m ls fs w k =
      choice_kept (any_global w.globals (map name_in ls)) w k _ (within ev env m fs none (bound_as (ls ++ w.locals) w) k) (still w k)
      (within_kept env m fs none (bound_as (ls ++ w.locals) w) k)

  pub aside_kept : (env : Context) (m : ℕ) (bs : List Bound) (fs : Forms) (ls : List Local) (w : State) (k : ℕ) → Kept w k (aside ev env m bs fs ls w k)
  aside_kept env m [] fs ls w k = together_kept env m ls fs w k
  aside_kept env m (b ∷ bs) fs ls w k =
      choice_kept b.has_init w k (init_form ev env fs (λ rest v. aside ev env m bs rest ((b.name, held v) ∷ ls)) w k) (aside ev env m bs fs ((b.name, held none) ∷ ls) w k)
      (init_kept env fs (λ rest v. aside ev env m bs rest ((b.name, held v) ∷ ls)) (λ gs v u j. aside_kept env m bs gs ((b.name, held v) ∷ ls) u j) w k)
      (aside_kept env m bs fs ((b.name, held none) ∷ ls) w k)

  result_kept : (env : Context) (b : Bool) (fs : Forms) (w : State) (k : ℕ) → Kept w k (result_value ev env b fs w k)
  result_kept env false fs w k = still w k
  result_kept env true nil w k = still w k
  result_kept env true (cons f fs) w k = h env f w k

  pub turns_kept : (env : Context) (l : Loop) (left done : ℕ) (w : State) (k : ℕ) → Kept w k (turns ev env l left done w k)
  turns_kept env l zero done w k =
      left_kept l.outer w k (result_value ev env l.has_result l.forms (counted l (pos done) w) k) (result_kept env l.has_result l.forms (counted l (pos done) w) k)
  turns_kept env l (suc left) done w k =
      step_kept (λ u j. then_do (sequence ev env (body_of l.has_result l.forms) none (counted l (pos done) u) j) (λ v. turns ev env l left (suc done))) w k
      (λ j. (then_kept w j (sequence ev env (body_of l.has_result l.forms) none (counted l (pos done) w) j) (λ v. turns ev env l left (suc done))
      (sequence_kept env (body_of l.has_result l.forms) none (counted l (pos done) w) j) (λ v u i. turns_kept env l left (suc done) u i)).0)

  pub repeated_kept : (env : Context) (l : Loop) (v : Val) (w : State) (k : ℕ) → Kept w k (repeated ev env l v w k)
  repeated_kept env l (value.integer x) w k =
      choice_kept (is_global w.globals l.name) w k _ (turns ev env l (turns_in x) 0 w k) (still w k) (turns_kept env l (turns_in x) 0 w k)
  repeated_kept env l (value.symbol x) w k = still w k
  repeated_kept env l (value.string x) w k = still w k
  repeated_kept env l (value.list x) w k = still w k
  repeated_kept env l (value.class x) w k = still w k
  repeated_kept env l (value.generic x) w k = still w k
  repeated_kept env l (value.method x) w k = still w k
  repeated_kept env l (value.instance x) w k = still w k

  -- ---- assignment

  setter_kept_by : (name : Name) (vs : List Val) (o : Option ℕ) (w : State) (k : ℕ) → Kept w k (called_setter_by ev name vs o w k)
  setter_kept_by name vs None w k = defined_kept vs (setter_value name) (function_in w.setters name) w k
  setter_kept_by name vs (Some g) w k = generic_kept vs g (slice_get w.generics.functions g) w k

  setter_kept : (name : Name) (vs : List Val) (w : State) (k : ℕ) → Kept w k (called_setter ev name vs w k)
  setter_kept name vs w k = setter_kept_by name (last_first vs) (named w.generics (Setf name)) w k

  pub read_kept : (env : Context) (t : Access) (vs : List Val) (w : State) (k : ℕ) → Kept w k (place_read ev env t vs w k)
  read_kept env (call_access name) vs w k = applied_kept env (callee_of name) name vs w k
  read_kept env slot_access vs w k = slot_called_kept env SlotValue vs w k

  pub set_kept : (env : Context) (t : Access) (vs : List Val) (w : State) (k : ℕ) → Kept w k (place_set ev env t vs w k)
  set_kept env (call_access name) vs w k = setter_kept name vs w k
  set_kept env slot_access vs w k = slot_set_kept env vs w k

  pub changed_from_kept : (env : Context) (p : of_values.Primitive) (t : Access) (vs : List Val) (amount old : Val) (w : State) (k : ℕ)
      → Kept w k (changed_from ev env p t vs amount old w k)
  changed_from_kept env p t vs amount old w k =
      then_kept w k (answered (answer p (old ∷ amount ∷ [])) w k) (λ v. set_place ev env t vs v) (answered_kept (answer p (old ∷ amount ∷ [])) w k)
      (λ v u j. then_kept u j (place_set ev env t (vs ++ v ∷ []) u j) (λ x. gave v) (set_kept env t (vs ++ v ∷ []) u j) (λ x y i. still y i))

  pub changed_place_kept : (env : Context) (p : of_values.Primitive) (t : Access) (vs : List Val) (w : State) (k : ℕ)
      → Kept w k (changed_place ev env p t vs w k)
  changed_place_kept env p t [] w k = still w k
  changed_place_kept env p t (amount ∷ vs) w k =
      then_kept w k (place_read ev env t vs w k) (λ old. changed_from ev env p t vs amount old) (read_kept env t vs w k)
      (λ old u j. changed_from_kept env p t vs amount old u j)

  pub amount_kept : (env : Context) (fs : Forms) (vs : List Val) (go : List Val → Run)
      → ((us : List Val) (u : State) (j : ℕ) → Kept u j (go us u j)) → (w : State) (k : ℕ) → Kept w k (with_amount ev env fs vs go w k)
  amount_kept env nil vs go g w k = g _ w k
  amount_kept env (cons f fs) vs go g w k = collect_kept env (cons f fs) vs go g w k

  -- ---- names

  name_read_kept : (env : Context) (name : Name) (o : Option (List Val)) (w : State) (k : ℕ) → Kept w k (name_read ev env name o w k)
  name_read_kept env name None w k = variable_kept name (found_value w name) w k
  name_read_kept env name (Some place) w k = read_kept env slot_access place w k

  pub name_set_kept : (env : Context) (name : Name) (o : Option (List Val)) (vs : List Val) (w : State) (k : ℕ) → Kept w k (name_set ev env name o vs w k)
  name_set_kept env name None vs w k = stored_only_kept name (only_value vs) w k
  name_set_kept env name (Some place) vs w k = set_kept env slot_access (place ++ vs) w k

  pub name_changed_kept : (env : Context) (p : of_values.Primitive) (name : Name) (o : Option (List Val)) (vs : List Val) (w : State) (k : ℕ)
      → Kept w k (name_changed ev env p name o vs w k)
  name_changed_kept env p name None vs w k = changed_kept p name (only_value vs) w k
  name_changed_kept env p name (Some place) vs w k = changed_place_kept env p slot_access (last_first (place ++ vs)) w k

  pub within_slots_kept : (env : Context) (bs : List BoundSlot) (fs : Forms) (object : Val) (w : State) (k : ℕ)
      → Kept w k (within_slots ev env bs fs object w k)
  within_slots_kept env bs fs object w k = within_kept env (length w.locals) fs none (bound_as (slot_locals bs object ++ w.locals) w) k

  -- ---- the system's methods

  shared_kept : (i : ℕ) (names : Val) (vs : List Val) (w : State) (k : ℕ) → Kept w k (shared_initialized ev i names vs w k)
  shared_kept i names vs w k =
      then_kept w k (invoked ev SharedInitialize (value.instance i ∷ names ∷ vs) w k) (λ v. gave (value.instance i))
      (invoked_kept SharedInitialize (value.instance i ∷ names ∷ vs) w k) (λ v u j. still u j)

  initialize_kept : (vs : List Val) (d : Result ℕ Condition) (w : State) (k : ℕ) → Kept w k (initialize ev vs d w k)
  initialize_kept vs (Err c) w k = still w k
  initialize_kept vs (Ok i) w k = shared_kept i (truth true) vs w k

  shared_if_valid_kept : (f : SystemFunction) (vs : List Val) (names : Val) (initargs : List Val) (i : ℕ) (o : Option (ℕ × Whole)) (w : State) (k : ℕ)
      → Kept w k (shared_if_valid ev f vs names initargs i o w k)
  shared_if_valid_kept f vs names initargs i None w k = still w k
  shared_if_valid_kept f vs names initargs i (Some p) w k =
      valid_kept p.0 (invalid_initarg w.generics.methods (methods_reached w f vs i names) p.1.slots initargs) (shared_initialized ev i names initargs) w k
      (shared_kept i names initargs w k)

  checked_shared_kept : (f : SystemFunction) (vs : List Val) (names : Val) (initargs : List Val) (i : ℕ) (w : State) (k : ℕ)
      → Kept w k (checked_shared ev f vs names initargs i w k)
  checked_shared_kept f vs names initargs i w k = shared_if_valid_kept f vs names initargs i (class_in w i) w k

  pub reinitialize_instance_kept : (vs : List Val) (i : ℕ) (w : State) (k : ℕ) → Kept w k (reinitialize_instance ev vs i w k)
  reinitialize_instance_kept vs i w k = checked_shared_kept ReinitializeInstance (value.instance i ∷ []) none vs i w k

  reinitialize_kept : (vs : List Val) (d : Result ℕ Condition) (w : State) (k : ℕ) → Kept w k (reinitialize ev vs d w k)
  reinitialize_kept vs (Err c) w k = still w k
  reinitialize_kept vs (Ok i) w k = updated_kept i (reinitialize_instance ev vs i) (reinitialize_instance_kept vs i) w k

  redefined_kept : (vs : List Val) (names : Val) (initargs : List Val) (d : Result ℕ Condition) (w : State) (k : ℕ) → Kept w k (redefined ev vs names initargs d w k)
  redefined_kept vs names initargs (Err c) w k = still w k
  redefined_kept vs names initargs (Ok i) w k = checked_shared_kept UpdateInstanceForRedefinedClass vs names initargs i w k

  different_with_kept : (vs initargs : List Val) (i : ℕ) (l : Answer) (w : State) (k : ℕ) → Kept w k (different_with ev vs initargs i l w k)
  different_with_kept vs initargs i (Err c) w k = still w k
  different_with_kept vs initargs i (Ok names) w k = checked_shared_kept UpdateInstanceForDifferentClass vs names initargs i w k

  different_from_kept : (vs initargs : List Val) (copy : ℕ) (d : Result ℕ Condition) (w : State) (k : ℕ) → Kept w k (different_from ev vs initargs copy d w k)
  different_from_kept vs initargs copy (Err c) w k = still w k
  different_from_kept vs initargs copy (Ok i) w k = different_with_kept vs initargs i (names_listed (new_slots w copy i)) w k

  different_kept : (previous current : Val) (initargs : List Val) (d : Result ℕ Condition) (w : State) (k : ℕ) → Kept w k (different ev previous current initargs d w k)
  different_kept previous current initargs (Err c) w k = still w k
  different_kept previous current initargs (Ok copy) w k = different_from_kept (previous ∷ current ∷ initargs) initargs copy (instance_in current) w k

  filled_as_kept : (i : ℕ) (names : Val) (vs : List Val) (o : Option (ℕ × Whole)) (w : State) (k : ℕ) → Kept w k (filled_as ev i names vs o w k)
  filled_as_kept i names vs None w k = still w k
  filled_as_kept i names vs (Some p) w k =
      let f : Subject = record { instance = i; class = p.0; names = names; initargs = vs } in
      restored w.locals w k (fill ev (known []) f p.1.slots (bound_as [] w) k) (fill_kept (known []) f p.1.slots (bound_as [] w) k)

  pub slots_filled_kept : (i : ℕ) (names : Val) (vs : List Val) (w : State) (k : ℕ) → Kept w k (slots_filled ev i names vs w k)
  slots_filled_kept i names vs w k = filled_as_kept i names vs (class_in w i) w k

  slots_kept : (names : Val) (vs : List Val) (d : Result ℕ Condition) (w : State) (k : ℕ) → Kept w k (initialize_slots ev names vs d w k)
  slots_kept names vs (Err c) w k = still w k
  slots_kept names vs (Ok i) w k =
      choice_kept (are_slot_names names) w k (updated ev i (slots_filled ev i names vs) w k) _ (updated_kept i (slots_filled ev i names vs) (slots_filled_kept i names vs) w k) (still w k)

  pub system_kept : (f : SystemFunction) (vs : List Val) (w : State) (k : ℕ) → Kept w k (system_method_run ev f vs w k)
  system_kept InitializeInstance [] w k = still w k
  system_kept InitializeInstance (v ∷ vs) w k = initialize_kept vs (instance_in v) w k
  system_kept ReinitializeInstance [] w k = still w k
  system_kept ReinitializeInstance (v ∷ vs) w k = reinitialize_kept vs (instance_in v) w k
  system_kept SharedInitialize [] w k = still w k
  system_kept SharedInitialize (v ∷ []) w k = still w k
  system_kept SharedInitialize (v ∷ (names ∷ vs)) w k =
      choice_kept (are_even vs) w k (initialize_slots ev names vs (instance_in v) w k) _ (slots_kept names vs (instance_in v) w k) (still w k)
  system_kept UpdateInstanceForRedefinedClass [] w k = still w k
  system_kept UpdateInstanceForRedefinedClass (v ∷ []) w k = still w k
  system_kept UpdateInstanceForRedefinedClass (v ∷ (added ∷ [])) w k = still w k
  system_kept UpdateInstanceForRedefinedClass (v ∷ (added ∷ (discarded ∷ []))) w k = still w k
  system_kept UpdateInstanceForRedefinedClass (v ∷ (added ∷ (discarded ∷ (properties ∷ vs)))) w k =
      redefined_kept (v ∷ added ∷ discarded ∷ properties ∷ vs) added vs (instance_in v) w k
  system_kept UpdateInstanceForDifferentClass [] w k = still w k
  system_kept UpdateInstanceForDifferentClass (v ∷ []) w k = still w k
  system_kept UpdateInstanceForDifferentClass (v ∷ (current ∷ vs)) w k = different_kept v current vs (instance_in v) w k
  system_kept SlotUnbound vs w k = still w k
  system_kept SlotMissing vs w k = still w k
  system_kept NoApplicableMethod [] w k = still w k
  system_kept NoApplicableMethod (v ∷ vs) w k = still w k
  system_kept NoNextMethod [] w k = still w k
  system_kept NoNextMethod (v ∷ []) w k = still w k
  system_kept NoNextMethod (v ∷ (m ∷ vs)) w k = still w k

  -- ---- methods

  method_body_kept : (env : Context) (b : MethodBody) (w : State) (k : ℕ) → Kept w k (method_body_run ev env b w k)
  method_body_kept env (Body l fs) w k =
      choice_kept (keys_are_even l env.arguments) w k (body_run ev env (sources l env.arguments) fs w k) _
      (body_kept env (sources l env.arguments) fs w k) (still w k)
  method_body_kept env (Reader slot) w k = reader_kept env slot env.arguments w k
  method_body_kept env (Writer slot) w k = writer_kept env slot env.arguments w k
  method_body_kept env (System f) w k = system_kept f env.arguments w k

  method_kept : (env : Context) (o : Option Method) (w : State) (k : ℕ) → Kept w k (method_run ev env o w k)
  method_kept env None w k = still w k
  method_kept env (Some m) w k = method_body_kept env m.body w k

  made_kept : (env : Context) (fs : Forms) (w : State) (k : ℕ) → Kept w k (made_run ev env fs w k)
  made_kept env nil w k = still w k
  made_kept env (cons f fs) w k = restored w.locals w k (ev env f (bound_as [] w) k) (h env f (bound_as [] w) k)

  called_kept_method : (env : Context) (m : Callable) (next : List Callable) (fs : Forms) (w : State) (k : ℕ) → Kept w k (method_called ev env m next fs w k)
  called_kept_method env (of.the_method m) next fs w k = method_kept (running m next fs env) (slice_get w.generics.methods m) w k
  called_kept_method env of.made next fs w k = made_kept env fs w k

  -- ---- next methods

  none_next_kept : (o : Option Dispatch) (m : ℕ) (vs : List Val) (w : State) (k : ℕ) → Kept w k (none_next ev o m vs w k)
  none_next_kept None m vs w k = still w k
  none_next_kept (Some d) m vs w k = invoked_kept NoNextMethod (value.generic d.generic ∷ value.method m ∷ vs) w k

  next_run_kept : (env : Context) (r : Running) (ns : List Callable) (vs : List Val) (w : State) (k : ℕ) → Kept w k (next_run ev env r ns vs w k)
  next_run_kept env r [] vs w k = none_next_kept env.call r.method.0 vs w k
  next_run_kept env r (n ∷ ns) vs w k = called_kept_method (with_arguments vs env) n ns r.forms w k

  next_called_kept : (env : Context) (o : Option Running) (vs : List Val) (w : State) (k : ℕ) → Kept w k (next_called ev env o vs w k)
  next_called_kept env None vs w k = still w k
  next_called_kept env (Some r) vs w k = next_run_kept env r r.next vs w k

  next_by_kept : (env : Context) (r : Running) (d : Dispatch) (o : Option generics.Function) (vs : List Val) (w : State) (k : ℕ) → Kept w k (next_by ev env r d o vs w k)
  next_by_kept env r d None vs w k = still w k
  next_by_kept env r d (Some f) vs w k =
      choice_kept (takes_count f.shape (length vs)) w k _ _
      (choice_kept (same_numbers (ordered w d.generic vs) d.methods) w k (next_run ev env r r.next vs w k) _ (next_run_kept env r r.next vs w k) (still w k)) (still w k)

  next_in_kept : (env : Context) (r : Running) (o : Option Dispatch) (vs : List Val) (w : State) (k : ℕ) → Kept w k (next_in ev env r o vs w k)
  next_in_kept env r None vs w k = still w k
  next_in_kept env r (Some d) vs w k = next_by_kept env r d (slice_get w.generics.functions d.generic) vs w k

  pub next_given_kept : (env : Context) (o : Option Running) (vs : List Val) (w : State) (k : ℕ) → Kept w k (next_given ev env o vs w k)
  next_given_kept env None vs w k = still w k
  next_given_kept env (Some r) vs w k = next_in_kept env r env.call vs w k

  -- ---- assignments

  name_stored_kept : (env : Context) (name : Name) (vs : List Val) (w : State) (k : ℕ) → Kept w k (name_stored ev env name vs w k)
  name_stored_kept env name vs w k = name_set_kept env name (place_denoted w name) vs w k

  name_changed_by_kept : (env : Context) (p : of_values.Primitive) (name : Name) (vs : List Val) (w : State) (k : ℕ)
      → Kept w k (name_changed_by ev env p name vs w k)
  name_changed_by_kept env p name vs w k = name_changed_kept env p name (place_denoted w name) vs w k

  place_set_to_kept : (env : Context) (a : Access) (f : Form) (vs : List Val) (w : State) (k : ℕ) → Kept w k (place_set_to ev env a f vs w k)
  place_set_to_kept env a f vs w k =
      collect_kept env (alone f) vs (λ us u j. place_set ev env a us u j) (λ us u j. set_kept env a us u j) w k

  place_changed_by_kept : (env : Context) (p : of_values.Primitive) (a : Access) (fs : Forms) (vs : List Val) (w : State) (k : ℕ)
      → Kept w k (place_changed_by ev env p a fs vs w k)
  place_changed_by_kept env p a fs vs w k =
      amount_kept env fs vs (λ us u j. changed_place ev env p a (last_first us) u j) (λ us u j. changed_place_kept env p a (last_first us) u j) w k

  pub setq_kept : (env : Context) (ns : List Name) (fs : Forms) (v : Val) (w : State) (k : ℕ) → Kept w k (setq ev env ns fs v w k)
  setq_kept env [] fs v w k = still w k
  setq_kept env (n ∷ ns) nil v w k = still w k
  setq_kept env (n ∷ ns) (cons f fs) v w k =
      then_kept w k (collect ev env (alone f) [] (name_stored ev env n) w k) (λ u. setq ev env ns fs u)
      (collect_kept env (alone f) [] (name_stored ev env n) (λ us u j. name_stored_kept env n us u j) w k)
      (λ x u j. setq_kept env ns fs x u j)

  assigned_kept : (env : Context) (o : Option Place) (ps : Forms) (f : Form) (w : State) (k : ℕ) → Kept w k (assigned ev env o ps f w k)
  assigned_kept env None ps f w k = still w k
  assigned_kept env (Some (variable_place n)) ps f w k =
      collect_kept env (alone f) [] (name_stored ev env n) (λ us u j. name_stored_kept env n us u j) w k
  assigned_kept env (Some slot_value_place) ps f w k =
      collect_kept env ps [] (place_set_to ev env slot_access f) (λ us u j. place_set_to_kept env slot_access f us u j) w k
  assigned_kept env (Some (call_place n)) ps f w k =
      collect_kept env ps [] (place_set_to ev env (call_access n) f) (λ us u j. place_set_to_kept env (call_access n) f us u j) w k

  pub setf_kept : (env : Context) (fs : Forms) (v : Val) (w : State) (k : ℕ) → Kept w k (setf ev env fs v w k)
  setf_kept env nil v w k = still w k
  setf_kept env (cons p nil) v w k = still w k
  setf_kept env (cons p (cons f fs)) v w k =
      then_kept w k (assigned ev env (place_in (operator_in p)) (parts_in p) f w k) (λ u. setf ev env fs u)
      (assigned_kept env (place_in (operator_in p)) (parts_in p) f w k) (λ x u j. setf_kept env fs x u j)

  place_kept : (env : Context) (p : of_values.Primitive) (o : Option Place) (ps fs : Forms) (w : State) (k : ℕ)
      → Kept w k (changed_by ev env p o ps fs w k)
  place_kept env p None ps fs w k = still w k
  place_kept env p (Some (variable_place n)) ps fs w k =
      amount_kept env fs [] (name_changed_by ev env p n) (λ us u j. name_changed_by_kept env p n us u j) w k
  place_kept env p (Some slot_value_place) ps fs w k =
      collect_kept env ps [] (place_changed_by ev env p slot_access fs) (λ us u j. place_changed_by_kept env p slot_access fs us u j) w k
  place_kept env p (Some (call_place n)) ps fs w k =
      collect_kept env ps [] (place_changed_by ev env p (call_access n) fs) (λ us u j. place_changed_by_kept env p (call_access n) fs us u j) w k

  changing_kept : (env : Context) (p : of_values.Primitive) (fs : Forms) (w : State) (k : ℕ) → Kept w k (changing ev env p fs w k)
  changing_kept env p nil w k = still w k
  changing_kept env p (cons f fs) w k = place_kept env p (place_in (operator_in f)) (parts_in f) fs w k

  -- ---- forms

  -- ---- forms

  next_method_kept : (env : Context) (fs : Forms) (w : State) (k : ℕ) → Kept w k (next_method ev env fs w k)
  next_method_kept env nil w k = next_called_kept env env.running env.arguments w k
  next_method_kept env (cons f fs) w k =
      collect_kept env (cons f fs) [] (next_with ev env) (λ us u j. next_given_kept env env.running us u j) w k

  operated_kept : (env : Context) (o : Operator) (ps : Forms) (w : State) (k : ℕ) → Kept w k (operated ev env o ps w k)
  operated_kept env (of.constant v) ps w k = still w k
  operated_kept env of.no_value ps w k = still w k
  operated_kept env (of.variable name) ps w k = name_read_kept env name (place_denoted w name) w k
  operated_kept env (of.function c) ps w k = value_kept c w k
  operated_kept env of.if_form ps w k = first_kept env ps (branch_by ev env) (λ gs v u j. branch_kept env (is_true v) gs u j) none w k
  operated_kept env of.cond ps w k = clauses_kept env ps w k
  operated_kept env of.clause ps w k = still w k
  operated_kept env of.when ps w k = first_kept env ps (where_true ev env) (λ gs v u j. where_true_kept env gs v u j) none w k
  operated_kept env of.unless ps w k = first_kept env ps (where_false ev env) (λ gs v u j. where_false_kept env gs v u j) none w k
  operated_kept env of.and_form ps w k = first_kept env ps (and_then ev env) (λ gs v u j. and_kept env gs v u j) _ w k
  operated_kept env of.or_form ps w k = first_kept env ps (or_then ev env) (λ gs v u j. or_kept env gs v u j) none w k
  operated_kept env of.progn ps w k = first_kept env ps (sequence ev env) (λ gs v u j. sequence_kept env gs v u j) none w k
  operated_kept env of.prog1 ps w k = first_kept env ps (keeping ev env) (λ gs v u j. keeping_kept env gs v u j) none w k
  operated_kept env (of.let_form bs) ps w k = aside_kept env (length w.locals) bs ps [] w k
  operated_kept env (of.let_in_order bs) ps w k = order_kept env (length w.locals) bs ps w k
  operated_kept env (of.setq ns) ps w k = setq_kept env ns ps none w k
  operated_kept env of.setf ps w k = setf_kept env ps none w k
  operated_kept env of.incf ps w k = changing_kept env (Number Sum) ps w k
  operated_kept env of.decf ps w k = changing_kept env (Number Difference) ps w k
  operated_kept env (of.place p) ps w k = still w k
  operated_kept env (of.dotimes n b) ps w k =
      init_kept env ps (λ rest v. repeated ev env (record { outer = length w.locals; name = n; has_result = b; forms = rest }) v)
      (λ gs v u j. repeated_kept env (record { outer = length w.locals; name = n; has_result = b; forms = gs }) v u j) w k
  operated_kept env (of.with_slots bs) ps w k =
      init_kept env ps (λ rest object. within_slots ev env bs rest object) (λ gs object u j. within_slots_kept env bs gs object u j) w k
  operated_kept env of.call_next_method ps w k = next_method_kept env ps w k
  operated_kept env of.next_method_p ps w k = still w k
  operated_kept env (of.call name) ps w k =
      collect_kept env ps [] (called ev env name) (λ us u j. applied_kept env (callee_of name) name us u j) w k
  operated_kept env (of.call_method m ns) ps w k = called_kept_method env m ns ps w k

-- ---- the meaning of forms

pub meaning_kept : (n : ℕ) → Keeps (meaning n)
meaning_kept zero env f w k = step_kept (stopped DepthLimit []) w k (λ j. stays w)
meaning_kept (suc n) env f w k = step_kept (body (meaning n) env f) w k (λ j. (operated_kept (meaning n) (meaning_kept n) env (operator_in f) (parts_in f) w j).0)

closed_same : (w : State) (o : Out) → SameAfter w o → SameAfter w (closed o)
closed_same w (Gave v u k) h = h
closed_same w (Stopped c u k) h = h
closed_same w (Noted n o) h = closed_same w o h
closed_same w (Looked name more) h = λ n. closed_same w (more n) (h n)
closed_same w (Asked name xs more) h = λ x. closed_same w (more x) (h x)

-- a form by itself
pub evaluation_kept : (room : ℕ) (f : Form) (w : State) (k : ℕ) → SameAfter w (evaluation room f w k)
evaluation_kept room f w k =
    closed_same w (meaning room (known []) f (unbound w) k) (meaning_kept room (known []) f (unbound w) k).0
