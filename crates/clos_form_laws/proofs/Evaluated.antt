-- By two evaluations that agree on the forms that are well formed where they stand, each form comes to the same.
use Rattle.std.proofs.Common.{◌≡◌, subst, ℕ, zero, suc, List, [], ◌∷◌, ◌++◌, map, Option, Some, None, Result, Ok, Err, Bool, true, false, length, ◌+◌, slice_get, refl, ap, sym, ◌∙◌}
use Rattle.std.specs.Prelude.{codes, pos, is_some, ℤ, ◌==◌, if◌then◌else◌, IfSome, ◌&&◌, nat_le}
use Rattle.lisp_data.specs.Name.{Name}
use Rattle.lisp_data.specs.Print.{Called, by_symbol, by_setf}
use Rattle.lisp_data.specs.Value.{Val}
use Rattle.lisp_data.specs.Value as value
use Rattle.lisp_prims.specs.Fault as prims
use Rattle.lisp_prims.specs.Primitive.{answer, truth}
use Rattle.lisp_prims.specs.lisp_functions.declared.arithmetic.Arithmetic.TheVariants.{Sum, Difference}
use Rattle.lisp_prims.specs.lisp_functions.declared.primitive.Primitive as of_values
use Rattle.lisp_prims.specs.lisp_functions.declared.primitive.Primitive.TheVariants.{Number}
use Rattle.clos_forms.specs.Form.{Form, Forms, nil, cons, parts_in, operator_in}
use Rattle.clos_forms.specs.Operator as of
use Rattle.clos_forms.specs.Operator.{Callable, Operator, Bound, BoundSlot, Place, variable_place, slot_value_place, call_place}
use Rattle.clos_forms.specs.Quotation.{name_value}
use Rattle.clos_meaning.specs.clos_world.Definitions.{Same}
use Rattle.clos_meaning.specs.clos_world.FunctionName.{setter_value}
use Rattle.clos_meaning.specs.clos_world.Functions.{function_in}
use Rattle.clos_forms.specs.declared.operator.FunctionName.TheVariants.{Symbol, Setf}
use Rattle.clos_generic.specs.Table.{named}
use Rattle.clos_generic.specs.Table as generics
use Rattle.clos_method.specs.Shape.{takes_count}
use Rattle.clos_method.specs.declared.method.Method.{Method}
use Rattle.clos_method.specs.declared.method.MethodBody.{MethodBody}
use Rattle.clos_method.specs.declared.method.MethodBody.TheVariants.{Forms as Body, Reader, Writer, System}
use Rattle.clos_meaning.specs.clos_world.clos_comb.Effective as comb
use Rattle.clos_meaning.specs.clos_world.clos_comb.Outcome.{Combined}
use Rattle.clos_meaning.specs.clos_world.clos_comb.Outcome as outcome
use Rattle.lisp_data.specs.Numbers.{same_numbers}
use Rattle.clos_meaning.specs.clos_world.Dispatch.{ordered}
use Rattle.clos_meaning.specs.clos_world.Globals.{is_global, any_global}
use Rattle.clos_method.specs.System.{system_number}
use Rattle.clos_method.specs.declared.system.SystemFunction.{SystemFunction}
use Rattle.clos_method.specs.declared.system.SystemFunction.TheVariants.{InitializeInstance, ReinitializeInstance, SharedInitialize, UpdateInstanceForRedefinedClass, UpdateInstanceForDifferentClass, SlotUnbound, SlotMissing, NoApplicableMethod, NoNextMethod}
use Rattle.clos_meaning.specs.clos_world.Values.{only_value, last_first}
use Rattle.clos_meaning.specs.clos_world.World.{State, Local, bound_as, unbound, local_named, names_of, class_of, class_of_instance, held}
use Rattle.clos_meaning.specs.clos_world.declared.condition.Condition.{Condition}
use Rattle.clos_meaning.specs.clos_world.declared.condition.ConditionKind.TheVariants.{DepthLimit, ProgramError, Unsupported, UnboundVariable, TableLimit, NextArguments}
use Rattle.clos_meaning.specs.clos_world.declared.functions.Function.{Function}
use Rattle.clos_meaning.specs.Accessors.{read_by, read_of, written_by, written_of}
use Rattle.clos_meaning.specs.Assignment.{stored, stored_globally, stored_only, made_of, changed_only, global_set, with_local}
use Rattle.clos_forms.specs.clos_names.Callee.{callee_of}
use Rattle.clos_meaning.specs.ClassFunctions.{Answer, class_answer, comes_to, symbol_in, wrong_type}
use Rattle.clos_meaning.specs.Bodies.{restoring, parameters_run, body_run}
use Rattle.clos_meaning.specs.Calls.{called_defined, called_setter_by, called_function, keys_are_even, method_run, method_body_run, method_called, made_run}
use Rattle.clos_meaning.specs.Natives.{answer_given, integers_given, integers_in, native_called, native_found, native_named}
use Rattle.clos_meaning.specs.NextMethods.{next_with, next_by, next_called, next_given, next_in, next_run, none_next}
use Rattle.clos_meaning.specs.FindMethod.{method_answer}
use Rattle.clos_meaning.specs.Dispatch.{Dispatch}
use Rattle.clos_meaning.specs.Contexts.{Context, in_call, known, running, with_arguments}
use Rattle.clos_meaning.specs.GenericCalls.{after_positional, called_generic, combined_run, invoked, keywords_fit, matched_or, unmatched, unmatched_by}
use Rattle.clos_meaning.specs.SystemMethods.{class_in, checked_shared, different, different_from, different_with, new_slots, redefined, reinitialize_instance, shared_if_valid, shared_initialized, slots_filled, initialize, if_valid, reinitialize, filled_as, initialize_slots, system_method_run}
use Rattle.clos_meaning.specs.Control.{keeping, sequence, while_true, until_true, branch, branch_by, where_true, where_false, and_then, or_then, first_then, tested, clause, clauses}
use Rattle.clos_meaning.specs.Fault.{answered}
use Rattle.clos_meaning.specs.Meaning.{collect, alone, setq, setf, assigned, place_in, next_method, with_amount, set_place, changed_from, changed_place, changing, changed_by, other_function, is_plain_function, symbol_function, setter_function, function_value, operated, body, meaning, closed, name_changed, name_changed_by, place_set_to, place_changed_by}
use Rattle.clos_meaning.specs.Objects.{designated}
use Rattle.clos_meaning.specs.Filling.{are_slot_names, Filler, nothing, initform, filler, filled, filled_with, filled_by, fill, is_the_class, Subject, initarg_for, unbound_filler, is_named}
use Rattle.clos_meaning.specs.Filling as filler
use Rattle.clos_meaning.specs.Functions.{Access, applied, call_access, called, place_read, place_set, slot_access}
use Rattle.clos_meaning.specs.Initialization.{allocate, checked, initialized, invalid_initarg, is_given, made, methods_reached, defaulted, making_of, making, instance_made, reaching}
use Rattle.clos_meaning.specs.Slots.{class_value, operation_name, missing_called, missing_changed, instance_in, slot_designated, slot_read, slot_tested, slot_changed, slot_answer, slot_applied, slot_asked, slot_called, slot_given, slot_put, slot_set, slot_stored}
use Rattle.clos_forms.specs.clos_names.declared.callee.SlotFunction as of_slots
use Rattle.clos_forms.specs.clos_names.declared.callee.SlotFunction.TheVariants.{SlotValue, SlotBoundp, SlotMakunbound, SlotExistsP}
use Rattle.clos_meaning.specs.clos_world.clos_class.Slots.{Effective as Whole, Layout}
use Rattle.clos_meaning.specs.clos_world.clos_class.declared.effective_slots.EffectiveSlot.{EffectiveSlot}
use Rattle.clos_syntax.specs.clos_defclass.declared.class.DefaultInitarg.{DefaultInitarg}
use Rattle.clos_meaning.specs.clos_world.clos_store.Store.{allocated, has_room, slot_found, with_instance}
use Rattle.clos_meaning.specs.clos_world.clos_store.Update.{with_change, with_update}
use Rattle.clos_meaning.specs.clos_world.Class.{effective, layout}
use Rattle.clos_meaning.specs.ChangeClass.{change_called, changed_by_layout, changed_if, changed_of, changed_to, class_changed, different_called, if_there}
use Rattle.clos_meaning.specs.Updating.{due, names_listed, restructured, told, updated, updated_if, updated_with}
use Rattle.clos_meaning.specs.Outcome.{Noted, Looked, Asked, Out, Gave, Stopped, Run, Eval, then_do, step_then, gave, stopped, is_true, Note, used}
use Rattle.clos_meaning.specs.Output.{output_of, text_by, written, line_ended}
use Rattle.clos_meaning.specs.Parameters.{Sources, argument, refused, init, are_even, are_pairs, fits, sources}
use Rattle.clos_meaning.specs.Variables.{Loop, found_value, variable_value, inner, leaving, init_form, within, binding, in_order, together, aside, name_in, counted, body_of, result_value, turns, turns_in, repeated}
use Rattle.clos_meaning.specs.SlotNames.{name_stored, name_read, name_set, place_denoted, slot_locals, within_slots}
use Rattle.clos_meaning.specs.declared.arguments.Running.{Running}
use Rattle.clos_forms.specs.clos_names.declared.callee.Callee.{Callee}
use Rattle.clos_forms.specs.clos_names.declared.callee.Callee.TheVariants.{Output, Terpri, Primitive, MakeInstance, ChangeClass, FindMethod, NativeCall, ClassFunction, SlotFunction, Defined}
use Rattle.clos_forms.specs.clos_names.declared.callee.Output as output
use Rattle.clos_meaning.specs.Uses.{noted}
use Rattle.clos_meaning.specs.clos_world.Keys.{key_of}
use Rattle.std.specs.Cmp.{first_so, second_so}
use Rattle.clos_forms.specs.Part.{in_effective, in_method}
use Rattle.clos_forms.specs.WellFormed.{are_expressions, are_made_well, forms_of_made, is_expression, is_made_well, is_place, is_well_formed, made_among, place_and_amount, role_of, roles_of, takes}
use Rattle.clos_forms.specs.Form.{form}
use Rattle.clos_forms.specs.declared.part.Context.{Context as Standing}
use Rattle.clos_forms.specs.declared.part.Context.TheVariants.{Effective as InEffective, Method as InMethod, Plain}
use Rattle.clos_generic.specs.Sound.{Each}
use Rattle.clos_syntax.specs.WellFormed.{OfDefault}
use Rattle.clos_form_laws.specs.Evaluated.{OtherFormsAreNoMatter, meaning_or, standing_in, standing_of}
use Rattle.clos_form_laws.specs.Kept.{AreWellFormed, OfFunction, OfMethodBody}
use Rattle.clos_form_laws.proofs.Parts.{AllAssigned, AllClauses, AllStand, all_stand, assigned_stand, body_stands, clauses_stand, count_expressions, first_expressions, inits_expressions, place_stands, values_expressions}
use Rattle.clos_form_laws.proofs.Standing.{AllSources, CombinedStands, FillerStands, HasNext, IsProper, SlotStands, WholeStands, class_in_stands, class_stands, effective_form_stands, effective_proper, filler_stands, has_next_forms, is_effective, named_stands, running_proper, sources_stand, unbound_stands}
use Rattle.clos_form_laws.proofs.Kept.{same_well}
use Rattle.clos_form_laws.proofs.Lists.{each_at}

-- all states that it comes to have these definitions
abbrev pub AllSame : State → Out → Type 0
AllSame base (Gave v u k) = Same base u
AllSame base (Stopped c u k) = Same base u
AllSame base (Noted n o) = AllSame base o
AllSame base (Looked name more) = (n : Option ℕ) → AllSame base (more n)
AllSame base (Asked name xs more) = (x : ℤ) → AllSame base (more x)

-- one outcome, of which all states have these definitions
pub record Alike (base : State) (o q : Out) : Type 0 where
  pub same : AllSame base o
  pub is : o ≡ q

-- an outcome that no evaluation has a part in
pub own : {base : State} {o : Out} → AllSame base o → Alike base o o
own h = record { same = h; is = refl }

then_same : (base : State) (o : Out) (go : Val → Run) → AllSame base o → ((v : Val) (u : State) (j : ℕ) → Same base u → AllSame base (go v u j))
    → AllSame base (then_do o go)
then_same base (Gave v u j) go h g = g v u j h
then_same base (Stopped c u j) go h g = h
then_same base (Noted n o) go h g = then_same base o go h g
then_same base (Looked name more) go h g = λ n. then_same base (more n) go (h n) g
then_same base (Asked name xs more) go h g = λ x. then_same base (more x) go (h x) g

then_one : (base : State) (o : Out) (go other : Val → Run) → AllSame base o → ((v : Val) (u : State) (j : ℕ) → Same base u → go v u j ≡ other v u j)
    → then_do o go ≡ then_do o other
then_one base (Gave v u j) go other h g = g v u j h
then_one base (Stopped c u j) go other h g = refl
then_one base (Noted n o) go other h g = ap (Noted n) (then_one base o go other h g)
then_one base (Looked name more) go other h g = ap (Looked name) (λ i n. then_one base (more n) go other (h n) g i)
then_one base (Asked name xs more) go other h g = ap (Asked name xs) (λ i x. then_one base (more x) go other (h x) g i)

-- what follows a value
pub then_alike : {base : State} (o q : Out) (go other : Val → Run) → Alike base o q
    → ((v : Val) (u : State) (j : ℕ) → Same base u → Alike base (go v u j) (other v u j)) → Alike base (then_do o go) (then_do q other)
then_alike {base} o q go other h g = record {
  same = then_same base o go h.same (λ v u j e. (g v u j e).same);
  is = then_one base o go other h.same (λ v u j e. (g v u j e).is) ∙ ap (λ x. then_do x other) h.is;
}

-- .. where the same follows, which comes to such states
pub then_own : {base : State} (o q : Out) (go : Val → Run) → Alike base o q → ((v : Val) (u : State) (j : ℕ) → Same base u → AllSame base (go v u j))
    → Alike base (then_do o go) (then_do q go)
then_own o q go h g = then_alike o q go go h (λ v u j e. own (g v u j e))

pub choice_alike : {base : State} (b : Bool) (x x' y y' : Out) → Alike base x x' → Alike base y y' → Alike base (if b then x else y) (if b then x' else y')
choice_alike true x x' y y' h g = h
choice_alike false x x' y y' h g = g

pub noted_alike : {base : State} (n : Note) (o q : Out) → Alike base o q → Alike base (Noted n o) (Noted n q)
noted_alike n o q h = record { same = h.same; is = ap (Noted n) h.is }

pub step_alike : {base : State} (run other : Run) (w : State) → Same base w → (k : ℕ) → ((j : ℕ) → Alike base (run w j) (other w j))
    → Alike base (step_then run w k) (step_then other w k)
step_alike run other w s zero h = own s
step_alike run other w s (suc k) h = h k

step_same : (base : State) (run : Run) (w : State) → Same base w → (k : ℕ) → ((j : ℕ) → AllSame base (run w j)) → AllSame base (step_then run w k)
step_same base run w s zero h = s
step_same base run w s (suc k) h = h k

choice_same : (base : State) (b : Bool) (x y : Out) → AllSame base x → AllSame base y → AllSame base (if b then x else y)
choice_same base true x y h g = h
choice_same base false x y h g = g

abbrev none : Val
none = value.list value.nil

-- ---- what evaluates no forms

module _ (base : State) where
  integers_same : (name : Name) (r : Result (List ℤ) Val) (w : State) → Same base w → (k : ℕ) → AllSame base (integers_given name r w k)
  integers_same name (Err v) w s k = s
  integers_same name (Ok xs) w s k = step_same base (answer_given name xs) w s k (λ j x. s)

  found_same : (name : Name) (vs : List Val) (n : Option ℕ) (w : State) → Same base w → (k : ℕ) → AllSame base (native_found name vs n w k)
  found_same name vs None w s k = s
  found_same name vs (Some n) w s k =
      choice_same base (length vs == n) (integers_given name (integers_in vs) w k) (stopped ProgramError [] w k) (integers_same name (integers_in vs) w s k) s

  native_named_same : (v : Val) (name : Option Name) (vs : List Val) (w : State) → Same base w → (k : ℕ) → AllSame base (native_named v name vs w k)
  native_named_same v None vs w s k = s
  native_named_same v (Some name) vs w s k = λ n. found_same name vs n w s k

  native_same : (vs : List Val) (w : State) → Same base w → (k : ℕ) → AllSame base (native_called vs w k)
  native_same [] w s k = s
  native_same (v ∷ vs) w s k = native_named_same v (symbol_in v) vs w s k

  output_same : (o : output.Output) (x : Option Val) (w : State) → Same base w → (k : ℕ) → AllSame base (output_of o x w k)
  output_same o None w s k = s
  output_same o (Some v) w s k = step_same base (written (text_by o (names_of w) v) v) w s k (λ j. s)

  line_same : (vs : List Val) (w : State) → Same base w → (k : ℕ) → AllSame base (line_ended vs w k)
  line_same [] w s k = step_same base (written (codes "\n") none) w s k (λ j. s)
  line_same (v ∷ vs) w s k = s

  answered_same : (x : Result Val prims.Condition) (w : State) → Same base w → (k : ℕ) → AllSame base (answered x w k)
  answered_same (Ok v) w s k = s
  answered_same (Err c) w s k = s

  comes_same : (x : Answer) (w : State) → Same base w → (k : ℕ) → AllSame base (comes_to x w k)
  comes_same (Ok v) w s k = s
  comes_same (Err c) w s k = s

  variable_same : (name : Name) (o : Option Val) (w : State) → Same base w → (k : ℕ) → AllSame base (variable_value name o w k)
  variable_same name None w s k = s
  variable_same name (Some v) w s k = s

  stored_same : (name : Name) (v : Val) (w : State) → Same base w → (k : ℕ) → AllSame base (stored name v w k)
  stored_same name v w s k =
      choice_same base (is_some (local_named w.locals name)) (Gave v (bound_as (with_local name v w.locals) w) k) (stored_globally name v w k) s
      (choice_same base (is_global w.globals name) (step_then (global_set name v) w k) (stopped UnboundVariable (name_value name ∷ []) w k)
      (step_same base (global_set name v) w s k (λ j. s)) s)

  stored_only_same : (name : Name) (o : Option Val) (w : State) → Same base w → (k : ℕ) → AllSame base (stored_only name o w k)
  stored_only_same name None w s k = s
  stored_only_same name (Some v) w s k = stored_same name v w s k

  changed_same : (p : of_values.Primitive) (name : Name) (o : Option Val) (w : State) → Same base w → (k : ℕ) → AllSame base (changed_only p name o w k)
  changed_same p name None w s k = s
  changed_same p name (Some amount) w s k =
      then_same base (made_of p name amount w k) (λ v. stored name v)
      (then_same base (variable_value name (found_value w name) w k) (λ old. answered (answer p (old ∷ amount ∷ []))) (variable_same name (found_value w name) w s k)
      (λ old u j e. answered_same (answer p (old ∷ amount ∷ [])) u e j)) (λ v u j e. stored_same name v u e j)

  other_same : (b : Bool) (name : Val) (w : State) → Same base w → (k : ℕ) → AllSame base (other_function b name w k)
  other_same true name w s k = s
  other_same false name w s k = s

  symbol_same : (name : Name) (o : Option ℕ) (w : State) → Same base w → (k : ℕ) → AllSame base (symbol_function name o w k)
  symbol_same name None w s k = other_same (is_plain_function w name) (name_value name) w s k
  symbol_same name (Some g) w s k = s

  setter_value_same : (name : Name) (o : Option ℕ) (w : State) → Same base w → (k : ℕ) → AllSame base (setter_function name o w k)
  setter_value_same name None w s k = other_same (is_some (function_in w.setters name)) (setter_value name) w s k
  setter_value_same name (Some g) w s k = s

  value_same : (c : Called) (w : State) → Same base w → (k : ℕ) → AllSame base (function_value c w k)
  value_same (by_symbol name) w s k = symbol_same name (named w.generics (Symbol name)) w s k
  value_same (by_setf name) w s k = setter_value_same name (named w.generics (Setf name)) w s k

  filled_same : (f : Subject) (slot : EffectiveSlot) (v : Val) (w : State) → Same base w → (k : ℕ)
      → AllSame base (step_then (slot_stored f.instance slot.name (Some v) v) w k)
  filled_same f slot v w s k = step_same base (slot_stored f.instance slot.name (Some v) v) w s k (λ j. s)

-- Both give the same where a form is well formed where it stands, in a context that is in order.
abbrev pub Agree : State → Eval → Eval → Type 0
Agree base ev other = (env : Context) (f : Form) → IsProper env → is_well_formed (standing_in env) f ≡ true → (w : State) → Same base w → (k : ℕ)
    → Alike base (ev env f w k) (other env f w k)

module _ (base : State) (well : AreWellFormed base) (ev other : Eval) (h : Agree base ev other) where
  there : (w : State) → Same base w → AreWellFormed w
  there w s = same_well base w s well

  -- ---- forms one after another

  keeping_alike : (env : Context) → IsProper env → (fs : Forms) (v : Val) → AllStand (standing_in env) fs → (w : State) → Same base w → (k : ℕ)
      → Alike base (keeping ev env fs v w k) (keeping other env fs v w k)
  keeping_alike env p nil v a w s k = own s
  keeping_alike env p (cons f fs) v a w s k =
      then_alike (ev env f w k) (other env f w k) (λ u. keeping ev env fs v) (λ u. keeping other env fs v) (h env f p a.0 w s k)
      (λ x u j e. keeping_alike env p fs v a.1 u e j)

  sequence_alike : (env : Context) → IsProper env → (fs : Forms) (v : Val) → AllStand (standing_in env) fs → (w : State) → Same base w → (k : ℕ)
      → Alike base (sequence ev env fs v w k) (sequence other env fs v w k)
  sequence_alike env p nil v a w s k = own s
  sequence_alike env p (cons f fs) v a w s k =
      then_alike (ev env f w k) (other env f w k) (λ u. sequence ev env fs u) (λ u. sequence other env fs u) (h env f p a.0 w s k)
      (λ x u j e. sequence_alike env p fs x a.1 u e j)

  while_alike : (env : Context) → IsProper env → (fs : Forms) (v : Val) → AllStand (standing_in env) fs → (w : State) → Same base w → (k : ℕ)
      → Alike base (while_true ev env fs v w k) (while_true other env fs v w k)
  while_alike env p nil v a w s k = own s
  while_alike env p (cons f fs) v a w s k =
      then_alike (ev env f w k) (other env f w k) (λ u t j. if is_true u then while_true ev env fs u t j else Gave u t j)
      (λ u t j. if is_true u then while_true other env fs u t j else Gave u t j) (h env f p a.0 w s k)
      (λ x u j e. choice_alike (is_true x) (while_true ev env fs x u j) (while_true other env fs x u j) (Gave x u j) (Gave x u j) (while_alike env p fs x a.1 u e j) (own e))

  until_alike : (env : Context) → IsProper env → (fs : Forms) (v : Val) → AllStand (standing_in env) fs → (w : State) → Same base w → (k : ℕ)
      → Alike base (until_true ev env fs v w k) (until_true other env fs v w k)
  until_alike env p nil v a w s k = own s
  until_alike env p (cons f fs) v a w s k =
      then_alike (ev env f w k) (other env f w k) (λ u t j. if is_true u then Gave u t j else until_true ev env fs u t j)
      (λ u t j. if is_true u then Gave u t j else until_true other env fs u t j) (h env f p a.0 w s k)
      (λ x u j e. choice_alike (is_true x) (Gave x u j) (Gave x u j) (until_true ev env fs x u j) (until_true other env fs x u j) (own e) (until_alike env p fs x a.1 u e j))

  branch_alike : (env : Context) → IsProper env → (b : Bool) (fs : Forms) → AllStand (standing_in env) fs → (w : State) → Same base w → (k : ℕ)
      → Alike base (branch ev env b fs w k) (branch other env b fs w k)
  branch_alike env p b nil a w s k = own s
  branch_alike env p b (cons f fs) a w s k =
      choice_alike b (ev env f w k) (other env f w k) (sequence ev env fs none w k) (sequence other env fs none w k) (h env f p a.0 w s k)
      (sequence_alike env p fs none a.1 w s k)

  where_true_alike : (env : Context) → IsProper env → (fs : Forms) (v : Val) → AllStand (standing_in env) fs → (w : State) → Same base w → (k : ℕ)
      → Alike base (where_true ev env fs v w k) (where_true other env fs v w k)
  where_true_alike env p fs v a w s k =
      choice_alike (is_true v) (sequence ev env fs none w k) (sequence other env fs none w k) (Gave none w k) (Gave none w k)
      (sequence_alike env p fs none a w s k) (own s)

  where_false_alike : (env : Context) → IsProper env → (fs : Forms) (v : Val) → AllStand (standing_in env) fs → (w : State) → Same base w → (k : ℕ)
      → Alike base (where_false ev env fs v w k) (where_false other env fs v w k)
  where_false_alike env p fs v a w s k =
      choice_alike (is_true v) (Gave none w k) (Gave none w k) (sequence ev env fs none w k) (sequence other env fs none w k) (own s)
      (sequence_alike env p fs none a w s k)

  and_alike : (env : Context) → IsProper env → (fs : Forms) (v : Val) → AllStand (standing_in env) fs → (w : State) → Same base w → (k : ℕ)
      → Alike base (and_then ev env fs v w k) (and_then other env fs v w k)
  and_alike env p fs v a w s k =
      choice_alike (is_true v) (while_true ev env fs v w k) (while_true other env fs v w k) (Gave v w k) (Gave v w k) (while_alike env p fs v a w s k) (own s)

  or_alike : (env : Context) → IsProper env → (fs : Forms) (v : Val) → AllStand (standing_in env) fs → (w : State) → Same base w → (k : ℕ)
      → Alike base (or_then ev env fs v w k) (or_then other env fs v w k)
  or_alike env p fs v a w s k =
      choice_alike (is_true v) (Gave v w k) (Gave v w k) (until_true ev env fs v w k) (until_true other env fs v w k) (own s) (until_alike env p fs v a w s k)

  first_alike : (env : Context) → IsProper env → (fs : Forms) (go go' : Forms → Val → Run)
      → ((gs : Forms) (v : Val) → AllStand (standing_in env) gs → (u : State) → Same base u → (j : ℕ) → Alike base (go gs v u j) (go' gs v u j))
      → (v : Val) → AllStand (standing_in env) fs → (w : State) → Same base w → (k : ℕ) → Alike base (first_then ev env fs go v w k)
      (first_then other env fs go' v w k)
  first_alike env p nil go go' g v a w s k = own s
  first_alike env p (cons f fs) go go' g v a w s k =
      then_alike (ev env f w k) (other env f w k) (λ u. go fs u) (λ u. go' fs u) (h env f p a.0 w s k) (λ x u j e. g fs x a.1 u e j)

  -- ---- the clauses of a cond form

  clause_alike : (env : Context) → IsProper env → (fs : Forms) (rest rest' : Run) → AllStand (standing_in env) fs
      → ((u : State) → Same base u → (j : ℕ) → Alike base (rest u j) (rest' u j)) → (w : State) → Same base w → (k : ℕ) → Alike base (clause ev env fs rest w k)
      (clause other env fs rest' w k)
  clause_alike env p nil rest rest' a g w s k = own s
  clause_alike env p (cons f fs) rest rest' a g w s k =
      then_alike (ev env f w k) (other env f w k) (λ v. tested ev env fs rest v) (λ v. tested other env fs rest' v) (h env f p a.0 w s k)
      (λ v u j e. choice_alike (is_true v) (sequence ev env fs v u j) (sequence other env fs v u j) (rest u j) (rest' u j) (sequence_alike env p fs v a.1 u e j) (g u e j))

  clauses_alike : (env : Context) → IsProper env → (cs : Forms) → AllClauses (standing_in env) cs → (w : State) → Same base w → (k : ℕ)
      → Alike base (clauses ev env cs w k) (clauses other env cs w k)
  clauses_alike env p nil a w s k = own s
  clauses_alike env p (cons c cs) a w s k =
      clause_alike env p (parts_in c) (λ t j. clauses ev env cs t j) (λ t j. clauses other env cs t j) a.0 (λ u e j. clauses_alike env p cs a.1 u e j) w s k

  -- ---- calls

  collect_alike : (env : Context) → IsProper env → (fs : Forms) (vs : List Val) (go go' : List Val → Run) → AllStand (standing_in env) fs
      → ((us : List Val) (u : State) → Same base u → (j : ℕ) → Alike base (go us u j) (go' us u j)) → (w : State) → Same base w → (k : ℕ)
      → Alike base (collect ev env fs vs go w k) (collect other env fs vs go' w k)
  collect_alike env p nil vs go go' a g w s k = g vs w s k
  collect_alike env p (cons f fs) vs go go' a g w s k =
      then_alike (ev env f w k) (other env f w k) (λ v. collect ev env fs (vs ++ v ∷ []) go) (λ v. collect other env fs (vs ++ v ∷ []) go')
      (h env f p a.0 w s k)
      (λ v u j e. collect_alike env p fs (vs ++ v ∷ []) go go' a.1 g u e j)

  combined_alike : (d : Dispatch) (vs : List Val) (f : generics.Function) (c : Combined) → CombinedStands c → (w : State) → Same base w → (k : ℕ)
      → Alike base (combined_run ev (in_call d vs) f c w k) (combined_run other (in_call d vs) f c w k)
  combined_alike d vs f (outcome.effective e) a w s k =
      then_own (ev (in_call d vs) e (bound_as [] w) k) (other (in_call d vs) e (bound_as [] w) k) (restoring w.locals)
      (h (in_call d vs) e tt a (bound_as [] w) s k) (λ v u j e. e)
  combined_alike d vs f (outcome.invalid_method m) a w s k = own s
  combined_alike d vs f (outcome.group_empty name) a w s k = own s
  combined_alike d vs f (outcome.ambiguous_methods m n) a w s k = own s
  combined_alike d vs f outcome.bad_expansion a w s k = own s
  combined_alike d vs f outcome.expansion_limit a w s k = own s

  matched_alike : (vs : List Val) (g : ℕ) (f : generics.Function) (go go' : Run) (ms : List ℕ) → (w : State) → Same base w → (k : ℕ)
      → Alike base (go w k) (go' w k)
      → Alike base (matched_or ev vs g f go ms w k) (matched_or other vs g f go' ms w k)
  matched_alike vs g f go go' [] w s k e = e
  matched_alike vs g f go go' (m ∷ ms) w s k e =
      choice_alike (keywords_fit w.generics g (m ∷ ms) (after_positional f.shape vs))
      (combined_run ev (in_call (record { generic = g; methods = m ∷ ms }) vs) f (comb.effective w.combinations w.generics g (m ∷ ms)) w k)
      (combined_run other (in_call (record { generic = g; methods = m ∷ ms }) vs) f (comb.effective w.combinations w.generics g (m ∷ ms)) w k)
      (stopped ProgramError [] w k) (stopped ProgramError [] w k)
      (combined_alike (record { generic = g; methods = m ∷ ms }) vs f (comb.effective w.combinations w.generics g (m ∷ ms))
      (effective_form_stands w.combinations w.generics g (m ∷ ms)) w s k) (own s)

  unmatched_alike : (vs : List Val) (o : Option generics.Function) → (w : State) → Same base w → (k : ℕ)
      → Alike base (unmatched_by ev vs o w k) (unmatched_by other vs o w k)
  unmatched_alike vs None w s k = own s
  unmatched_alike vs (Some f) w s k =
      noted_alike (used (key_of w (system_number NoApplicableMethod) vs))
      (matched_or ev vs (system_number NoApplicableMethod) f (stopped ProgramError []) (ordered w (system_number NoApplicableMethod) vs) w k)
      (matched_or other vs (system_number NoApplicableMethod) f (stopped ProgramError []) (ordered w (system_number NoApplicableMethod) vs) w k)
      (matched_alike vs (system_number NoApplicableMethod) f (stopped ProgramError []) (stopped ProgramError []) (ordered w (system_number NoApplicableMethod) vs) w s k (own s))

  generic_alike : (vs : List Val) (g : ℕ) (o : Option generics.Function) → (w : State) → Same base w → (k : ℕ)
      → Alike base (called_generic ev vs g o w k) (called_generic other vs g o w k)
  generic_alike vs g None w s k = own s
  generic_alike vs g (Some f) w s k =
      choice_alike (takes_count f.shape (length vs)) (Noted (used (key_of w g vs)) (matched_or ev vs g f (unmatched ev g vs) (ordered w g vs) w k))
      (Noted (used (key_of w g vs)) (matched_or other vs g f (unmatched other g vs) (ordered w g vs) w k))
      (stopped ProgramError [] w k) (stopped ProgramError [] w k)
      (noted_alike (used (key_of w g vs)) (matched_or ev vs g f (unmatched ev g vs) (ordered w g vs) w k) (matched_or other vs g f (unmatched other g vs) (ordered w g vs) w k)
      (matched_alike vs g f (unmatched ev g vs) (unmatched other g vs) (ordered w g vs) w s k
      (unmatched_alike (value.generic g ∷ vs) (slice_get w.generics.functions (system_number NoApplicableMethod)) w s k))) (own s)

  invoked_alike : (f : SystemFunction) (vs : List Val) → (w : State) → Same base w → (k : ℕ) → Alike base (invoked ev f vs w k) (invoked other f vs w k)
  invoked_alike f vs w s k = generic_alike vs (system_number f) (slice_get w.generics.functions (system_number f)) w s k

  binding_alike : (name : Name) (v : Val) (go go' : Run) → ((u : State) → Same base u → (j : ℕ) → Alike base (go u j) (go' u j)) → (w : State) → Same base w
      → (k : ℕ)
      → Alike base (binding name v go w k) (binding name v go' w k)
  binding_alike name v go go' g w s k =
      choice_alike (is_global w.globals name) (stopped Unsupported [] w k) (stopped Unsupported [] w k) (go (inner name v w) k) (go' (inner name v w) k) (own s)
      (g (inner name v w) s k)

  parameters_alike : (env : Context) → IsProper env → (ps : Sources) (fs : Forms) → AllSources (standing_in env) ps → AllStand (standing_in env) fs
      → (w : State) → Same base w → (k : ℕ)
      → Alike base (parameters_run ev env ps fs w k) (parameters_run other env ps fs w k)
  parameters_alike env p [] fs q a w s k = sequence_alike env p fs none a w s k
  parameters_alike env p ((x, argument v) ∷ ps) fs q a w s k =
      binding_alike x v (parameters_run ev env ps fs) (parameters_run other env ps fs) (λ u e j. parameters_alike env p ps fs q.1 a u e j) w s k
  parameters_alike env p ((x, refused c) ∷ ps) fs q a w s k = own s
  parameters_alike env p ((x, init f) ∷ ps) fs q a w s k =
      then_alike (ev env f w k) (other env f w k) (λ v. binding x v (parameters_run ev env ps fs)) (λ v. binding x v (parameters_run other env ps fs))
      (h env f p q.0 w s k)
      (λ v u j e. binding_alike x v (parameters_run ev env ps fs) (parameters_run other env ps fs) (λ t d i. parameters_alike env p ps fs q.1 a t d i) u e j)

  body_alike : (env : Context) → IsProper env → (ps : Sources) (fs : Forms) → AllSources (standing_in env) ps → AllStand (standing_in env) fs → (w : State)
      → Same base w → (k : ℕ)
      → Alike base (body_run ev env ps fs w k) (body_run other env ps fs w k)
  body_alike env p ps fs q a w s k =
      then_own (parameters_run ev env ps fs (bound_as [] w) k) (parameters_run other env ps fs (bound_as [] w) k) (restoring w.locals)
      (parameters_alike env p ps fs q a (bound_as [] w) s k) (λ v u j e. e)

  defined_alike : (vs : List Val) (name : Val) (o : Option Function) → IfSome o OfFunction → (w : State) → Same base w → (k : ℕ)
      → Alike base (called_defined ev vs name o w k) (called_defined other vs name o w k)
  defined_alike vs name None a w s k = own s
  defined_alike vs name (Some f) a w s k =
      choice_alike (fits f.lambda_list vs) (body_run ev (known vs) (sources f.lambda_list vs) f.body w k)
      (body_run other (known vs) (sources f.lambda_list vs) f.body w k) (stopped ProgramError [] w k) (stopped ProgramError [] w k)
      (body_alike (known vs) tt (sources f.lambda_list vs) f.body (sources_stand Plain f.lambda_list vs a.0) (body_stands Plain f.body a.1) w s k) (own s)

  function_alike : (name : Name) (vs : List Val) (o : Option ℕ) → (w : State) → Same base w → (k : ℕ)
      → Alike base (called_function ev name vs o w k) (called_function other name vs o w k)
  function_alike name vs None w s k =
      defined_alike vs (name_value name) (function_in w.functions name) (named_stands name w.functions (there w s).0) w s k
  function_alike name vs (Some g) w s k = generic_alike vs g (slice_get w.generics.functions g) w s k

  -- ---- updates

  restructured_alike : (i : ℕ) (l : Layout) (vs : List Val) (go go' : Run) → ((u : State) → Same base u → (j : ℕ) → Alike base (go u j) (go' u j)) → (w : State)
      → Same base w → (k : ℕ)
      → Alike base (restructured ev i l vs go w k) (restructured other i l vs go' w k)
  restructured_alike i l vs go go' g w s k =
      step_alike (λ u j. then_do (invoked ev UpdateInstanceForRedefinedClass vs (record u { store = with_update i l u.store }) j) (λ v x t. go x t))
      (λ u j. then_do (invoked other UpdateInstanceForRedefinedClass vs (record u { store = with_update i l u.store }) j) (λ v x t. go' x t)) w s k
      (λ j. then_alike (invoked ev UpdateInstanceForRedefinedClass vs (record w { store = with_update i l w.store }) j) (invoked other UpdateInstanceForRedefinedClass vs (record w { store = with_update i l w.store }) j) (λ v x t. go x t) (λ v x t. go' x t)
      (invoked_alike UpdateInstanceForRedefinedClass vs (record w { store = with_update i l w.store }) s j) (λ v x t e. g x e t))

  updated_alike_with : (i : ℕ) (l : Layout) (go go' : Run) → ((u : State) → Same base u → (j : ℕ) → Alike base (go u j) (go' u j))
      → (x : Result (List Val) Condition) → (w : State) → Same base w → (k : ℕ)
      → Alike base (updated_with ev i l go x w k) (updated_with other i l go' x w k)
  updated_alike_with i l go go' g (Err c) w s k = own s
  updated_alike_with i l go go' g (Ok vs) w s k = restructured_alike i l vs go go' g w s k

  updated_alike_if : (i : ℕ) (go go' : Run) → ((u : State) → Same base u → (j : ℕ) → Alike base (go u j) (go' u j)) → (o : Option Layout) → (w : State)
      → Same base w → (k : ℕ)
      → Alike base (updated_if ev i go o w k) (updated_if other i go' o w k)
  updated_alike_if i go go' g None w s k = g w s k
  updated_alike_if i go go' g (Some l) w s k = updated_alike_with i l go go' g (told w i l) w s k

  updated_alike : (i : ℕ) (go go' : Run) → ((u : State) → Same base u → (j : ℕ) → Alike base (go u j) (go' u j)) → (w : State) → Same base w → (k : ℕ)
      → Alike base (updated ev i go w k) (updated other i go' w k)
  updated_alike i go go' g w s k = updated_alike_if i go go' g (due w i) w s k

  -- ---- slots

  missing_alike : (i : ℕ) (name : Name) (operation : List ℕ) (new : List Val) → (w : State) → Same base w → (k : ℕ)
      → Alike base (missing_called ev i name operation new w k) (missing_called other i name operation new w k)
  missing_alike i name operation new w s k =
      invoked_alike SlotMissing (class_value w i ∷ value.instance i ∷ name_value name ∷ operation_name operation ∷ new) w s k

  slot_read_alike : (env : Context) (i : ℕ) (name : Name) (o : Option (Option Val)) → (w : State) → Same base w → (k : ℕ)
      → Alike base (slot_read ev env i name o w k) (slot_read other env i name o w k)
  slot_read_alike env i name None w s k = missing_alike i name (codes "SLOT-VALUE") [] w s k
  slot_read_alike env i name (Some None) w s k = invoked_alike SlotUnbound (class_value w i ∷ value.instance i ∷ name_value name ∷ []) w s k
  slot_read_alike env i name (Some (Some v)) w s k = own s

  slot_tested_alike : (env : Context) (i : ℕ) (name : Name) (o : Option (Option Val)) → (w : State) → Same base w → (k : ℕ)
      → Alike base (slot_tested ev env i name o w k) (slot_tested other env i name o w k)
  slot_tested_alike env i name None w s k =
      then_own (missing_called ev i name (codes "SLOT-BOUNDP") [] w k) (missing_called other i name (codes "SLOT-BOUNDP") [] w k)
      (λ v. gave (truth (is_true v)))
      (missing_alike i name (codes "SLOT-BOUNDP") [] w s k) (λ v u j e. e)
  slot_tested_alike env i name (Some x) w s k = own s

  missing_changed_alike : (i : ℕ) (name : Name) (x : Option Val) → (w : State) → Same base w → (k : ℕ)
      → Alike base (missing_changed ev i name x w k) (missing_changed other i name x w k)
  missing_changed_alike i name None w s k = missing_alike i name (codes "SLOT-MAKUNBOUND") [] w s k
  missing_changed_alike i name (Some v) w s k = missing_alike i name (codes "SETF") (v ∷ []) w s k

  slot_changed_alike : (env : Context) (i : ℕ) (name : Name) (x : Option Val) (v : Val) (o : Option (Option Val)) → (w : State) → Same base w → (k : ℕ)
      → Alike base (slot_changed ev env i name x v o w k) (slot_changed other env i name x v o w k)
  slot_changed_alike env i name x v None w s k =
      then_own (missing_changed ev i name x w k) (missing_changed other i name x w k) (λ y. gave v) (missing_changed_alike i name x w s k) (λ y u j e. e)
  slot_changed_alike env i name x v (Some old) w s k = own (step_same base (slot_stored i name x v) w s k (λ j. s))

  slot_put_alike : (env : Context) (i : ℕ) (name : Name) (x : Option Val) (v : Val) → (w : State) → Same base w → (k : ℕ)
      → Alike base (slot_put ev env i name x v w k) (slot_put other env i name x v w k)
  slot_put_alike env i name x v w s k = slot_changed_alike env i name x v (slot_found w.store i name) w s k

  slot_answer_alike : (env : Context) (f : of_slots.SlotFunction) (i : ℕ) (name : Name) → (w : State) → Same base w → (k : ℕ)
      → Alike base (slot_answer ev env f i name w k) (slot_answer other env f i name w k)
  slot_answer_alike env SlotValue i name w s k = slot_read_alike env i name (slot_found w.store i name) w s k
  slot_answer_alike env SlotBoundp i name w s k = slot_tested_alike env i name (slot_found w.store i name) w s k
  slot_answer_alike env SlotMakunbound i name w s k = slot_put_alike env i name None (value.instance i) w s k
  slot_answer_alike env SlotExistsP i name w s k = own s

  slot_asked_alike : (env : Context) (f : of_slots.SlotFunction) (i : ℕ) (name : Name) → (w : State) → Same base w → (k : ℕ)
      → Alike base (slot_asked ev env f i name w k) (slot_asked other env f i name w k)
  slot_asked_alike env SlotValue i name w s k =
      updated_alike i (slot_answer ev env SlotValue i name) (slot_answer other env SlotValue i name) (slot_answer_alike env SlotValue i name) w s k
  slot_asked_alike env SlotBoundp i name w s k =
      updated_alike i (slot_answer ev env SlotBoundp i name) (slot_answer other env SlotBoundp i name) (slot_answer_alike env SlotBoundp i name) w s k
  slot_asked_alike env SlotMakunbound i name w s k =
      updated_alike i (slot_answer ev env SlotMakunbound i name) (slot_answer other env SlotMakunbound i name)
      (slot_answer_alike env SlotMakunbound i name) w s k
  slot_asked_alike env SlotExistsP i name w s k = own s

  slot_applied_alike : (env : Context) (f : of_slots.SlotFunction) (d : Result (ℕ × Name) Condition) → (w : State) → Same base w → (k : ℕ)
      → Alike base (slot_applied ev env f d w k) (slot_applied other env f d w k)
  slot_applied_alike env f (Err c) w s k = own s
  slot_applied_alike env f (Ok p) w s k = slot_asked_alike env f p.0 p.1 w s k

  slot_called_alike : (env : Context) (f : of_slots.SlotFunction) (vs : List Val) → (w : State) → Same base w → (k : ℕ)
      → Alike base (slot_called ev env f vs w k) (slot_called other env f vs w k)
  slot_called_alike env f [] w s k = own s
  slot_called_alike env f (v ∷ []) w s k = own s
  slot_called_alike env f (v ∷ (x ∷ [])) w s k = slot_applied_alike env f (slot_designated v x) w s k
  slot_called_alike env f (v ∷ (x ∷ (y ∷ vs))) w s k = own s

  slot_given_alike : (env : Context) (x : Val) (d : Result (ℕ × Name) Condition) → (w : State) → Same base w → (k : ℕ)
      → Alike base (slot_given ev env x d w k) (slot_given other env x d w k)
  slot_given_alike env x (Err c) w s k = own s
  slot_given_alike env x (Ok p) w s k =
      updated_alike p.0 (slot_put ev env p.0 p.1 (Some x) x) (slot_put other env p.0 p.1 (Some x) x) (slot_put_alike env p.0 p.1 (Some x) x) w s k

  slot_set_alike : (env : Context) (vs : List Val) → (w : State) → Same base w → (k : ℕ) → Alike base (slot_set ev env vs w k) (slot_set other env vs w k)
  slot_set_alike env [] w s k = own s
  slot_set_alike env (v ∷ []) w s k = own s
  slot_set_alike env (v ∷ (x ∷ [])) w s k = own s
  slot_set_alike env (v ∷ (x ∷ (y ∷ []))) w s k = slot_given_alike env y (slot_designated v x) w s k
  slot_set_alike env (v ∷ (x ∷ (y ∷ (z ∷ vs)))) w s k = own s

  -- ---- accessors

  read_alike_of : (env : Context) (slot : Name) (d : Result ℕ Condition) → (w : State) → Same base w → (k : ℕ)
      → Alike base (read_of ev env slot d w k) (read_of other env slot d w k)
  read_alike_of env slot (Err c) w s k = own s
  read_alike_of env slot (Ok i) w s k =
      updated_alike i (slot_answer ev env SlotValue i slot) (slot_answer other env SlotValue i slot) (slot_answer_alike env SlotValue i slot) w s k

  reader_alike : (env : Context) (slot : Name) (vs : List Val) → (w : State) → Same base w → (k : ℕ)
      → Alike base (read_by ev env slot vs w k) (read_by other env slot vs w k)
  reader_alike env slot [] w s k = own s
  reader_alike env slot (v ∷ []) w s k = read_alike_of env slot (instance_in v) w s k
  reader_alike env slot (v ∷ (x ∷ vs)) w s k = own s

  written_alike_of : (env : Context) (slot : Name) (x : Val) (d : Result ℕ Condition) → (w : State) → Same base w → (k : ℕ)
      → Alike base (written_of ev env slot x d w k) (written_of other env slot x d w k)
  written_alike_of env slot x (Err c) w s k = own s
  written_alike_of env slot x (Ok i) w s k =
      updated_alike i (slot_put ev env i slot (Some x) x) (slot_put other env i slot (Some x) x) (slot_put_alike env i slot (Some x) x) w s k

  writer_alike : (env : Context) (slot : Name) (vs : List Val) → (w : State) → Same base w → (k : ℕ)
      → Alike base (written_by ev env slot vs w k) (written_by other env slot vs w k)
  writer_alike env slot [] w s k = own s
  writer_alike env slot (x ∷ []) w s k = own s
  writer_alike env slot (x ∷ (v ∷ [])) w s k = written_alike_of env slot x (instance_in v) w s k
  writer_alike env slot (x ∷ (v ∷ (y ∷ vs))) w s k = own s

  -- ---- the making of instances

  filled_alike_then : (f : Subject) (slot : EffectiveSlot) (rest rest' : Run) → ((u : State) → Same base u → (j : ℕ) → Alike base (rest u j) (rest' u j))
      → (v : Val) → (w : State) → Same base w → (k : ℕ)
      → Alike base (filled f slot rest v w k) (filled f slot rest' v w k)
  filled_alike_then f slot rest rest' g v w s k =
      then_alike (step_then (slot_stored f.instance slot.name (Some v) v) w k) (step_then (slot_stored f.instance slot.name (Some v) v) w k)
      (λ x u j. rest u j) (λ x u j. rest' u j) (own (filled_same base f slot v w s k)) (λ x u j e. g u e j)

  filled_alike : (f : Subject) (slot : EffectiveSlot) (rest rest' : Run) → ((u : State) → Same base u → (j : ℕ) → Alike base (rest u j) (rest' u j))
      → (x : Filler) → FillerStands x → (w : State) → Same base w → (k : ℕ)
      → Alike base (filled_by ev (known []) f slot rest x w k) (filled_by other (known []) f slot rest' x w k)
  filled_alike f slot rest rest' g nothing a w s k = g w s k
  filled_alike f slot rest rest' g (filler.value v) a w s k = filled_alike_then f slot rest rest' g v w s k
  filled_alike f slot rest rest' r (initform g) a w s k =
      then_alike (ev (known []) g w k) (other (known []) g w k) (λ v. filled_with f slot rest v) (λ v. filled_with f slot rest' v) (h (known []) g tt a w s k)
      (λ v u j e. choice_alike (is_the_class f.class (class_of_instance u f.instance)) (filled f slot rest v u j) (filled f slot rest' v u j)
      (Gave (value.instance f.instance) u j) (Gave (value.instance f.instance) u j) (filled_alike_then f slot rest rest' r v u e j) (own e))

  fill_alike : (f : Subject) (slots : List EffectiveSlot) → Each SlotStands slots → (w : State) → Same base w → (k : ℕ)
      → Alike base (fill ev (known []) f slots w k) (fill other (known []) f slots w k)
  fill_alike f [] a w s k = own s
  fill_alike f (slot ∷ slots) a w s k =
      filled_alike f slot (λ u j. fill ev (known []) f slots u j) (λ u j. fill other (known []) f slots u j) (λ u e j. fill_alike f slots a.1 u e j)
      (filler w f slot)
      (filler_stands (initarg_for slot f.initargs) _ (unbound_stands (is_named f.names slot.name) slot.cell (slot_found w.store f.instance slot.name) slot.initform a.0)) w s k

  initialized_alike : (c : ℕ) (vs : List Val) (i : ℕ) (o : Option Val) → (w : State) → Same base w → (k : ℕ)
      → Alike base (initialized ev c vs i o w k) (initialized other c vs i o w k)
  initialized_alike c vs i (Some x) w s k = own s
  initialized_alike c vs i None w s k =
      then_own (invoked ev InitializeInstance (value.instance i ∷ vs) w k) (invoked other InitializeInstance (value.instance i ∷ vs) w k)
      (λ v. gave (value.instance i))
      (invoked_alike InitializeInstance (value.instance i ∷ vs) w s k) (λ v u j e. e)

  reaching_alike : (f : SystemFunction) (vs : List Val) (i : ℕ) (names : Val) (w : State) (o q : Out) → Alike base o q
      → Alike base (noted (reaching w f vs i names) o) (noted (reaching w f vs i names) q)
  reaching_alike f vs i names w o q a = noted_alike _ _ _ (noted_alike _ o q a)

  checked_alike : (c : ℕ) (e : Whole) (vs : List Val) (i : ℕ) → (w : State) → Same base w → (k : ℕ)
      → Alike base (checked ev c e vs i w k) (checked other c e vs i w k)
  checked_alike c e vs i w s k =
      let x : Option Val = invalid_initarg w.generics.methods (methods_reached w InitializeInstance (value.instance i ∷ []) i (truth true)) e.slots vs in
      reaching_alike InitializeInstance (value.instance i ∷ []) i (truth true) w (initialized ev c vs i x w k) (initialized other c vs i x w k)
      (initialized_alike c vs i x w s k)

  allocate_alike : (c : ℕ) (e : Whole) (vs : List Val) → (w : State) → Same base w → (k : ℕ)
      → Alike base (allocate ev (known []) c e vs w k) (allocate other (known []) c e vs w k)
  allocate_alike c e vs w s k =
      choice_alike (has_room w.store) (step_then (made ev (known []) c e vs) w k) (step_then (made other (known []) c e vs) w k) (stopped TableLimit [] w k)
      (stopped TableLimit [] w k)
      (step_alike (made ev (known []) c e vs) (made other (known []) c e vs) w s k
      (λ j. checked_alike c e vs (length w.store.instances + 1) (record w { store = with_instance (allocated c e.layout) w.store }) s j)) (own s)

  defaulted_alike : (c : ℕ) (e : Whole) (ds : List DefaultInitarg) (vs : List Val) → Each OfDefault ds → (w : State) → Same base w → (k : ℕ)
      → Alike base (defaulted ev (known []) c e ds vs w k) (defaulted other (known []) c e ds vs w k)
  defaulted_alike c e [] vs a w s k = allocate_alike c e vs w s k
  defaulted_alike c e (d ∷ ds) vs a w s k =
      choice_alike (is_given vs d) (defaulted ev (known []) c e ds vs w k) (defaulted other (known []) c e ds vs w k)
      (then_do (ev (known []) d.form w k) (λ v. defaulted ev (known []) c e ds (vs ++ name_value d.name ∷ v ∷ [])))
      (then_do (other (known []) d.form w k) (λ v. defaulted other (known []) c e ds (vs ++ name_value d.name ∷ v ∷ [])))
      (defaulted_alike c e ds vs a.1 w s k)
      (then_alike (ev (known []) d.form w k) (other (known []) d.form w k) (λ v. defaulted ev (known []) c e ds (vs ++ name_value d.name ∷ v ∷ [])) (λ v. defaulted other (known []) c e ds (vs ++ name_value d.name ∷ v ∷ [])) (h (known []) d.form tt a.0 w s k)
      (λ v u j q. defaulted_alike c e ds (vs ++ name_value d.name ∷ v ∷ []) a.1 u q j))

  making_of_alike : (vs : List Val) (c : ℕ) (o : Option Whole) → IfSome o WholeStands → (w : State) → Same base w → (k : ℕ)
      → Alike base (making_of ev vs c o w k) (making_of other vs c o w k)
  making_of_alike vs c None a w s k = own s
  making_of_alike vs c (Some e) a w s k =
      then_own (defaulted ev (known []) c e e.defaults vs (bound_as [] w) k) (defaulted other (known []) c e e.defaults vs (bound_as [] w) k)
      (restoring w.locals)
      (defaulted_alike c e e.defaults vs a.1 (bound_as [] w) s k) (λ v u j q. q)

  making_alike : (vs : List Val) (d : Result ℕ Condition) → (w : State) → Same base w → (k : ℕ) → Alike base (making ev vs d w k) (making other vs d w k)
  making_alike vs (Err c) w s k = own s
  making_alike vs (Ok c) w s k = making_of_alike vs c (effective w.classes c) (class_stands w.classes c (there w s).3) w s k

  instance_alike : (vs : List Val) → (w : State) → Same base w → (k : ℕ) → Alike base (instance_made ev vs w k) (instance_made other vs w k)
  instance_alike [] w s k = own s
  instance_alike (v ∷ vs) w s k =
      choice_alike (are_pairs vs) (making ev vs (designated w.classes v) w k) (making other vs (designated w.classes v) w k) (stopped ProgramError [] w k)
      (stopped ProgramError [] w k)
      (making_alike vs (designated w.classes v) w s k) (own s)

  -- ---- change-class

  different_called_alike : (copy i : ℕ) (vs : List Val) → (w : State) → Same base w → (k : ℕ)
      → Alike base (different_called ev copy i vs w k) (different_called other copy i vs w k)
  different_called_alike copy i vs w s k =
      then_own (invoked ev UpdateInstanceForDifferentClass (value.instance copy ∷ value.instance i ∷ vs) w k)
      (invoked other UpdateInstanceForDifferentClass (value.instance copy ∷ value.instance i ∷ vs) w k) (λ v. gave (value.instance i))
      (invoked_alike UpdateInstanceForDifferentClass (value.instance copy ∷ value.instance i ∷ vs) w s k) (λ v u j e. e)

  class_changed_alike : (i c : ℕ) (l : Layout) (vs : List Val) → (w : State) → Same base w → (k : ℕ)
      → Alike base (class_changed ev i c l vs w k) (class_changed other i c l vs w k)
  class_changed_alike i c l vs w s k =
      step_alike (λ u j. different_called ev (length u.store.instances + 1) i vs (record u { store = with_change i c l u.store }) j)
      (λ u j. different_called other (length u.store.instances + 1) i vs (record u { store = with_change i c l u.store }) j) w s k
      (λ j. different_called_alike (length w.store.instances + 1) i vs (record w { store = with_change i c l w.store }) s j)

  changed_by_layout_alike : (i c : ℕ) (vs : List Val) (o : Option Layout) → (w : State) → Same base w → (k : ℕ)
      → Alike base (changed_by_layout ev i c vs o w k) (changed_by_layout other i c vs o w k)
  changed_by_layout_alike i c vs None w s k = own s
  changed_by_layout_alike i c vs (Some l) w s k = class_changed_alike i c l vs w s k

  changed_to_alike : (i c : ℕ) (vs : List Val) → (w : State) → Same base w → (k : ℕ) → Alike base (changed_to ev i c vs w k) (changed_to other i c vs w k)
  changed_to_alike i c vs w s k =
      choice_alike (has_room w.store) (changed_by_layout ev i c vs (if_there (class_of_instance w i) (layout w.classes c)) w k)
      (changed_by_layout other i c vs (if_there (class_of_instance w i) (layout w.classes c)) w k)
      (stopped TableLimit [] w k) (stopped TableLimit [] w k)
      (changed_by_layout_alike i c vs (if_there (class_of_instance w i) (layout w.classes c)) w s k) (own s)

  changed_if_alike : (i : ℕ) (vs : List Val) (d : Result ℕ Condition) → (w : State) → Same base w → (k : ℕ)
      → Alike base (changed_if ev i vs d w k) (changed_if other i vs d w k)
  changed_if_alike i vs (Err e) w s k = own s
  changed_if_alike i vs (Ok c) w s k = updated_alike i (changed_to ev i c vs) (changed_to other i c vs) (changed_to_alike i c vs) w s k

  changed_of_alike : (designator : Val) (vs : List Val) (d : Result ℕ Condition) → (w : State) → Same base w → (k : ℕ)
      → Alike base (changed_of ev designator vs d w k) (changed_of other designator vs d w k)
  changed_of_alike designator vs (Err e) w s k = own s
  changed_of_alike designator vs (Ok i) w s k = changed_if_alike i vs (designated w.classes designator) w s k

  change_called_alike : (vs : List Val) → (w : State) → Same base w → (k : ℕ) → Alike base (change_called ev vs w k) (change_called other vs w k)
  change_called_alike [] w s k = own s
  change_called_alike (v ∷ []) w s k = own s
  change_called_alike (v ∷ (designator ∷ vs)) w s k = changed_of_alike designator vs (instance_in v) w s k

  applied_alike : (env : Context) (c : Callee) (name : Name) (vs : List Val) → (w : State) → Same base w → (k : ℕ)
      → Alike base (applied ev env c name vs w k) (applied other env c name vs w k)
  applied_alike env (Output o) name vs w s k = own (output_same base o (only_value vs) w s k)
  applied_alike env Terpri name vs w s k = own (line_same base vs w s k)
  applied_alike env (Primitive p) name vs w s k = own (answered_same base (answer p vs) w s k)
  applied_alike env MakeInstance name vs w s k = instance_alike vs w s k
  applied_alike env ChangeClass name vs w s k = change_called_alike vs w s k
  applied_alike env FindMethod name vs w s k = own (comes_same base (method_answer w.classes w.generics vs) w s k)
  applied_alike env NativeCall name vs w s k = own (native_same base vs w s k)
  applied_alike env (SlotFunction f) name vs w s k = slot_called_alike env f vs w s k
  applied_alike env (ClassFunction f) name vs w s k = own (comes_same base (class_answer f w.classes (class_of w) vs) w s k)
  applied_alike env Defined name vs w s k = function_alike name vs (named w.generics (Symbol name)) w s k

  -- ---- variables

  init_alike : (env : Context) → IsProper env → (fs : Forms) (go go' : Forms → Val → Run)
      → ((gs : Forms) (v : Val) → AllStand (standing_in env) gs → (u : State) → Same base u → (j : ℕ) → Alike base (go gs v u j) (go' gs v u j))
      → AllStand (standing_in env) fs → (w : State) → Same base w → (k : ℕ) → Alike base (init_form ev env fs go w k) (init_form other env fs go' w k)
  init_alike env p nil go go' g a w s k = own s
  init_alike env p (cons f fs) go go' g a w s k =
      then_alike (ev env f w k) (other env f w k) (λ v. go fs v) (λ v. go' fs v) (h env f p a.0 w s k) (λ v u j e. g fs v a.1 u e j)

  within_alike : (env : Context) → IsProper env → (m : ℕ) (fs : Forms) (v : Val) → AllStand (standing_in env) fs → (w : State) → Same base w → (k : ℕ)
      → Alike base (within ev env m fs v w k) (within other env m fs v w k)
  within_alike env p m fs v a w s k =
      then_own (sequence ev env fs v w k) (sequence other env fs v w k) (leaving m) (sequence_alike env p fs v a w s k) (λ x u j e. e)

  order_alike : (env : Context) → IsProper env → (m : ℕ) (bs : List Bound) (fs : Forms) → AllStand (standing_in env) fs → (w : State) → Same base w → (k : ℕ)
      → Alike base (in_order ev env m bs fs w k) (in_order other env m bs fs w k)
  order_alike env p m [] fs a w s k = within_alike env p m fs none a w s k
  order_alike env p m (b ∷ bs) fs a w s k =
      choice_alike b.has_init (init_form ev env fs (λ rest v. binding b.name v (in_order ev env m bs rest)) w k)
      (init_form other env fs (λ rest v. binding b.name v (in_order other env m bs rest)) w k) (binding b.name none (in_order ev env m bs fs) w k)
      (binding b.name none (in_order other env m bs fs) w k)
      (init_alike env p fs (λ rest v. binding b.name v (in_order ev env m bs rest)) (λ rest v. binding b.name v (in_order other env m bs rest))
      (λ gs v q u e j. binding_alike b.name v (in_order ev env m bs gs) (in_order other env m bs gs) (λ t d i. order_alike env p m bs gs q t d i) u e j) a w s k)
      (binding_alike b.name none (in_order ev env m bs fs) (in_order other env m bs fs) (λ t d i. order_alike env p m bs fs a t d i) w s k)

  together_alike : (env : Context) → IsProper env → (m : ℕ) (ls : List Local) (fs : Forms) → AllStand (standing_in env) fs → (w : State) → Same base w → (k : ℕ)
      → Alike base (together ev env m ls fs w k) (together other env m ls fs w k)
  together_alike env p m ls fs a w s k =
      choice_alike (any_global w.globals (map name_in ls)) (stopped Unsupported [] w k) (stopped Unsupported [] w k)
      (within ev env m fs none (bound_as (ls ++ w.locals) w) k) (within other env m fs none (bound_as (ls ++ w.locals) w) k)
      (own s) (within_alike env p m fs none a (bound_as (ls ++ w.locals) w) s k)

  aside_alike : (env : Context) → IsProper env → (m : ℕ) (bs : List Bound) (fs : Forms) (ls : List Local) → AllStand (standing_in env) fs → (w : State)
      → Same base w → (k : ℕ) → Alike base (aside ev env m bs fs ls w k) (aside other env m bs fs ls w k)
  aside_alike env p m [] fs ls a w s k = together_alike env p m ls fs a w s k
  aside_alike env p m (b ∷ bs) fs ls a w s k =
      choice_alike b.has_init (init_form ev env fs (λ rest v. aside ev env m bs rest ((b.name, held v) ∷ ls)) w k)
      (init_form other env fs (λ rest v. aside other env m bs rest ((b.name, held v) ∷ ls)) w k) (aside ev env m bs fs ((b.name, held none) ∷ ls) w k)
      (aside other env m bs fs ((b.name, held none) ∷ ls) w k)
      (init_alike env p fs (λ rest v. aside ev env m bs rest ((b.name, held v) ∷ ls)) (λ rest v. aside other env m bs rest ((b.name, held v) ∷ ls)) (λ gs v q u e j. aside_alike env p m bs gs ((b.name, held v) ∷ ls) q u e j) a w s k)
      (aside_alike env p m bs fs ((b.name, held none) ∷ ls) a w s k)

  result_alike : (env : Context) → IsProper env → (b : Bool) (fs : Forms) → AllStand (standing_in env) fs → (w : State) → Same base w → (k : ℕ)
      → Alike base (result_value ev env b fs w k) (result_value other env b fs w k)
  result_alike env p false fs a w s k = own s
  result_alike env p true nil a w s k = own s
  result_alike env p true (cons f fs) a w s k = h env f p a.0 w s k

  of_turns : (c : Standing) (b : Bool) (fs : Forms) → AllStand c fs → AllStand c (body_of b fs)
  of_turns c false fs a = a
  of_turns c true nil a = tt
  of_turns c true (cons f fs) a = a.1

  turns_alike : (env : Context) → IsProper env → (l : Loop) → AllStand (standing_in env) l.forms → (left done : ℕ) → (w : State) → Same base w → (k : ℕ)
      → Alike base (turns ev env l left done w k) (turns other env l left done w k)
  turns_alike env p l a zero done w s k =
      then_own (result_value ev env l.has_result l.forms (counted l (pos done) w) k) (result_value other env l.has_result l.forms (counted l (pos done) w) k)
      (leaving l.outer)
      (result_alike env p l.has_result l.forms a (counted l (pos done) w) s k) (λ v u j e. e)
  turns_alike env p l a (suc left) done w s k =
      step_alike (λ u j. then_do (sequence ev env (body_of l.has_result l.forms) none (counted l (pos done) u) j) (λ v. turns ev env l left (suc done)))
      (λ u j. then_do (sequence other env (body_of l.has_result l.forms) none (counted l (pos done) u) j) (λ v. turns other env l left (suc done))) w s k
      (λ j. then_alike (sequence ev env (body_of l.has_result l.forms) none (counted l (pos done) w) j) (sequence other env (body_of l.has_result l.forms) none (counted l (pos done) w) j) (λ v. turns ev env l left (suc done)) (λ v. turns other env l left (suc done))
      (sequence_alike env p (body_of l.has_result l.forms) none (of_turns (standing_in env) l.has_result l.forms a) (counted l (pos done) w) s j)
      (λ v u i e. turns_alike env p l a left (suc done) u e i))

  repeated_alike : (env : Context) → IsProper env → (l : Loop) → AllStand (standing_in env) l.forms → (v : Val) → (w : State) → Same base w → (k : ℕ)
      → Alike base (repeated ev env l v w k) (repeated other env l v w k)
  repeated_alike env p l a (value.integer x) w s k =
      choice_alike (is_global w.globals l.name) (stopped Unsupported [] w k) (stopped Unsupported [] w k) (turns ev env l (turns_in x) 0 w k)
      (turns other env l (turns_in x) 0 w k) (own s)
      (turns_alike env p l a (turns_in x) 0 w s k)
  repeated_alike env p l a (value.symbol x) w s k = own s
  repeated_alike env p l a (value.string x) w s k = own s
  repeated_alike env p l a (value.list x) w s k = own s
  repeated_alike env p l a (value.class x) w s k = own s
  repeated_alike env p l a (value.generic x) w s k = own s
  repeated_alike env p l a (value.method x) w s k = own s
  repeated_alike env p l a (value.instance x) w s k = own s

  -- ---- places

  setter_alike_by : (name : Name) (vs : List Val) (o : Option ℕ) → (w : State) → Same base w → (k : ℕ)
      → Alike base (called_setter_by ev name vs o w k) (called_setter_by other name vs o w k)
  setter_alike_by name vs None w s k =
      defined_alike vs (setter_value name) (function_in w.setters name) (named_stands name w.setters (there w s).1) w s k
  setter_alike_by name vs (Some g) w s k = generic_alike vs g (slice_get w.generics.functions g) w s k

  read_alike : (env : Context) (t : Access) (vs : List Val) → (w : State) → Same base w → (k : ℕ)
      → Alike base (place_read ev env t vs w k) (place_read other env t vs w k)
  read_alike env (call_access name) vs w s k = applied_alike env (callee_of name) name vs w s k
  read_alike env slot_access vs w s k = slot_called_alike env SlotValue vs w s k

  set_alike : (env : Context) (t : Access) (vs : List Val) → (w : State) → Same base w → (k : ℕ)
      → Alike base (place_set ev env t vs w k) (place_set other env t vs w k)
  set_alike env (call_access name) vs w s k = setter_alike_by name (last_first vs) (named w.generics (Setf name)) w s k
  set_alike env slot_access vs w s k = slot_set_alike env vs w s k

  changed_from_alike : (env : Context) (p : of_values.Primitive) (t : Access) (vs : List Val) (amount old : Val) → (w : State) → Same base w → (k : ℕ)
      → Alike base (changed_from ev env p t vs amount old w k) (changed_from other env p t vs amount old w k)
  changed_from_alike env p t vs amount old w s k =
      then_alike (answered (answer p (old ∷ amount ∷ [])) w k) (answered (answer p (old ∷ amount ∷ [])) w k) (λ v. set_place ev env t vs v)
      (λ v. set_place other env t vs v)
      (own (answered_same base (answer p (old ∷ amount ∷ [])) w s k))
      (λ v u j e. then_own (place_set ev env t (vs ++ v ∷ []) u j) (place_set other env t (vs ++ v ∷ []) u j) (λ x. gave v) (set_alike env t (vs ++ v ∷ []) u e j) (λ x y i d. d))

  changed_place_alike : (env : Context) (p : of_values.Primitive) (t : Access) (vs : List Val) → (w : State) → Same base w → (k : ℕ)
      → Alike base (changed_place ev env p t vs w k) (changed_place other env p t vs w k)
  changed_place_alike env p t [] w s k = own s
  changed_place_alike env p t (amount ∷ vs) w s k =
      then_alike (place_read ev env t vs w k) (place_read other env t vs w k) (λ old. changed_from ev env p t vs amount old)
      (λ old. changed_from other env p t vs amount old) (read_alike env t vs w s k)
      (λ old u j e. changed_from_alike env p t vs amount old u e j)

  amount_alike : (env : Context) → IsProper env → (fs : Forms) (vs : List Val) (go go' : List Val → Run) → AllStand (standing_in env) fs
      → ((us : List Val) (u : State) → Same base u → (j : ℕ) → Alike base (go us u j) (go' us u j)) → (w : State) → Same base w → (k : ℕ)
      → Alike base (with_amount ev env fs vs go w k) (with_amount other env fs vs go' w k)
  amount_alike env p nil vs go go' a g w s k = g _ w s k
  amount_alike env p (cons f fs) vs go go' a g w s k = collect_alike env p (cons f fs) vs go go' a g w s k

  -- ---- names

  name_read_alike : (env : Context) (name : Name) (o : Option (List Val)) → (w : State) → Same base w → (k : ℕ)
      → Alike base (name_read ev env name o w k) (name_read other env name o w k)
  name_read_alike env name None w s k = own (variable_same base name (found_value w name) w s k)
  name_read_alike env name (Some place) w s k = read_alike env slot_access place w s k

  name_set_alike : (env : Context) (name : Name) (o : Option (List Val)) (vs : List Val) → (w : State) → Same base w → (k : ℕ)
      → Alike base (name_set ev env name o vs w k) (name_set other env name o vs w k)
  name_set_alike env name None vs w s k = own (stored_only_same base name (only_value vs) w s k)
  name_set_alike env name (Some place) vs w s k = set_alike env slot_access (place ++ vs) w s k

  name_changed_alike : (env : Context) (p : of_values.Primitive) (name : Name) (o : Option (List Val)) (vs : List Val) → (w : State) → Same base w → (k : ℕ)
      → Alike base (name_changed ev env p name o vs w k) (name_changed other env p name o vs w k)
  name_changed_alike env p name None vs w s k = own (changed_same base p name (only_value vs) w s k)
  name_changed_alike env p name (Some place) vs w s k = changed_place_alike env p slot_access (last_first (place ++ vs)) w s k

  -- ---- the system's methods

  shared_alike : (i : ℕ) (names : Val) (vs : List Val) → (w : State) → Same base w → (k : ℕ)
      → Alike base (shared_initialized ev i names vs w k) (shared_initialized other i names vs w k)
  shared_alike i names vs w s k =
      then_own (invoked ev SharedInitialize (value.instance i ∷ names ∷ vs) w k) (invoked other SharedInitialize (value.instance i ∷ names ∷ vs) w k)
      (λ v. gave (value.instance i))
      (invoked_alike SharedInitialize (value.instance i ∷ names ∷ vs) w s k) (λ v u j e. e)

  initialize_alike : (vs : List Val) (d : Result ℕ Condition) → (w : State) → Same base w → (k : ℕ)
      → Alike base (initialize ev vs d w k) (initialize other vs d w k)
  initialize_alike vs (Err c) w s k = own s
  initialize_alike vs (Ok i) w s k = shared_alike i (truth true) vs w s k

  valid_alike : (c : ℕ) (o : Option Val) (go go' : Run) → (w : State) → Same base w → (k : ℕ) → Alike base (go w k) (go' w k)
      → Alike base (if_valid c o go w k) (if_valid c o go' w k)
  valid_alike c None go go' w s k a = a
  valid_alike c (Some x) go go' w s k a = own s

  shared_if_valid_alike : (f : SystemFunction) (vs : List Val) (names : Val) (initargs : List Val) (i : ℕ) (o : Option (ℕ × Whole)) → (w : State) → Same base w
      → (k : ℕ)
      → Alike base (shared_if_valid ev f vs names initargs i o w k) (shared_if_valid other f vs names initargs i o w k)
  shared_if_valid_alike f vs names initargs i None w s k = own s
  shared_if_valid_alike f vs names initargs i (Some p) w s k =
      let x : Option Val = invalid_initarg w.generics.methods (methods_reached w f vs i names) p.1.slots initargs in
      reaching_alike f vs i names w (if_valid p.0 x (shared_initialized ev i names initargs) w k)
      (if_valid p.0 x (shared_initialized other i names initargs) w k)
      (valid_alike p.0 x (shared_initialized ev i names initargs) (shared_initialized other i names initargs) w s k (shared_alike i names initargs w s k))

  checked_shared_alike : (f : SystemFunction) (vs : List Val) (names : Val) (initargs : List Val) (i : ℕ) → (w : State) → Same base w → (k : ℕ)
      → Alike base (checked_shared ev f vs names initargs i w k) (checked_shared other f vs names initargs i w k)
  checked_shared_alike f vs names initargs i w s k = shared_if_valid_alike f vs names initargs i (class_in w i) w s k

  reinitialize_instance_alike : (vs : List Val) (i : ℕ) → (w : State) → Same base w → (k : ℕ)
      → Alike base (reinitialize_instance ev vs i w k) (reinitialize_instance other vs i w k)
  reinitialize_instance_alike vs i w s k = checked_shared_alike ReinitializeInstance (value.instance i ∷ []) none vs i w s k

  reinitialize_alike : (vs : List Val) (d : Result ℕ Condition) → (w : State) → Same base w → (k : ℕ)
      → Alike base (reinitialize ev vs d w k) (reinitialize other vs d w k)
  reinitialize_alike vs (Err c) w s k = own s
  reinitialize_alike vs (Ok i) w s k =
      updated_alike i (reinitialize_instance ev vs i) (reinitialize_instance other vs i) (reinitialize_instance_alike vs i) w s k

  redefined_alike : (vs : List Val) (names : Val) (initargs : List Val) (d : Result ℕ Condition) → (w : State) → Same base w → (k : ℕ)
      → Alike base (redefined ev vs names initargs d w k) (redefined other vs names initargs d w k)
  redefined_alike vs names initargs (Err c) w s k = own s
  redefined_alike vs names initargs (Ok i) w s k = checked_shared_alike UpdateInstanceForRedefinedClass vs names initargs i w s k

  different_with_alike : (vs initargs : List Val) (i : ℕ) (l : Answer) → (w : State) → Same base w → (k : ℕ)
      → Alike base (different_with ev vs initargs i l w k) (different_with other vs initargs i l w k)
  different_with_alike vs initargs i (Err c) w s k = own s
  different_with_alike vs initargs i (Ok names) w s k = checked_shared_alike UpdateInstanceForDifferentClass vs names initargs i w s k

  different_from_alike : (vs initargs : List Val) (copy : ℕ) (d : Result ℕ Condition) → (w : State) → Same base w → (k : ℕ)
      → Alike base (different_from ev vs initargs copy d w k) (different_from other vs initargs copy d w k)
  different_from_alike vs initargs copy (Err c) w s k = own s
  different_from_alike vs initargs copy (Ok i) w s k = different_with_alike vs initargs i (names_listed (new_slots w copy i)) w s k

  different_alike : (previous current : Val) (initargs : List Val) (d : Result ℕ Condition) → (w : State) → Same base w → (k : ℕ)
      → Alike base (different ev previous current initargs d w k) (different other previous current initargs d w k)
  different_alike previous current initargs (Err c) w s k = own s
  different_alike previous current initargs (Ok copy) w s k =
      different_from_alike (previous ∷ current ∷ initargs) initargs copy (instance_in current) w s k

  filled_as_alike : (i : ℕ) (names : Val) (vs : List Val) (o : Option (ℕ × Whole)) → IfSome o (λ p. WholeStands p.1) → (w : State) → Same base w → (k : ℕ)
      → Alike base (filled_as ev i names vs o w k) (filled_as other i names vs o w k)
  filled_as_alike i names vs None a w s k = own s
  filled_as_alike i names vs (Some p) a w s k =
      let f : Subject = record { instance = i; class = p.0; names = names; initargs = vs } in
      then_own (fill ev (known []) f p.1.slots (bound_as [] w) k) (fill other (known []) f p.1.slots (bound_as [] w) k) (restoring w.locals)
      (fill_alike f p.1.slots a.0 (bound_as [] w) s k) (λ v u j e. e)

  slots_filled_alike : (i : ℕ) (names : Val) (vs : List Val) → (w : State) → Same base w → (k : ℕ)
      → Alike base (slots_filled ev i names vs w k) (slots_filled other i names vs w k)
  slots_filled_alike i names vs w s k = filled_as_alike i names vs (class_in w i) (class_in_stands w i (there w s).3) w s k

  slots_alike : (names : Val) (vs : List Val) (d : Result ℕ Condition) → (w : State) → Same base w → (k : ℕ)
      → Alike base (initialize_slots ev names vs d w k) (initialize_slots other names vs d w k)
  slots_alike names vs (Err c) w s k = own s
  slots_alike names vs (Ok i) w s k =
      choice_alike (are_slot_names names) (updated ev i (slots_filled ev i names vs) w k) (updated other i (slots_filled other i names vs) w k)
      (Stopped (wrong_type names) w k) (Stopped (wrong_type names) w k)
      (updated_alike i (slots_filled ev i names vs) (slots_filled other i names vs) (slots_filled_alike i names vs) w s k) (own s)

  system_alike : (f : SystemFunction) (vs : List Val) → (w : State) → Same base w → (k : ℕ)
      → Alike base (system_method_run ev f vs w k) (system_method_run other f vs w k)
  system_alike InitializeInstance [] w s k = own s
  system_alike InitializeInstance (v ∷ vs) w s k = initialize_alike vs (instance_in v) w s k
  system_alike ReinitializeInstance [] w s k = own s
  system_alike ReinitializeInstance (v ∷ vs) w s k = reinitialize_alike vs (instance_in v) w s k
  system_alike SharedInitialize [] w s k = own s
  system_alike SharedInitialize (v ∷ []) w s k = own s
  system_alike SharedInitialize (v ∷ (names ∷ vs)) w s k =
      choice_alike (are_even vs) (initialize_slots ev names vs (instance_in v) w k) (initialize_slots other names vs (instance_in v) w k)
      (stopped ProgramError [] w k) (stopped ProgramError [] w k)
      (slots_alike names vs (instance_in v) w s k) (own s)
  system_alike UpdateInstanceForRedefinedClass [] w s k = own s
  system_alike UpdateInstanceForRedefinedClass (v ∷ []) w s k = own s
  system_alike UpdateInstanceForRedefinedClass (v ∷ (added ∷ [])) w s k = own s
  system_alike UpdateInstanceForRedefinedClass (v ∷ (added ∷ (discarded ∷ []))) w s k = own s
  system_alike UpdateInstanceForRedefinedClass (v ∷ (added ∷ (discarded ∷ (properties ∷ vs)))) w s k =
      redefined_alike (v ∷ added ∷ discarded ∷ properties ∷ vs) added vs (instance_in v) w s k
  system_alike UpdateInstanceForDifferentClass [] w s k = own s
  system_alike UpdateInstanceForDifferentClass (v ∷ []) w s k = own s
  system_alike UpdateInstanceForDifferentClass (v ∷ (current ∷ vs)) w s k = different_alike v current vs (instance_in v) w s k
  system_alike SlotUnbound vs w s k = own s
  system_alike SlotMissing vs w s k = own s
  system_alike NoApplicableMethod [] w s k = own s
  system_alike NoApplicableMethod (v ∷ vs) w s k = own s
  system_alike NoNextMethod [] w s k = own s
  system_alike NoNextMethod (v ∷ []) w s k = own s
  system_alike NoNextMethod (v ∷ (m ∷ vs)) w s k = own s

  -- ---- methods

  method_body_alike : (m : ℕ) (next : List Callable) (forms : Forms) (env : Context) → IsProper (running m next forms env) → (b : MethodBody) → OfMethodBody b
      → (w : State) → Same base w → (k : ℕ)
      → Alike base (method_body_run ev (running m next forms env) b w k) (method_body_run other (running m next forms env) b w k)
  method_body_alike m next forms env p (Body l fs) a w s k =
      choice_alike (keys_are_even l env.arguments) (body_run ev (running m next forms env) (sources l env.arguments) fs w k)
      (body_run other (running m next forms env) (sources l env.arguments) fs w k)
      (stopped ProgramError [] w k) (stopped ProgramError [] w k)
      (body_alike (running m next forms env) p (sources l env.arguments) fs (sources_stand InMethod l env.arguments a.0) (body_stands InMethod fs a.1) w s k)
      (own s)
  method_body_alike m next forms env p (Reader slot) a w s k = reader_alike (running m next forms env) slot env.arguments w s k
  method_body_alike m next forms env p (Writer slot) a w s k = writer_alike (running m next forms env) slot env.arguments w s k
  method_body_alike m next forms env p (System f) a w s k = system_alike f env.arguments w s k

  method_alike : (m : ℕ) (next : List Callable) (forms : Forms) (env : Context) → IsProper (running m next forms env) → (o : Option Method)
      → IfSome o (λ q. OfMethodBody q.body) → (w : State) → Same base w → (k : ℕ) → Alike base (method_run ev (running m next forms env) o w k)
      (method_run other (running m next forms env) o w k)
  method_alike m next forms env p None a w s k = own s
  method_alike m next forms env p (Some q) a w s k = method_body_alike m next forms env p q.body a w s k

  made_alike : (env : Context) → in_effective (standing_in env) ≡ true → (fs : Forms) → AllStand InEffective fs → (w : State) → Same base w → (k : ℕ)
      → Alike base (made_run ev env fs w k) (made_run other env fs w k)
  made_alike env q nil a w s k = own s
  made_alike env q (cons f fs) a w s k =
      then_own (ev env f (bound_as [] w) k) (other env f (bound_as [] w) k) (restoring w.locals)
      (h env f (effective_proper env q) (subst (λ c. is_well_formed c f ≡ true) (sym (is_effective (standing_in env) q)) a.0) (bound_as [] w) s k)
      (λ v u j e. e)

  called_method_alike : (env : Context) → in_effective (standing_in env) ≡ true → (m : Callable) (next : List Callable) (fs : Forms) → AllStand InEffective fs
      → (w : State) → Same base w → (k : ℕ)
      → Alike base (method_called ev env m next fs w k) (method_called other env m next fs w k)
  called_method_alike env q (of.the_method m) next fs a w s k =
      method_alike m next fs env (running_proper m next fs env q a) (slice_get w.generics.methods m)
      (each_at (λ b. OfMethodBody b.body) w.generics.methods m (there w s).2) w s k
  called_method_alike env q of.made next fs a w s k = made_alike env q fs a w s k

  -- ---- next methods

  none_next_alike : (o : Option Dispatch) (m : ℕ) (vs : List Val) → (w : State) → Same base w → (k : ℕ)
      → Alike base (none_next ev o m vs w k) (none_next other o m vs w k)
  none_next_alike None m vs w s k = own s
  none_next_alike (Some d) m vs w s k = invoked_alike NoNextMethod (value.generic d.generic ∷ value.method m ∷ vs) w s k

  next_run_alike : (env : Context) (r : Running) → (in_effective (standing_of None env.call) ≡ true) × AllStand InEffective r.forms
      → (ns : List Callable) (vs : List Val) → (w : State) → Same base w → (k : ℕ)
      → Alike base (next_run ev env r ns vs w k) (next_run other env r ns vs w k)
  next_run_alike env r q [] vs w s k = none_next_alike env.call r.method.0 vs w s k
  next_run_alike env r q (n ∷ ns) vs w s k = called_method_alike (with_arguments vs env) q.0 n ns r.forms q.1 w s k

  next_called_alike : (env : Context) (o : Option Running) → HasNext o env.call → (vs : List Val) → (w : State) → Same base w → (k : ℕ)
      → Alike base (next_called ev env o vs w k) (next_called other env o vs w k)
  next_called_alike env None q vs w s k = own s
  next_called_alike env (Some r) q vs w s k = next_run_alike env r q r.next vs w s k

  next_by_alike : (env : Context) (r : Running) → (in_effective (standing_of None env.call) ≡ true) × AllStand InEffective r.forms → (d : Dispatch)
      → (o : Option generics.Function) (vs : List Val) → (w : State) → Same base w → (k : ℕ) → Alike base (next_by ev env r d o vs w k)
      (next_by other env r d o vs w k)
  next_by_alike env r q d None vs w s k = own s
  next_by_alike env r q d (Some f) vs w s k =
      choice_alike (takes_count f.shape (length vs))
      (Noted (used (key_of w d.generic vs)) (if same_numbers (ordered w d.generic vs) d.methods then next_run ev env r r.next vs w k else stopped NextArguments (value.method r.method.0 ∷ []) w k))
      (Noted (used (key_of w d.generic vs)) (if same_numbers (ordered w d.generic vs) d.methods then next_run other env r r.next vs w k else stopped NextArguments (value.method r.method.0 ∷ []) w k))
      (stopped ProgramError [] w k) (stopped ProgramError [] w k)
      (noted_alike (used (key_of w d.generic vs))
      (if same_numbers (ordered w d.generic vs) d.methods then next_run ev env r r.next vs w k else stopped NextArguments (value.method r.method.0 ∷ []) w k)
      (if same_numbers (ordered w d.generic vs) d.methods then next_run other env r r.next vs w k else stopped NextArguments (value.method r.method.0 ∷ []) w k)
      (choice_alike (same_numbers (ordered w d.generic vs) d.methods) (next_run ev env r r.next vs w k) (next_run other env r r.next vs w k)
      (stopped NextArguments (value.method r.method.0 ∷ []) w k) (stopped NextArguments (value.method r.method.0 ∷ []) w k)
      (next_run_alike env r q r.next vs w s k) (own s))) (own s)

  next_in_alike : (env : Context) (r : Running) → (in_effective (standing_of None env.call) ≡ true) × AllStand InEffective r.forms
      → (o : Option Dispatch) (vs : List Val) → (w : State) → Same base w → (k : ℕ)
      → Alike base (next_in ev env r o vs w k) (next_in other env r o vs w k)
  next_in_alike env r q None vs w s k = own s
  next_in_alike env r q (Some d) vs w s k = next_by_alike env r q d (slice_get w.generics.functions d.generic) vs w s k

  next_given_alike : (env : Context) (o : Option Running) → HasNext o env.call → (vs : List Val) → (w : State) → Same base w → (k : ℕ)
      → Alike base (next_given ev env o vs w k) (next_given other env o vs w k)
  next_given_alike env None q vs w s k = own s
  next_given_alike env (Some r) q vs w s k = next_in_alike env r q env.call vs w s k

  next_method_alike : (env : Context) → IsProper env → (fs : Forms) → AllStand (standing_in env) fs → (w : State) → Same base w → (k : ℕ)
      → Alike base (next_method ev env fs w k) (next_method other env fs w k)
  next_method_alike env p nil a w s k = next_called_alike env env.running (has_next_forms env.running env.call p) env.arguments w s k
  next_method_alike env p (cons f fs) a w s k =
      collect_alike env p (cons f fs) [] (next_with ev env) (next_with other env) a
      (λ us u e j. next_given_alike env env.running (has_next_forms env.running env.call p) us u e j) w s k

  -- ---- assignments

  name_stored_alike : (env : Context) (name : Name) (vs : List Val) → (w : State) → Same base w → (k : ℕ)
      → Alike base (name_stored ev env name vs w k) (name_stored other env name vs w k)
  name_stored_alike env name vs w s k = name_set_alike env name (place_denoted w name) vs w s k

  name_changed_by_alike : (env : Context) (p : of_values.Primitive) (name : Name) (vs : List Val) → (w : State) → Same base w → (k : ℕ)
      → Alike base (name_changed_by ev env p name vs w k) (name_changed_by other env p name vs w k)
  name_changed_by_alike env p name vs w s k = name_changed_alike env p name (place_denoted w name) vs w s k

  stored_alike : (env : Context) → IsProper env → (n : Name) (f : Form) → is_well_formed (standing_in env) f ≡ true → (w : State) → Same base w → (k : ℕ)
      → Alike base (collect ev env (alone f) [] (name_stored ev env n) w k) (collect other env (alone f) [] (name_stored other env n) w k)
  stored_alike env p n f a w s k =
      collect_alike env p (alone f) [] (name_stored ev env n) (name_stored other env n) (a, tt) (λ us u e j. name_stored_alike env n us u e j) w s k

  place_set_to_alike : (env : Context) → IsProper env → (t : Access) (f : Form) → is_well_formed (standing_in env) f ≡ true → (vs : List Val) → (w : State)
      → Same base w → (k : ℕ)
      → Alike base (place_set_to ev env t f vs w k) (place_set_to other env t f vs w k)
  place_set_to_alike env p t f a vs w s k =
      collect_alike env p (alone f) vs (λ us u j. place_set ev env t us u j) (λ us u j. place_set other env t us u j) (a, tt)
      (λ us u e j. set_alike env t us u e j) w s k

  place_changed_by_alike : (env : Context) → IsProper env → (q : of_values.Primitive) (t : Access) (fs : Forms) → AllStand (standing_in env) fs
      → (vs : List Val) → (w : State) → Same base w → (k : ℕ)
      → Alike base (place_changed_by ev env q t fs vs w k) (place_changed_by other env q t fs vs w k)
  place_changed_by_alike env p q t fs a vs w s k =
      amount_alike env p fs vs (λ us u j. changed_place ev env q t (last_first us) u j) (λ us u j. changed_place other env q t (last_first us) u j) a
      (λ us u e j. changed_place_alike env q t (last_first us) u e j) w s k

  setq_alike : (env : Context) → IsProper env → (ns : List Name) (fs : Forms) (v : Val) → AllStand (standing_in env) fs → (w : State) → Same base w → (k : ℕ)
      → Alike base (setq ev env ns fs v w k) (setq other env ns fs v w k)
  setq_alike env p [] fs v a w s k = own s
  setq_alike env p (n ∷ ns) nil v a w s k = own s
  setq_alike env p (n ∷ ns) (cons f fs) v a w s k =
      then_alike (collect ev env (alone f) [] (name_stored ev env n) w k) (collect other env (alone f) [] (name_stored other env n) w k)
      (λ u. setq ev env ns fs u) (λ u. setq other env ns fs u) (stored_alike env p n f a.0 w s k)
      (λ x u j e. setq_alike env p ns fs x a.1 u e j)

  assigned_alike : (env : Context) → IsProper env → (o : Option Place) (ps : Forms) (f : Form) → AllStand (standing_in env) ps
      → is_well_formed (standing_in env) f ≡ true → (w : State) → Same base w → (k : ℕ)
      → Alike base (assigned ev env o ps f w k) (assigned other env o ps f w k)
  assigned_alike env p None ps f a b w s k = own s
  assigned_alike env p (Some (variable_place n)) ps f a b w s k = stored_alike env p n f b w s k
  assigned_alike env p (Some slot_value_place) ps f a b w s k =
      collect_alike env p ps [] (place_set_to ev env slot_access f) (place_set_to other env slot_access f) a
      (λ us u e j. place_set_to_alike env p slot_access f b us u e j) w s k
  assigned_alike env p (Some (call_place n)) ps f a b w s k =
      collect_alike env p ps [] (place_set_to ev env (call_access n) f) (place_set_to other env (call_access n) f) a
      (λ us u e j. place_set_to_alike env p (call_access n) f b us u e j) w s k

  setf_alike : (env : Context) → IsProper env → (fs : Forms) (v : Val) → AllAssigned (standing_in env) fs → (w : State) → Same base w → (k : ℕ)
      → Alike base (setf ev env fs v w k) (setf other env fs v w k)
  setf_alike env p nil v a w s k = own s
  setf_alike env p (cons f nil) v a w s k = own s
  setf_alike env p (cons f (cons g fs)) v a w s k =
      then_alike (assigned ev env (place_in (operator_in f)) (parts_in f) g w k) (assigned other env (place_in (operator_in f)) (parts_in f) g w k)
      (λ u. setf ev env fs u) (λ u. setf other env fs u)
      (assigned_alike env p (place_in (operator_in f)) (parts_in f) g a.0 a.1 w s k) (λ x u j e. setf_alike env p fs x a.2 u e j)

  changed_by_alike : (env : Context) → IsProper env → (q : of_values.Primitive) (o : Option Place) (ps fs : Forms) → AllStand (standing_in env) ps
      → AllStand (standing_in env) fs → (w : State) → Same base w → (k : ℕ) → Alike base (changed_by ev env q o ps fs w k) (changed_by other env q o ps fs w k)
  changed_by_alike env p q None ps fs a b w s k = own s
  changed_by_alike env p q (Some (variable_place n)) ps fs a b w s k =
      amount_alike env p fs [] (name_changed_by ev env q n) (name_changed_by other env q n) b (λ us u e j. name_changed_by_alike env q n us u e j) w s k
  changed_by_alike env p q (Some slot_value_place) ps fs a b w s k =
      collect_alike env p ps [] (place_changed_by ev env q slot_access fs) (place_changed_by other env q slot_access fs) a
      (λ us u e j. place_changed_by_alike env p q slot_access fs b us u e j) w s k
  changed_by_alike env p q (Some (call_place n)) ps fs a b w s k =
      collect_alike env p ps [] (place_changed_by ev env q (call_access n) fs) (place_changed_by other env q (call_access n) fs) a
      (λ us u e j. place_changed_by_alike env p q (call_access n) fs b us u e j) w s k

  changing_alike : (env : Context) → IsProper env → (q : of_values.Primitive) (fs : Forms) → place_and_amount (roles_of fs) ≡ true
      → are_made_well (standing_in env) fs ≡ true → (w : State) → Same base w → (k : ℕ) → Alike base (changing ev env q fs w k) (changing other env q fs w k)
  changing_alike env p q nil t m w s k = own s
  changing_alike env p q (cons f fs) t m w s k =
      let t' : (are_expressions (roles_of fs) && nat_le (length (roles_of fs)) 1) ≡ true =
      second_so (is_place (role_of (operator_in f))) (are_expressions (roles_of fs) && nat_le (length (roles_of fs)) 1) t in
      changed_by_alike env p q (place_in (operator_in f)) (parts_in f) fs
      (place_stands (standing_in env) f (first_so (is_place (role_of (operator_in f))) (are_expressions (roles_of fs) && nat_le (length (roles_of fs)) 1) t)
      (first_so (is_made_well (standing_in env) f) (are_made_well (standing_in env) fs) m))
      (all_stand (standing_in env) fs (first_so (are_expressions (roles_of fs)) (nat_le (length (roles_of fs)) 1) t')
      (second_so (is_made_well (standing_in env) f) (are_made_well (standing_in env) fs) m)) w s k

  -- ---- forms

  operated_alike : (env : Context) → IsProper env → (o : Operator) (ps : Forms) → takes (standing_in env) o (roles_of ps) ≡ true
      → are_made_well (standing_in env) ps ≡ true → (w : State) → Same base w → (k : ℕ) → Alike base (operated ev env o ps w k) (operated other env o ps w k)
  operated_alike env p (of.constant v) ps t m w s k = own s
  operated_alike env p of.no_value ps t m w s k = own s
  operated_alike env p (of.variable name) ps t m w s k = name_read_alike env name (place_denoted w name) w s k
  operated_alike env p (of.function c) ps t m w s k = own (value_same base c w s k)
  operated_alike env p of.if_form ps t m w s k =
      first_alike env p ps (branch_by ev env) (branch_by other env) (λ gs v a u e j. branch_alike env p (is_true v) gs a u e j) none
      (all_stand (standing_in env) ps (first_so (are_expressions (roles_of ps)) (nat_le 2 (length (roles_of ps)) && nat_le (length (roles_of ps)) 3) t) m) w s k
  operated_alike env p of.cond ps t m w s k = clauses_alike env p ps (clauses_stand (standing_in env) ps t m) w s k
  operated_alike env p of.clause ps t m w s k = own s
  operated_alike env p of.when ps t m w s k =
      first_alike env p ps (where_true ev env) (where_true other env) (λ gs v a u e j. where_true_alike env p gs v a u e j) none
      (all_stand (standing_in env) ps (first_so (are_expressions (roles_of ps)) (nat_le 1 (length (roles_of ps))) t) m) w s k
  operated_alike env p of.unless ps t m w s k =
      first_alike env p ps (where_false ev env) (where_false other env) (λ gs v a u e j. where_false_alike env p gs v a u e j) none
      (all_stand (standing_in env) ps (first_so (are_expressions (roles_of ps)) (nat_le 1 (length (roles_of ps))) t) m) w s k
  operated_alike env p of.and_form ps t m w s k =
      first_alike env p ps (and_then ev env) (and_then other env) (λ gs v a u e j. and_alike env p gs v a u e j) (truth true)
      (all_stand (standing_in env) ps t m) w s k
  operated_alike env p of.or_form ps t m w s k =
      first_alike env p ps (or_then ev env) (or_then other env) (λ gs v a u e j. or_alike env p gs v a u e j) none (all_stand (standing_in env) ps t m) w s k
  operated_alike env p of.progn ps t m w s k =
      first_alike env p ps (sequence ev env) (sequence other env) (λ gs v a u e j. sequence_alike env p gs v a u e j) none
      (all_stand (standing_in env) ps t m) w s k
  operated_alike env p of.prog1 ps t m w s k =
      first_alike env p ps (keeping ev env) (keeping other env) (λ gs v a u e j. keeping_alike env p gs v a u e j) none
      (all_stand (standing_in env) ps (first_so (are_expressions (roles_of ps)) (nat_le 1 (length (roles_of ps))) t) m) w s k
  operated_alike env p (of.let_form bs) ps t m w s k =
      aside_alike env p (length w.locals) bs ps [] (all_stand (standing_in env) ps (inits_expressions bs ps t) m) w s k
  operated_alike env p (of.let_in_order bs) ps t m w s k =
      order_alike env p (length w.locals) bs ps (all_stand (standing_in env) ps (inits_expressions bs ps t) m) w s k
  operated_alike env p (of.setq ns) ps t m w s k =
      setq_alike env p ns ps none (all_stand (standing_in env) ps (values_expressions ns ps t) m) w s k
  operated_alike env p of.setf ps t m w s k = setf_alike env p ps none (assigned_stand (standing_in env) ps t m) w s k
  operated_alike env p of.incf ps t m w s k = changing_alike env p (Number Sum) ps t m w s k
  operated_alike env p of.decf ps t m w s k = changing_alike env p (Number Difference) ps t m w s k
  operated_alike env p (of.place q) ps t m w s k = own s
  operated_alike env p (of.dotimes n b) ps t m w s k =
      init_alike env p ps (λ rest v. repeated ev env (record { outer = length w.locals; name = n; has_result = b; forms = rest }) v)
      (λ rest v. repeated other env (record { outer = length w.locals; name = n; has_result = b; forms = rest }) v)
      (λ gs v a u e j. repeated_alike env p (record { outer = length w.locals; name = n; has_result = b; forms = gs }) a v u e j)
      (all_stand (standing_in env) ps (count_expressions b ps t) m) w s k
  operated_alike env p (of.with_slots bs) ps t m w s k =
      init_alike env p ps (λ rest object. within_slots ev env bs rest object) (λ rest object. within_slots other env bs rest object)
      (λ gs object a u e j. within_alike env p (length u.locals) gs none a (bound_as (slot_locals bs object ++ u.locals) u) e j)
      (all_stand (standing_in env) ps (first_expressions true ps t) m) w s k
  operated_alike env p of.call_next_method ps t m w s k =
      next_method_alike env p ps (all_stand (standing_in env) ps (second_so (in_method (standing_in env)) (are_expressions (roles_of ps)) t) m) w s k
  operated_alike env p of.next_method_p ps t m w s k = own s
  operated_alike env p (of.call name) ps t m w s k =
      collect_alike env p ps [] (called ev env name) (called other env name) (all_stand (standing_in env) ps t m)
      (λ us u e j. applied_alike env (callee_of name) name us u e j) w s k
  operated_alike env p (of.call_method c ns) ps t m w s k =
      let q : in_effective (standing_in env) ≡ true = first_so (in_effective (standing_in env)) (forms_of_made (c ∷ ns) (roles_of ps)) t in
      called_method_alike env q c ns ps
      (subst (λ x. AllStand x ps) (is_effective (standing_in env) q)
      (all_stand (standing_in env) ps
      (first_so (are_expressions (roles_of ps)) (length (roles_of ps) == made_among (c ∷ ns)) (second_so (in_effective (standing_in env)) (forms_of_made (c ∷ ns) (roles_of ps)) t))
      m)) w s k

  pub body_agrees : (env : Context) → IsProper env → (f : Form) → is_well_formed (standing_in env) f ≡ true → (w : State) → Same base w → (k : ℕ)
      → Alike base (body ev env f w k) (body other env f w k)
  body_agrees env p (form o ps) a w s k =
      let m : (takes (standing_in env) o (roles_of ps) && are_made_well (standing_in env) ps) ≡ true =
      second_so (is_expression (role_of o)) (takes (standing_in env) o (roles_of ps) && are_made_well (standing_in env) ps) a in
      operated_alike env p o ps (first_so (takes (standing_in env) o (roles_of ps)) (are_made_well (standing_in env) ps) m)
      (second_so (takes (standing_in env) o (roles_of ps)) (are_made_well (standing_in env) ps) m) w s k

-- ---- the meaning of forms

pub meanings_agree : (base : State) → AreWellFormed base → (any : Eval) (n : ℕ) → Agree base (meaning n) (meaning_or any n)
meanings_agree base well any zero env f p a w s k = own (step_same base (stopped DepthLimit []) w s k (λ j. s))
meanings_agree base well any (suc n) env f p a w s k =
    subst (λ b. Alike base (step_then (body (meaning n) env f) w k) (if b then step_then (body (meaning_or any n) env f) w k else any env f w k)) (sym a)
    (step_alike (body (meaning n) env f) (body (meaning_or any n) env f) w s k
    (λ j. body_agrees base well (meaning n) (meaning_or any n) (meanings_agree base well any n) env p f a w s j))

pub other_forms_are_no_matter : OtherFormsAreNoMatter
other_forms_are_no_matter any room f w s well plain =
    ap closed (sym (meanings_agree w well any room (known []) f tt plain (unbound w) (refl, refl, refl, refl, refl, refl) s).is)
