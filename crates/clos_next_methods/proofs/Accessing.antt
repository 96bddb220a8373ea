-- What a method's body does, whatever it knows of its call.
use Rattle.std.proofs.Common.{◌≡◌, ℕ, zero, suc, List, [], ◌∷◌, Option, Some, None, Result, Ok, Err, refl, ap, sym, true, ◌∙◌}
use Rattle.std.specs.Prelude.{if◌then◌else◌}
use Rattle.lisp_data.specs.Name.{Name}
use Rattle.lisp_data.specs.Value.{Val}
use Rattle.clos_forms.specs.Form.{Forms}
use Rattle.clos_method.specs.declared.method.MethodBody.{MethodBody}
use Rattle.clos_method.specs.declared.method.MethodBody.TheVariants.{Forms as Body, Reader, System, Writer}
use Rattle.clos_method.specs.declared.system.SystemFunction.{SystemFunction}
use Rattle.clos_method.specs.declared.system.SystemFunction.TheVariants.{UpdateInstanceForRedefinedClass}
use Rattle.clos_lambda.specs.declared.lambda_list.LambdaList.{LambdaList}
use Rattle.clos_forms.specs.clos_names.declared.callee.SlotFunction.TheVariants.{SlotValue}
use Rattle.clos_machine.specs.clos_world.clos_class.Slots.{Layout}
use Rattle.clos_machine.specs.clos_world.clos_store.Store.{slot_found}
use Rattle.clos_machine.specs.clos_world.clos_store.Update.{with_update}
use Rattle.clos_machine.specs.clos_world.World.{State}
use Rattle.clos_machine.specs.clos_world.declared.condition.Condition.{Condition}
use Rattle.clos_machine.specs.clos_meaning.Accessors.{read_by, read_of, written_by, written_of}
use Rattle.clos_machine.specs.clos_world.declared.condition.ConditionKind.TheVariants.{ProgramError}
use Rattle.clos_machine.specs.clos_world.declared.condition.Stop.{Stop}
use Rattle.clos_machine.specs.clos_meaning.Bodies.{body_run}
use Rattle.clos_machine.specs.clos_meaning.Calls.{keys_are_even, method_body_run}
use Rattle.clos_machine.specs.clos_meaning.Contexts.{Context}
use Rattle.clos_machine.specs.Machine.{Leads, at, inside, performed, resume}
use Rattle.clos_machine.specs.clos_meaning.Meaning.{closed, meaning}
use Rattle.clos_machine.specs.clos_meaning.GenericCalls.{invoked}
use Rattle.clos_machine.specs.clos_meaning.Outcome.{Out, Gave, Stopped, Asked, Looked, Noted, Eval, Run, stopped, then_do}
use Rattle.clos_machine.specs.clos_meaning.Parameters.{sources}
use Rattle.clos_machine.specs.clos_meaning.Slots.{instance_in, slot_answer, slot_changed, slot_put, slot_read}
use Rattle.clos_machine.specs.clos_meaning.Updating.{due, restructured, told, updated, updated_if, updated_with}
use Rattle.clos_machine.specs.declared.machine.BuiltIn.{BuiltIn}
use Rattle.clos_machine.specs.declared.machine.BuiltIn.TheVariants as built_in
use Rattle.clos_machine.specs.declared.machine.Doing.{Doing}
use Rattle.clos_machine.specs.declared.machine.Doing.TheVariants.{Perform}
use Rattle.clos_machine.specs.declared.machine.Machine.{Machine}
use Rattle.clos_machine.proofs.Turns.{asked_same, leads_same, looked_same}
use Rattle.clos_next_methods.specs.Methods.{forms_run}

-- ---- what is done with an instance that is updated first

module _ (go on : Val → Run) (h : (v : Val) (w : State) (s : ℕ) → go v w s ≡ on v w s) where
  then_same : (o : Out) → then_do o go ≡ then_do o on
  then_same (Gave v w s) = h v w s
  then_same (Stopped c w s) = refl
  then_same (Noted n o) = ap (Noted n) (then_same o)
  then_same (Looked name more) = looked_same name _ _ (λ n. then_same (more n))
  then_same (Asked name xs more) = asked_same name xs _ _ (λ x. then_same (more x))

module _ (ev : Eval) (i : ℕ) (go on : Run) (h : (w : State) (s : ℕ) → go w s ≡ on w s) (w : State) where
  restructured_same : (l : Layout) (vs : List Val) (s : ℕ) → restructured ev i l vs go w s ≡ restructured ev i l vs on w s
  restructured_same l vs zero = refl
  restructured_same l vs (suc k) =
      then_same (λ v x t. go x t) (λ v x t. on x t) (λ v x t. h x t) (invoked ev UpdateInstanceForRedefinedClass vs (record w { store = with_update i l w.store }) k)

  told_same : (l : Layout) (s : ℕ) (x : Result (List Val) Condition) → updated_with ev i l go x w s ≡ updated_with ev i l on x w s
  told_same l s (Err c) = refl
  told_same l s (Ok vs) = restructured_same l vs s

  due_same : (s : ℕ) (o : Option Layout) → updated_if ev i go o w s ≡ updated_if ev i on o w s
  due_same s None = h w s
  due_same s (Some l) = told_same l s (told w i l)

  updated_same : (s : ℕ) → updated ev i go w s ≡ updated ev i on w s
  updated_same s = due_same s (due w i)

-- ---- readers and writers

module _ (ev : Eval) (env ctx : Context) (slot : Name) where
  found_any : (i : ℕ) (o : Option (Option Val)) (w : State) (s : ℕ) → slot_read ev env i slot o w s ≡ slot_read ev ctx i slot o w s
  found_any i None w s = refl
  found_any i (Some None) w s = refl
  found_any i (Some (Some v)) w s = refl

  changed_any : (i : ℕ) (new : Val) (o : Option (Option Val)) (w : State) (s : ℕ) → slot_changed ev env i slot (Some new) new o w s ≡ slot_changed ev ctx i slot (Some new) new o w s
  changed_any i new None w s = refl
  changed_any i new (Some old) w s = refl

  module _ (w : State) (s : ℕ) where
    of_any : (x : Result ℕ Condition) → read_of ev env slot x w s ≡ read_of ev ctx slot x w s
    of_any (Err c) = refl
    of_any (Ok i) =
        updated_same ev i (slot_answer ev env SlotValue i slot) (slot_answer ev ctx SlotValue i slot) (λ u t. found_any i (slot_found u.store i slot) u t) w s

    pub read_any : (vs : List Val) → read_by ev env slot vs w s ≡ read_by ev ctx slot vs w s
    read_any [] = refl
    read_any (v ∷ []) = of_any (instance_in v)
    read_any (v ∷ (x ∷ vs)) = refl

    to_any : (new : Val) (x : Result ℕ Condition) → written_of ev env slot new x w s ≡ written_of ev ctx slot new x w s
    to_any new (Err c) = refl
    to_any new (Ok i) =
        updated_same ev i (slot_put ev env i slot (Some new) new) (slot_put ev ctx i slot (Some new) new) (λ u t. changed_any i new (slot_found u.store i slot) u t) w s

    pub written_any : (vs : List Val) → written_by ev env slot vs w s ≡ written_by ev ctx slot vs w s
    written_any [] = refl
    written_any (new ∷ []) = refl
    written_any (new ∷ (v ∷ [])) = to_any new (instance_in v)
    written_any (new ∷ (v ∷ (x ∷ vs))) = refl

-- ---- bodies of methods

module _ (m n : Machine) (env : Context) (b : MethodBody) (w : State) where
  goes_as : (run : Run) (r : Result Doing Stop) → ((t : ℕ) → run (at m w) t ≡ method_body_run (meaning m.room) env b (at m w) t) → Leads (inside m run) w r n
      → Leads (inside m (method_body_run (meaning m.room) env b)) w r n
  goes_as run r h l =
      leads_same (inside m run) (inside m (method_body_run (meaning m.room) env b)) w r n (λ t. ap (λ o. closed (resume m.levels m.context o)) (h t)) l

  set_to : (x : MethodBody) (t : ℕ) → b ≡ x → method_body_run (meaning m.room) env x (at m w) t ≡ method_body_run (meaning m.room) env b (at m w) t
  set_to x t e = ap (λ y. method_body_run (meaning m.room) env y (at m w) t) (sym e)

  pub body_of_forms : (l : LambdaList) (fs : Forms) (ctx : Context) (k : LambdaList) (r : Result Doing Stop) → b ≡ Body l fs → ctx ≡ env → k ≡ l
      → Leads (inside m (forms_run (meaning m.room) ctx k fs)) w r n → Leads (inside m (method_body_run (meaning m.room) env b)) w r n
  body_of_forms l fs ctx k r e h i =
      goes_as (forms_run (meaning m.room) ctx k fs) r
      (λ t. ap (λ x. forms_run (meaning m.room) x k fs (at m w) t) h ∙ ap (λ x. forms_run (meaning m.room) env x fs (at m w) t) i ∙ set_to (Body l fs) t e)

-- ---- bodies without forms, which are performed next

module _ (m : Machine) (env : Context) (b : MethodBody) (w : State) where
  performs : (x : MethodBody) (p : BuiltIn) → b ≡ x → ((t : ℕ) → performed (meaning m.room) m.context p env.arguments (at m w) t ≡ method_body_run (meaning m.room) env x (at m w) t)
      → Leads (inside m (method_body_run (meaning m.room) env b)) w (Ok (Perform p env.arguments)) m
  performs x p e h = λ t.
      ap (λ o. closed (resume m.levels m.context o)) (h t ∙ ap (λ y. method_body_run (meaning m.room) env y (at m w) t) (sym e))

  pub body_reads : (slot name : Name) → b ≡ Reader slot → name ≡ slot
      → Leads (inside m (method_body_run (meaning m.room) env b)) w (Ok (Perform (built_in.Reader name) env.arguments)) m
  body_reads slot name e h =
      performs (Reader slot) (built_in.Reader name) e
      (λ t. ap (λ x. read_by (meaning m.room) m.context x env.arguments (at m w) t) h ∙ read_any (meaning m.room) m.context env slot (at m w) t env.arguments)

  pub body_writes : (slot name : Name) → b ≡ Writer slot → name ≡ slot
      → Leads (inside m (method_body_run (meaning m.room) env b)) w (Ok (Perform (built_in.Writer name) env.arguments)) m
  body_writes slot name e h =
      performs (Writer slot) (built_in.Writer name) e
      (λ t. ap (λ x. written_by (meaning m.room) m.context x env.arguments (at m w) t) h ∙ written_any (meaning m.room) m.context env slot (at m w) t env.arguments)

  pub body_of_system : (f : SystemFunction) → b ≡ System f
      → Leads (inside m (method_body_run (meaning m.room) env b)) w (Ok (Perform (built_in.System f) env.arguments)) m
  body_of_system f e = performs (System f) (built_in.System f) e (λ t. refl)

pub keys_even : (m n : Machine) (env : Context) (l : LambdaList) (fs : Forms) (w : State) (r : Result Doing Stop) → true ≡ keys_are_even l env.arguments
    → Leads (inside m (body_run (meaning m.room) env (sources l env.arguments) fs)) w r n → Leads (inside m (forms_run (meaning m.room) env l fs)) w r n
keys_even m n env l fs w r e h =
    leads_same (inside m (body_run (meaning m.room) env (sources l env.arguments) fs)) (inside m (forms_run (meaning m.room) env l fs)) w r n
    (λ t. ap (λ b. closed (resume m.levels m.context (if b then body_run (meaning m.room) env (sources l env.arguments) fs (at m w) t else stopped ProgramError [] (at m w) t))) e) h
