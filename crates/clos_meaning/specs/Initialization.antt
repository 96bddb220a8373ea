-- The making of instances and their initialization (HyperSpec 7.1): make-instance, and the system's methods that it calls.
use Rattle.std.specs.Prelude.{ℕ, ◌+◌, Bool, true, false, ◌||◌, List, [], ◌∷◌, ◌++◌, Option, Some, None, is_some, Result, Ok, Err, if◌then◌else◌, length}
use Rattle.std.specs.List.{list_any}
use Rattle.lisp_data.specs.Name.{Name}
use Rattle.lisp_data.specs.Value.{Val, instance}
use Rattle.lisp_prims.specs.Primitive.{truth}
use Rattle.clos_forms.specs.Quotation.{name_value}
use Rattle.clos_world.specs.clos_class.clos_defclass.declared.class.DefaultInitarg.{DefaultInitarg}
use Rattle.clos_world.specs.clos_method.Keywords.{method_allows, method_names}
use Rattle.clos_world.specs.clos_method.System.{system_number}
use Rattle.clos_world.specs.clos_method.declared.method.Method.{Method}
use Rattle.clos_world.specs.clos_method.declared.system.SystemFunction.{SystemFunction}
use Rattle.clos_world.specs.clos_class.Slots.{Effective}
use Rattle.clos_world.specs.clos_class.declared.effective_slots.EffectiveSlot.{EffectiveSlot}
use Rattle.clos_world.specs.clos_store.Store.{allocated, has_room, with_instance}
use Rattle.clos_world.specs.Class.{class_name, effective}
use Rattle.clos_world.specs.Dispatch.{ordered}
use Rattle.clos_world.specs.Keys.{key_of}
use Rattle.clos_world.specs.World.{State}
use Rattle.clos_world.specs.declared.condition.Condition.{Condition}
use Rattle.clos_world.specs.declared.condition.ConditionKind.TheVariants.{ProgramError, InvalidInitarg, TableLimit}
use Rattle.clos_world.specs.clos_method.declared.system.SystemFunction.TheVariants.{InitializeInstance, SharedInitialize}
use Rattle.clos_meaning.specs.Bodies.{scoped}
use Rattle.clos_meaning.specs.ClassFunctions.{symbol_in}
use Rattle.clos_meaning.specs.Contexts.{Context, known}
use Rattle.clos_meaning.specs.GenericCalls.{invoked}
use Rattle.clos_meaning.specs.Objects.{designated}
use Rattle.clos_meaning.specs.Outcome.{Note, used, Stopped, Run, Eval, then_do, gave, stopped, step_then}
use Rattle.clos_meaning.specs.Uses.{noted}
use Rattle.clos_meaning.specs.Parameters.{are_pairs, argument_named, is_allow_other_keys, is_allowing, is_symbol_named}

-- ---- the validity of initargs (7.1.2): each names a slot, is a keyword of one of the methods that they reach, or is :ALLOW-OTHER-KEYS

-- the methods that the initargs of an instance reach: those of this function with these arguments, and those of shared-initialize with
-- these names of slots
abbrev pub methods_reached : State → SystemFunction → List Val → ℕ → Val → List ℕ
methods_reached w f vs i names = ordered w (system_number f) vs ++ ordered w (system_number SharedInitialize) (instance i ∷ names ∷ [])

-- asking for them is a use of each function
abbrev pub reaching : State → SystemFunction → List Val → ℕ → Val → List Note
reaching w f vs i names = used (key_of w (system_number f) vs) ∷ used (key_of w (system_number SharedInitialize) (instance i ∷ names ∷ [])) ∷ []

abbrev pub fills : List EffectiveSlot → Val → Bool
fills slots v = list_any (λ s. list_any (λ n. is_symbol_named n v) s.initargs) slots

abbrev pub is_keyword_of : List Method → List ℕ → Option Name → Bool
is_keyword_of methods ms None = false
is_keyword_of methods ms (Some name) = list_any (method_names methods name) ms

abbrev pub is_valid : List Method → List ℕ → List EffectiveSlot → Val → Bool
is_valid methods ms slots v = is_allow_other_keys v || (fills slots v || is_keyword_of methods ms (symbol_in v))

-- the leftmost name that is not valid; one without a value is a name too
abbrev mutual
  pub first_invalid : List Method → List ℕ → List EffectiveSlot → List Val → Option Val
  first_invalid methods ms slots [] = None
  first_invalid methods ms slots (k ∷ vs) = if is_valid methods ms slots k then first_invalid_after methods ms slots vs else Some k

  -- after the value of a name
  pub first_invalid_after : List Method → List ℕ → List EffectiveSlot → List Val → Option Val
  first_invalid_after methods ms slots [] = None
  first_invalid_after methods ms slots (v ∷ vs) = first_invalid methods ms slots vs

-- A true :ALLOW-OTHER-KEYS allows all, and so does a method with &allow-other-keys.
abbrev pub invalid_initarg : List Method → List ℕ → List EffectiveSlot → List Val → Option Val
invalid_initarg methods ms slots vs = if is_allowing vs || list_any (method_allows methods) ms then None else first_invalid methods ms slots vs

abbrev pub invalid_for : Val → Option Name → Condition
invalid_for k None = record { kind = InvalidInitarg; items = k ∷ [] }
invalid_for k (Some name) = record { kind = InvalidInitarg; items = k ∷ name_value name ∷ [] }

-- ---- initialize-instance is called with an instance of this class, unless an initarg is not valid; the instance is given

abbrev pub initialized : Eval → ℕ → List Val → ℕ → Option Val → Run
initialized ev c vs i (Some k) w s = Stopped (invalid_for k (class_name w.classes c)) w s
initialized ev c vs i None w s = then_do (invoked ev InitializeInstance (instance i ∷ vs) w s) (λ v. gave (instance i))

-- ---- the instance is made, in one step, and then initialized

abbrev pub checked : Eval → ℕ → Effective → List Val → ℕ → Run
checked ev c e vs i w s =
    noted (reaching w InitializeInstance (instance i ∷ []) i (truth true))
    (initialized ev c vs i (invalid_initarg w.generics.methods (methods_reached w InitializeInstance (instance i ∷ []) i (truth true)) e.slots vs) w s)

abbrev pub made : Eval → Context → ℕ → Effective → List Val → Run
made ev env c e vs w s = checked ev c e vs (length w.store.instances + 1) (record w { store = with_instance (allocated c e.layout) w.store }) s

abbrev pub allocate : Eval → Context → ℕ → Effective → List Val → Run
allocate ev env c e vs w s = if has_room w.store then step_then (made ev env c e vs) w s else stopped TableLimit [] w s

-- ---- default initargs (7.1.3): those whose names were not given follow the others

abbrev pub is_given : List Val → DefaultInitarg → Bool
is_given vs d = is_some (argument_named d.name vs)

abbrev pub defaulted : Eval → Context → ℕ → Effective → List DefaultInitarg → List Val → Run
defaulted ev env c e [] vs w s = allocate ev env c e vs w s
defaulted ev env c e (d ∷ ds) vs w s =
    if is_given vs d then defaulted ev env c e ds vs w s
    else then_do (ev env d.form w s) (λ v. defaulted ev env c e ds (vs ++ name_value d.name ∷ v ∷ []))

-- ---- make-instance (7.7), whose forms are evaluated with no variables

abbrev pub making_of : Eval → List Val → ℕ → Option Effective → Run
making_of ev vs c None w s = stopped ProgramError [] w s
making_of ev vs c (Some e) w s = scoped (defaulted ev (known []) c e e.defaults vs) [] w s

abbrev pub making : Eval → List Val → Result ℕ Condition → Run
making ev vs (Err c) w s = Stopped c w s
making ev vs (Ok c) w s = making_of ev vs c (effective w.classes c) w s

abbrev pub instance_made : Eval → List Val → Run
instance_made ev [] w s = stopped ProgramError [] w s
instance_made ev (v ∷ vs) w s = if are_pairs vs then making ev vs (designated w.classes v) w s else stopped ProgramError [] w s
