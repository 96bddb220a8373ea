-- What the system's methods do with the arguments of their calls (HyperSpec 7.1.4, 7.3, 7.7).
use Rattle.std.specs.Prelude.{ℕ, true, not, List, [], ◌∷◌, Option, Some, None, Result, Ok, Err, if◌then◌else◌, slice_get}
use Rattle.std.specs.List.{filter}
use Rattle.lisp_data.specs.Name.{Name}
use Rattle.lisp_data.specs.Value.{Val, generic, instance, list, nil}
use Rattle.lisp_prims.specs.Primitive.{truth}
use Rattle.clos_world.specs.clos_class.Slots.{Effective, Layout}
use Rattle.clos_world.specs.Class.{class_name, effective}
use Rattle.clos_world.specs.FunctionName.{called_value}
use Rattle.clos_world.specs.World.{State, class_of_instance}
use Rattle.clos_world.specs.declared.condition.Condition.{Condition}
use Rattle.clos_world.specs.declared.condition.ConditionKind.{ConditionKind}
use Rattle.clos_world.specs.declared.condition.ConditionKind.TheVariants.{NoApplicableMethod, NoNextMethod, ProgramError, UnboundSlot, MissingSlot}
use Rattle.clos_world.specs.clos_generic.Table.{Function}
use Rattle.clos_world.specs.clos_method.declared.system.SystemFunction.{SystemFunction}
use Rattle.clos_world.specs.clos_method.declared.system.SystemFunction.TheVariants.{InitializeInstance, ReinitializeInstance, SharedInitialize, UpdateInstanceForRedefinedClass, UpdateInstanceForDifferentClass, SlotUnbound, SlotMissing}
use Rattle.clos_world.specs.clos_method.declared.system.SystemFunction.TheVariants as of_system
use Rattle.clos_meaning.specs.Bodies.{scoped}
use Rattle.clos_meaning.specs.ClassFunctions.{Answer, wrong_type}
use Rattle.clos_meaning.specs.Filling.{are_slot_names, fill}
use Rattle.clos_meaning.specs.Contexts.{known}
use Rattle.clos_meaning.specs.GenericCalls.{invoked}
use Rattle.clos_meaning.specs.Initialization.{invalid_for, invalid_initarg, methods_reached, reaching}
use Rattle.clos_meaning.specs.Uses.{noted}
use Rattle.clos_meaning.specs.Outcome.{Stopped, Run, Eval, then_do, gave, stopped}
use Rattle.clos_meaning.specs.Parameters.{are_even}
use Rattle.clos_meaning.specs.Slots.{has_slot, instance_in}
use Rattle.clos_meaning.specs.Updating.{layout_if, names_listed, updated}

-- ---- the class of an instance, and what the class has

-- the class with its slots and default initargs; nothing of a class that is not complete
abbrev pub with_effective : ℕ → Option Effective → Option (ℕ × Effective)
with_effective c None = None
with_effective c (Some e) = Some (c, e)

-- the same, where there is an instance that has a class
abbrev pub class_with : State → Option ℕ → Option (ℕ × Effective)
class_with w None = None
class_with w (Some c) = with_effective c (effective w.classes c)

-- both for the instance of this number
abbrev pub class_in : State → ℕ → Option (ℕ × Effective)
class_in w i = class_with w (class_of_instance w i)

-- ---- initialize-instance and reinitialize-instance call shared-initialize, and give the instance

-- with these names of slots
abbrev pub shared_initialized : Eval → ℕ → Val → List Val → Run
shared_initialized ev i names initargs w s = then_do (invoked ev SharedInitialize (instance i ∷ names ∷ initargs) w s) (λ v. gave (instance i))

-- initialize-instance hands on T, by which all slots may take their initforms, and checks no initargs
abbrev pub initialize : Eval → List Val → Result ℕ Condition → Run
initialize ev initargs (Err c) w s = Stopped c w s
initialize ev initargs (Ok i) w s = shared_initialized ev i (truth true) initargs w s

-- unless this initarg is not valid for instances of this class
abbrev pub if_valid : ℕ → Option Val → Run → Run
if_valid c None go w s = go w s
if_valid c (Some k) go w s = Stopped (invalid_for k (class_name w.classes c)) w s

-- where the initargs are valid, for this function with these arguments and for shared-initialize with these names of slots, which is called
abbrev pub shared_if_valid : Eval → SystemFunction → List Val → Val → List Val → ℕ → Option (ℕ × Effective) → Run
shared_if_valid ev f vs names initargs i None w s = stopped ProgramError [] w s
shared_if_valid ev f vs names initargs i (Some p) w s =
    noted (reaching w f vs i names)
    (if_valid p.0 (invalid_initarg w.generics.methods (methods_reached w f vs i names) p.1.slots initargs) (shared_initialized ev i names initargs) w s)

-- with the slots that the class of the instance has
abbrev pub checked_shared : Eval → SystemFunction → List Val → Val → List Val → ℕ → Run
checked_shared ev f vs names initargs i w s = shared_if_valid ev f vs names initargs i (class_in w i) w s

-- reinitialize-instance checks its initargs (7.3), and hands on NIL: no slot takes its initform
abbrev pub reinitialize_instance : Eval → List Val → ℕ → Run
reinitialize_instance ev initargs i w s = checked_shared ev ReinitializeInstance (instance i ∷ []) (list nil) initargs i w s

-- The instance is updated first; the condition where the value is none.
abbrev pub reinitialize : Eval → List Val → Result ℕ Condition → Run
reinitialize ev initargs (Err c) w s = Stopped c w s
reinitialize ev initargs (Ok i) w s = updated ev i (reinitialize_instance ev initargs i) w s

-- ---- the functions that update instances check their initargs, and have the new slots take their initforms (4.3.6.2, 7.2.2)

-- update-instance-for-redefined-class with these arguments, of which the second are the names of the new slots
abbrev pub redefined : Eval → List Val → Val → List Val → Result ℕ Condition → Run
redefined ev vs names initargs (Err c) w s = Stopped c w s
redefined ev vs names initargs (Ok i) w s = checked_shared ev UpdateInstanceForRedefinedClass vs names initargs i w s

-- the local slots of a class that another one has no slots of
abbrev pub lacking : State → Option ℕ → Option Layout → List Name
lacking w before None = []
lacking w before (Some l) = filter (λ name. not (has_slot w.classes before name)) l.locals

-- those of the class of an instance that the class of its copy has no slots of, by both classes as they are now
abbrev pub new_slots : State → ℕ → ℕ → List Name
new_slots w copy i = lacking w (class_of_instance w copy) (layout_if w (class_of_instance w i))

-- update-instance-for-different-class with these arguments: the copy, the instance and initargs
abbrev pub different_with : Eval → List Val → List Val → ℕ → Answer → Run
different_with ev vs initargs i (Err c) w s = Stopped c w s
different_with ev vs initargs i (Ok names) w s = checked_shared ev UpdateInstanceForDifferentClass vs names initargs i w s

-- the same with the copy: the second argument is the instance, whose new slots are named
abbrev pub different_from : Eval → List Val → List Val → ℕ → Result ℕ Condition → Run
different_from ev vs initargs copy (Err c) w s = Stopped c w s
different_from ev vs initargs copy (Ok i) w s = different_with ev vs initargs i (names_listed (new_slots w copy i)) w s

-- the same with the first argument, which is the copy; it is looked at before the second
abbrev pub different : Eval → Val → Val → List Val → Result ℕ Condition → Run
different ev previous current initargs (Err c) w s = Stopped c w s
different ev previous current initargs (Ok copy) w s = different_from ev (previous ∷ current ∷ initargs) initargs copy (instance_in current) w s

-- ---- shared-initialize fills the slots; their initforms see no variables

-- the slots of the class that the instance has, with the initargs of the call
abbrev pub filled_as : Eval → ℕ → Val → List Val → Option (ℕ × Effective) → Run
filled_as ev i names initargs None w s = stopped ProgramError [] w s
filled_as ev i names initargs (Some p) w s =
    scoped (fill ev (known []) (record { instance = i; class = p.0; names = names; initargs = initargs }) p.1.slots) [] w s

-- the slots of the class that it has then
abbrev pub slots_filled : Eval → ℕ → Val → List Val → Run
slots_filled ev i names initargs w s = filled_as ev i names initargs (class_in w i) w s

-- Names that are not T or a list of symbols are of a wrong type; the instance is looked at first. It is updated before its slots are filled.
abbrev pub initialize_slots : Eval → Val → List Val → Result ℕ Condition → Run
initialize_slots ev names initargs (Err c) w s = Stopped c w s
initialize_slots ev names initargs (Ok i) w s =
    if are_slot_names names then updated ev i (slots_filled ev i names initargs) w s else Stopped (wrong_type names) w s

-- A method's call of its next methods may hand on initargs that are not in pairs.
abbrev pub shared_initialize : Eval → Val → Val → List Val → Run
shared_initialize ev v names initargs w s = if are_even initargs then initialize_slots ev names initargs (instance_in v) w s else stopped ProgramError [] w s

-- ---- slot-unbound and slot-missing signal that, of the name of a slot and an instance, which follow a class

-- it tells the slot and then the instance; too few arguments are PROGRAM-ERROR
abbrev pub slot_condition : ConditionKind → List Val → Condition
slot_condition kind (c ∷ (i ∷ (name ∷ vs))) = record { kind = kind; items = name ∷ i ∷ [] }
slot_condition kind vs = record { kind = ProgramError; items = [] }

-- ---- no-applicable-method signals that, of a generic function, which is told by its name, and the arguments of its call

-- the name of a function that there is, else the value itself
abbrev pub name_or : Val → Option Function → Val
name_or v None = v
name_or v (Some f) = called_value f.name

-- a generic function is told by its name; another value, which a program may give, is told as it is
abbrev pub told : State → Val → Val
told w (generic n) = name_or (generic n) (slice_get w.generics.functions n)
told w v = v

-- ---- any of them

-- by the function; too few arguments are PROGRAM-ERROR
abbrev pub system_method_run : Eval → SystemFunction → List Val → Run
system_method_run ev InitializeInstance (v ∷ initargs) w s = initialize ev initargs (instance_in v) w s
system_method_run ev ReinitializeInstance (v ∷ initargs) w s = reinitialize ev initargs (instance_in v) w s
system_method_run ev SharedInitialize (v ∷ (names ∷ initargs)) w s = shared_initialize ev v names initargs w s
system_method_run ev SlotUnbound vs w s = Stopped (slot_condition UnboundSlot vs) w s
system_method_run ev SlotMissing vs w s = Stopped (slot_condition MissingSlot vs) w s
system_method_run ev of_system.NoApplicableMethod (f ∷ vs) w s = stopped NoApplicableMethod (told w f ∷ vs) w s
system_method_run ev of_system.NoNextMethod (f ∷ (m ∷ vs)) w s = stopped NoNextMethod (m ∷ []) w s
system_method_run ev UpdateInstanceForRedefinedClass (v ∷ (added ∷ (discarded ∷ (properties ∷ initargs)))) w s =
    redefined ev (v ∷ added ∷ discarded ∷ properties ∷ initargs) added initargs (instance_in v) w s
system_method_run ev UpdateInstanceForDifferentClass (previous ∷ (current ∷ initargs)) w s = different ev previous current initargs (instance_in previous) w s
system_method_run ev f vs w s = stopped ProgramError [] w s
