-- The slots of instances by their names (HyperSpec 7.5.1, 7.5.2; 7.7 slot-value, slot-boundp, slot-makunbound and slot-exists-p).
use Rattle.std.specs.Prelude.{ℕ, Bool, false, codes, List, [], ◌∷◌, Option, Some, None, is_some, Result, Ok, Err}
use Rattle.std.specs.List.{find}
use Rattle.lisp_data.specs.Name.{Name, same_name}
use Rattle.lisp_data.specs.Value.{Val, class, instance, symbol}
use Rattle.lisp_prims.specs.Primitive.{truth}
use Rattle.clos_forms.specs.Quotation.{name_value}
use Rattle.clos_world.specs.clos_class.Slots.{effective_slots}
use Rattle.clos_world.specs.clos_class.SlotsView.{direct_slots}
use Rattle.clos_world.specs.clos_class.Table.{Table}
use Rattle.clos_world.specs.clos_store.Store.{slot_found, with_slot}
use Rattle.clos_world.specs.Class.{precedence_or_none}
use Rattle.clos_world.specs.World.{State, class_of, class_of_instance}
use Rattle.clos_world.specs.declared.condition.Condition.{Condition}
use Rattle.clos_world.specs.declared.condition.ConditionKind.TheVariants.{ProgramError}
use Rattle.clos_world.specs.clos_method.declared.system.SystemFunction.TheVariants.{SlotUnbound, SlotMissing}
use Rattle.clos_meaning.specs.ClassFunctions.{symbol_in, wrong_type}
use Rattle.clos_meaning.specs.Contexts.{Context}
use Rattle.clos_meaning.specs.GenericCalls.{invoked}
use Rattle.clos_meaning.specs.Outcome.{Gave, Stopped, Run, Eval, then_do, step_then, gave, stopped, is_true}
use Rattle.clos_meaning.specs.Updating.{updated}
use Rattle.clos_forms.specs.clos_names.declared.callee.SlotFunction.{SlotFunction}
use Rattle.clos_forms.specs.clos_names.declared.callee.SlotFunction.TheVariants.{SlotValue, SlotBoundp, SlotMakunbound, SlotExistsP}

-- ---- an instance and the name of a slot

-- an instance that make-instance made; any other value has no slots, and is of a wrong type
abbrev pub instance_in : Val → Result ℕ Condition
instance_in (instance i) = Ok i
instance_in v = Err (wrong_type v)

-- a slot is named by a symbol; another value is of a wrong type
abbrev pub slot_by : ℕ → Val → Option Name → Result (ℕ × Name) Condition
slot_by i v None = Err (wrong_type v)
slot_by i v (Some name) = Ok (i, name)

-- the instance is looked at before the name, so its condition comes first
abbrev pub slot_of : Result ℕ Condition → Val → Result (ℕ × Name) Condition
slot_of (Err c) name = Err c
slot_of (Ok i) name = slot_by i name (symbol_in name)

-- what the two arguments designate, whether the instance has such a slot or not
abbrev pub slot_designated : Val → Val → Result (ℕ × Name) Condition
slot_designated v name = slot_of (instance_in v) name

-- ---- what is called where an instance has no slot of this name, or one that is unbound

-- what is done with a slot, as slot-missing is told
abbrev pub operation_name : List ℕ → Val
operation_name text = symbol (record { text = text; keyword = false })

-- the class of the instance, which both functions are told first
abbrev pub class_value : State → ℕ → Val
class_value w i = class (class_of w (instance i))

-- slot-missing; a new value is the last of its arguments
abbrev pub missing_called : Eval → ℕ → Name → List ℕ → List Val → Run
missing_called ev i name operation new w s = invoked ev SlotMissing (class_value w i ∷ instance i ∷ name_value name ∷ operation_name operation ∷ new) w s

-- slot-unbound; what it gives is the value of the access
abbrev pub unbound_called : Eval → ℕ → Name → Run
unbound_called ev i name w s = invoked ev SlotUnbound (class_value w i ∷ instance i ∷ name_value name ∷ []) w s

-- ---- what is done with a slot

-- the value of the slot, or that of the call
abbrev pub slot_read : Eval → Context → ℕ → Name → Option (Option Val) → Run
slot_read ev env i name None w s = missing_called ev i name (codes "SLOT-VALUE") [] w s
slot_read ev env i name (Some None) w s = unbound_called ev i name w s
slot_read ev env i name (Some (Some v)) w s = Gave v w s

-- whether it has a value, or whether that of the call is true
abbrev pub slot_tested : Eval → Context → ℕ → Name → Option (Option Val) → Run
slot_tested ev env i name None w s = then_do (missing_called ev i name (codes "SLOT-BOUNDP") [] w s) (λ v. gave (truth (is_true v)))
slot_tested ev env i name (Some value) w s = Gave (truth (is_some value)) w s

-- a missing slot is to be changed: slot-missing is told SLOT-MAKUNBOUND, or SETF and the new value
abbrev pub missing_changed : Eval → ℕ → Name → Option Val → Run
missing_changed ev i name None w s = missing_called ev i name (codes "SLOT-MAKUNBOUND") [] w s
missing_changed ev i name (Some new) w s = missing_called ev i name (codes "SETF") (new ∷ []) w s

-- a slot has this value, or none; this other value is given
abbrev pub slot_stored : ℕ → Name → Option Val → Val → Run
slot_stored i name value v w s = Gave v (record w { store = with_slot i name value w.store }) s

-- the same of a slot that may be missing, in one step; the value of the call is not used
abbrev pub slot_changed : Eval → Context → ℕ → Name → Option Val → Val → Option (Option Val) → Run
slot_changed ev env i name value v None w s = then_do (missing_changed ev i name value w s) (λ x. gave v)
slot_changed ev env i name value v (Some old) w s = step_then (slot_stored i name value v) w s

-- the slot of an instance has this value, or none; this other value is given, also where slot-missing was called
abbrev pub slot_put : Eval → Context → ℕ → Name → Option Val → Val → Run
slot_put ev env i name value v w s = slot_changed ev env i name value v (slot_found w.store i name) w s

-- whether a class gives its instances a slot of this name
abbrev pub has_slot : Table → Option ℕ → Name → Bool
has_slot t None name = false
has_slot t (Some c) name = is_some (find (λ s. same_name name s.name) (effective_slots (direct_slots t.slots) (precedence_or_none t c)))

-- ---- the functions of slots

-- slot-exists-p asks the class of the instance alone, and never calls slot-missing
abbrev pub slot_answer : Eval → Context → SlotFunction → ℕ → Name → Run
slot_answer ev env SlotValue i name w s = slot_read ev env i name (slot_found w.store i name) w s
slot_answer ev env SlotBoundp i name w s = slot_tested ev env i name (slot_found w.store i name) w s
slot_answer ev env SlotMakunbound i name w s = slot_put ev env i name None (instance i) w s
slot_answer ev env SlotExistsP i name w s = Gave (truth (has_slot w.classes (class_of_instance w i) name)) w s

-- all but slot-exists-p look at the slots of the instance, which is updated first
abbrev pub slot_asked : Eval → Context → SlotFunction → ℕ → Name → Run
slot_asked ev env SlotExistsP i name w s = slot_answer ev env SlotExistsP i name w s
slot_asked ev env f i name w s = updated ev i (slot_answer ev env f i name) w s

-- where the arguments are an instance and a symbol, else the condition
abbrev pub slot_applied : Eval → Context → SlotFunction → Result (ℕ × Name) Condition → Run
slot_applied ev env f (Err c) w s = Stopped c w s
slot_applied ev env f (Ok p) w s = slot_asked ev env f p.0 p.1 w s

-- of just two arguments; another number of them is PROGRAM-ERROR
abbrev pub slot_called : Eval → Context → SlotFunction → List Val → Run
slot_called ev env f [] w s = stopped ProgramError [] w s
slot_called ev env f (v ∷ []) w s = stopped ProgramError [] w s
slot_called ev env f (v ∷ (name ∷ [])) w s = slot_applied ev env f (slot_designated v name) w s
slot_called ev env f (v ∷ (name ∷ (x ∷ vs))) w s = stopped ProgramError [] w s

-- ---- slot-value as a place: an instance, a name and the new value

-- the new value is given
abbrev pub slot_given : Eval → Context → Val → Result (ℕ × Name) Condition → Run
slot_given ev env x (Err c) w s = Stopped c w s
slot_given ev env x (Ok p) w s = updated ev p.0 (slot_put ev env p.0 p.1 (Some x) x) w s

-- of just three arguments; another number of them is PROGRAM-ERROR
abbrev pub slot_set : Eval → Context → List Val → Run
slot_set ev env [] w s = stopped ProgramError [] w s
slot_set ev env (v ∷ []) w s = stopped ProgramError [] w s
slot_set ev env (v ∷ (name ∷ [])) w s = stopped ProgramError [] w s
slot_set ev env (v ∷ (name ∷ (x ∷ []))) w s = slot_given ev env x (slot_designated v name) w s
slot_set ev env (v ∷ (name ∷ (x ∷ (y ∷ vs)))) w s = stopped ProgramError [] w s
