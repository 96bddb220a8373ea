-- What calls are told to do with a slot of an instance.
use Rattle.std.specs.Prelude.{◌≡◌, ℕ, codes, List, [], ◌∷◌, Option, Some, None, Result, Ok, Err}
use Rattle.lisp_data.specs.Name.{Name}
use Rattle.lisp_data.specs.Value.{Val, instance}
use Rattle.lisp_data.specs.declared.ids.InstanceId.{InstanceId}
use Rattle.clos_forms.specs.Quotation.{name_value}
use Rattle.clos_machine.specs.clos_world.World.{State}
use Rattle.clos_machine.specs.clos_world.declared.condition.Condition.{Condition}
use Rattle.clos_machine.specs.clos_world.declared.condition.Stop.{Stop}
use Rattle.clos_machine.specs.clos_world.declared.condition.Stop.TheVariants.{Refused, Storage}
use Rattle.clos_machine.specs.clos_meaning.Slots.{class_value, operation_name}

-- ---- arguments by their number

abbrev pub two_of : List Val → Option (Val × Val)
two_of [] = None
two_of (a ∷ []) = None
two_of (a ∷ (b ∷ [])) = Some (a, b)
two_of (a ∷ (b ∷ (c ∷ vs))) = None

abbrev pub three_of : List Val → Option (Val × (Val × Val))
three_of [] = None
three_of (a ∷ []) = None
three_of (a ∷ (b ∷ [])) = None
three_of (a ∷ (b ∷ (c ∷ []))) = Some (a, (b, c))
three_of (a ∷ (b ∷ (c ∷ (d ∷ vs)))) = None

-- the instance and the slot that values designate, or why not
abbrev pub DesignatesSlot : Result (ℕ × Name) Condition → Result (InstanceId × Name) Stop → Type 0
DesignatesSlot d (Ok p) = d ≡ Ok (p.0.0, p.1)
DesignatesSlot d (Err (Refused c)) = d ≡ Err c
DesignatesSlot d (Err Storage) = Unit {0}

-- ---- the arguments of slot-missing where a slot was to get this value, or none

abbrev pub changed_arguments : State → ℕ → Name → Option Val → List Val
changed_arguments w i name None = class_value w i ∷ instance i ∷ name_value name ∷ operation_name (codes "SLOT-MAKUNBOUND") ∷ []
changed_arguments w i name (Some new) = class_value w i ∷ instance i ∷ name_value name ∷ operation_name (codes "SETF") ∷ new ∷ []
