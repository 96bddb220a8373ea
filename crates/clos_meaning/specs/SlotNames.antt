-- Names that stand for the slots of an object (HyperSpec 7.7 `with-slots`).
use Rattle.std.specs.Prelude.{List, [], ◌∷◌, ◌++◌, map, Option, Some, None, length}
use Rattle.lisp_data.specs.Name.{Name}
use Rattle.lisp_data.specs.Value.{Val, list, nil}
use Rattle.clos_forms.specs.Form.{Forms}
use Rattle.clos_forms.specs.Operator.{BoundSlot}
use Rattle.clos_forms.specs.Quotation.{name_value}
use Rattle.clos_world.specs.Values.{only_value}
use Rattle.clos_world.specs.World.{State, Denoted, held, in_slot, Local, bound_as, local_named}
use Rattle.clos_meaning.specs.Assignment.{stored_only}
use Rattle.clos_meaning.specs.Contexts.{Context}
use Rattle.clos_meaning.specs.Functions.{place_read, place_set, slot_access}
use Rattle.clos_meaning.specs.Outcome.{Run, Eval}
use Rattle.clos_meaning.specs.Variables.{found_value, init_form, variable_value, within}

-- ---- with-slots: the first form gives an object, for whose slots the names stand in the body

-- a name with the slot for which it stands; whether the object has it is asked when it is used
abbrev pub slot_local : Val → BoundSlot → Local
slot_local object b = (b.variable, in_slot b.slot object)

-- all of one object, whose form was evaluated once
abbrev pub slot_locals : List BoundSlot → Val → List Local
slot_locals bs object = map (slot_local object) bs

-- in the body these names hide all that are like them, global variables too; after it they are gone
abbrev pub within_slots : Eval → Context → List BoundSlot → Forms → Val → Run
within_slots ev env bs fs object w s = within ev env (length w.locals) fs (list nil) (bound_as (slot_locals bs object ++ w.locals) w) s

-- the form of the object is evaluated outside of the names
abbrev pub with_slots : Eval → Context → List BoundSlot → Forms → Run
with_slots ev env bs fs w s = init_form ev env fs (λ rest object. within_slots ev env bs rest object) w s

-- ---- a name that stands for a slot is read and set as the place (slot-value object 'slot)

-- the arguments of that place
abbrev pub slot_place : Option Denoted → Option (List Val)
slot_place None = None
slot_place (Some (held v)) = None
slot_place (Some (in_slot slot object)) = Some (object ∷ name_value slot ∷ [])

-- none where the innermost of this name is a variable, or where there is no such lexical name
abbrev pub place_denoted : State → Name → Option (List Val)
place_denoted w name = slot_place (local_named w.locals name)

-- such a place, or a variable
abbrev pub name_read : Eval → Context → Name → Option (List Val) → Run
name_read ev env name None w s = variable_value name (found_value w name) w s
name_read ev env name (Some place) w s = place_read ev env slot_access place w s

-- the same, where it is set: the new value follows the arguments of the place
abbrev pub name_set : Eval → Context → Name → Option (List Val) → List Val → Run
name_set ev env name None vs w s = stored_only name (only_value vs) w s
name_set ev env name (Some place) vs w s = place_set ev env slot_access (place ++ vs) w s

-- the place gets the one value that is there
abbrev pub name_stored : Eval → Context → Name → List Val → Run
name_stored ev env name vs w s = name_set ev env name (place_denoted w name) vs w s
