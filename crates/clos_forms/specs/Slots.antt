-- The variables of with-slots (HyperSpec 7.7 with-slots).
use Rattle.std.specs.Prelude.{List, [], ◌∷◌, Option, Some, None, if◌then◌else◌}
use Rattle.lisp_data.specs.Name.{Name}
use Rattle.lisp_data.specs.Datum.{Dat, integer, symbol, string, list, dotted, method, Dats, nil, cons}
use Rattle.clos_forms.specs.Binding.{each_in}
use Rattle.clos_forms.specs.Body.{body_parts}
use Rattle.clos_forms.specs.Distinct.{are_distinct}
use Rattle.clos_forms.specs.Fault.{◌>>=◌}
use Rattle.clos_forms.specs.FunctionName.{only_symbol_in, variable_in, unless_constant}
use Rattle.clos_forms.specs.Operator.{BoundSlot, with_slots}
use Rattle.clos_forms.specs.Part.{Shape, shape, in_role}
use Rattle.clos_forms.specs.declared.part.Role.TheVariants.{Expression}

-- in the body the variable stands for the slot of this name
abbrev pub slot_entry : Name → Name → BoundSlot
slot_entry variable slot = record { variable = variable; slot = slot }

-- the variables alone, in order
abbrev pub variables_of : List BoundSlot → List Name
variables_of [] = []
variables_of (s ∷ ss) = s.variable ∷ variables_of ss

-- (variable slot), where the variable may be bound
abbrev pub listed_slot : Dats → Option BoundSlot
listed_slot nil = None
listed_slot (cons v rest) = variable_in v >>= λ n. only_symbol_in rest >>= λ slot. Some (slot_entry n slot)

-- a symbol that is variable and slot, or (variable slot). Any symbol names a slot
abbrev pub slot_in : Dat → Option BoundSlot
slot_in (integer n) = None
slot_in (symbol name) = unless_constant name >>= λ n. Some (slot_entry n n)
slot_in (string s) = None
slot_in (list l) = listed_slot l
slot_in (dotted l d) = None
slot_in (method n) = None

-- no variable may stand twice; the parts are the form of the instance, and then the body
abbrev pub slots_with : List BoundSlot → Dat → Dats → Option Shape
slots_with ss instance body =
    if are_distinct (variables_of ss) then Some (shape (with_slots ss) (in_role Expression instance ∷ body_parts body)) else None

-- the entries in a list, which may be written NIL, the form of the instance, and then the body
abbrev pub with_slots_shape : Dats → Option Shape
with_slots_shape nil = None
with_slots_shape (cons entries nil) = None
with_slots_shape (cons entries (cons instance body)) = each_in slot_in entries >>= λ ss. slots_with ss instance body
