-- Places and what stores into them (HyperSpec 5.1, 5.3 setf, 12.2 incf, 7.7 slot-value).
use Rattle.std.specs.Prelude.{List, [], ◌∷◌, Option, Some, None, ◌||◌, ◌==◌, nat_le, codes, if◌then◌else◌}
use Rattle.lisp_data.specs.Name.{Name}
use Rattle.lisp_data.specs.Datum.{Dat, integer, symbol, string, list, dotted, method, Dats, nil, cons, length_of}
use Rattle.clos_forms.specs.Fault.{◌>>=◌}
use Rattle.clos_forms.specs.FunctionName.{symbol_in, unless_constant}
use Rattle.clos_names.specs.Names.{is_called, is_one_of, definitions}
use Rattle.clos_forms.specs.Operator.{Operator, place, variable_place, slot_value_place, call_place, setf}
use Rattle.clos_forms.specs.Part.{Part, Shape, shape, operation, in_role, in_roles}
use Rattle.clos_names.specs.Special.{special_operators}
use Rattle.clos_forms.specs.declared.part.Role.TheVariants.{Expression, Place}

-- a call of an operator that is no form's own
abbrev pub named_place : Name → Dats → Option Shape
named_place name rest =
    if is_called (codes "SLOT-VALUE") name then (if length_of rest == 2 then Some (operation (place slot_value_place) rest) else None)
    else if is_one_of special_operators name || is_one_of definitions name then None
    else Some (operation (place (call_place name)) rest)

-- a symbol, and then the subforms of the place that it names
abbrev pub listed_place : Dats → Option Shape
listed_place nil = None
listed_place (cons head rest) = symbol_in head >>= λ n. named_place n rest

-- a variable that may be set, or a list that begins with a symbol (5.1.2)
abbrev pub place_shape : Dat → Option Shape
place_shape (integer n) = None
place_shape (symbol name) = unless_constant name >>= λ n. Some (shape (place (variable_place n)) [])
place_shape (string s) = None
place_shape (list l) = listed_place l
place_shape (dotted l d) = None
place_shape (method n) = None

-- places, each with its new value
abbrev pub setf_parts : Dats → Option (List Part)
setf_parts nil = Some []
setf_parts (cons p nil) = None
setf_parts (cons p (cons d l)) = setf_parts l >>= λ ps. Some (in_role Place p ∷ (in_role Expression d ∷ ps))

-- any number of places, each with its new value (5.3 setf)
abbrev pub setf_shape : Dats → Option Shape
setf_shape l = setf_parts l >>= λ ps. Some (shape setf ps)

-- a place, and at most one amount
abbrev pub change_shape : Operator → Dats → Option Shape
change_shape o nil = None
change_shape o (cons p rest) = if nat_le (length_of rest) 1 then Some (shape o (in_role Place p ∷ in_roles Expression rest)) else None
