-- What the functions of the language are, by their names (HyperSpec 3.1.2.1.2.3).
use Rattle.std.specs.Prelude.{Option, Some, None, codes, if◌then◌else◌}
use Rattle.lisp_data.specs.Name.{Name}
use Rattle.lisp_functions.specs.Primitive.{primitive_of}
use Rattle.lisp_functions.specs.declared.primitive.Primitive as of_values
use Rattle.clos_names.specs.Names.{is_called}
use Rattle.clos_names.specs.declared.callee.Callee.{Callee}
use Rattle.clos_names.specs.declared.callee.Callee.TheVariants.{Output, Terpri, Primitive, MakeInstance, ChangeClass, FindMethod, NativeCall, ClassFunction, SlotFunction, Defined}
use Rattle.clos_names.specs.declared.callee.ClassFunction as of_classes
use Rattle.clos_names.specs.declared.callee.ClassFunction.TheVariants.{ClassOf, ClassName, ClassPrecedenceList, FindClass, Typep}
use Rattle.clos_names.specs.declared.callee.SlotFunction as of_slots
use Rattle.clos_names.specs.declared.callee.SlotFunction.TheVariants.{SlotValue, SlotBoundp, SlotMakunbound, SlotExistsP}
use Rattle.clos_names.specs.declared.callee.Output.TheVariants.{Princ, Prin1, Print}

-- a function of values, where the name is that of one; else what the program or the system may have defined
abbrev pub value_function : Option of_values.Primitive → Callee
value_function None = Defined
value_function (Some p) = Primitive p

-- class-of, class-name, find-class and typep; and class-precedence-list, which the standard does not have
abbrev pub class_function_of : Name → Option of_classes.ClassFunction
class_function_of name =
    if is_called (codes "CLASS-OF") name then Some ClassOf
    else if is_called (codes "CLASS-NAME") name then Some ClassName
    else if is_called (codes "CLASS-PRECEDENCE-LIST") name then Some ClassPrecedenceList
    else if is_called (codes "FIND-CLASS") name then Some FindClass
    else if is_called (codes "TYPEP") name then Some Typep
    else None

-- where the name is that of no function of classes, what it calls otherwise
abbrev pub class_function : Option of_classes.ClassFunction → Callee → Callee
class_function None other = other
class_function (Some f) other = ClassFunction f

-- slot-value, slot-boundp, slot-makunbound and slot-exists-p (7.7)
abbrev pub slot_function_of : Name → Option of_slots.SlotFunction
slot_function_of name =
    if is_called (codes "SLOT-VALUE") name then Some SlotValue
    else if is_called (codes "SLOT-BOUNDP") name then Some SlotBoundp
    else if is_called (codes "SLOT-MAKUNBOUND") name then Some SlotMakunbound
    else if is_called (codes "SLOT-EXISTS-P") name then Some SlotExistsP
    else None

-- where the name is that of no function of slots, a function of values or a defined one
abbrev pub slot_function : Option of_slots.SlotFunction → Name → Callee
slot_function None name = value_function (primitive_of name)
slot_function (Some f) name = SlotFunction f

-- what a call of the name calls
abbrev pub callee_of : Name → Callee
callee_of name =
    if is_called (codes "PRINC") name then Output Princ
    else if is_called (codes "PRIN1") name then Output Prin1
    else if is_called (codes "PRINT") name then Output Print
    else if is_called (codes "TERPRI") name then Terpri
    else if is_called (codes "MAKE-INSTANCE") name then MakeInstance
    else if is_called (codes "CHANGE-CLASS") name then ChangeClass
    else if is_called (codes "FIND-METHOD") name then FindMethod
    else if is_called (codes "NATIVE-CALL") name then NativeCall
    else class_function (class_function_of name) (slot_function (slot_function_of name) name)
