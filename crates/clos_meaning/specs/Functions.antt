-- Any function by its name (HyperSpec 3.1.2.1.2.3), and places (5.1.1).
use Rattle.std.specs.Prelude.{List}
use Rattle.lisp_data.specs.Name.{Name}
use Rattle.lisp_data.specs.Value.{Val}
use Rattle.lisp_prims.specs.Primitive.{answer}
use Rattle.clos_forms.specs.declared.operator.FunctionName.TheVariants.{Symbol}
use Rattle.clos_world.specs.clos_generic.Table.{named}
use Rattle.clos_world.specs.Values.{only_value}
use Rattle.clos_world.specs.World.{class_of}
use Rattle.clos_forms.specs.clos_names.Callee.{callee_of}
use Rattle.clos_meaning.specs.Calls.{called_function, called_setter}
use Rattle.clos_meaning.specs.ChangeClass.{change_called}
use Rattle.clos_meaning.specs.ClassFunctions.{class_answer, comes_to}
use Rattle.clos_meaning.specs.Contexts.{Context}
use Rattle.clos_meaning.specs.Fault.{answered}
use Rattle.clos_meaning.specs.FindMethod.{method_answer}
use Rattle.clos_meaning.specs.Initialization.{instance_made}
use Rattle.clos_meaning.specs.Natives.{native_called}
use Rattle.clos_meaning.specs.Outcome.{Run, Eval}
use Rattle.clos_meaning.specs.Output.{output_of, line_ended}
use Rattle.clos_meaning.specs.Slots.{slot_called, slot_set}
use Rattle.clos_forms.specs.clos_names.declared.callee.Callee.{Callee}
use Rattle.clos_forms.specs.clos_names.declared.callee.Callee.TheVariants.{Output, Terpri, Primitive, MakeInstance, ChangeClass, FindMethod, NativeCall, ClassFunction, SlotFunction, Defined}
use Rattle.clos_forms.specs.clos_names.declared.callee.SlotFunction.TheVariants.{SlotValue}

-- what the function does with the values of its arguments; a defined one is found by its name
abbrev pub applied : Eval → Context → Callee → Name → List Val → Run
applied ev env (Output o) name vs w s = output_of o (only_value vs) w s
applied ev env Terpri name vs w s = line_ended vs w s
applied ev env (Primitive p) name vs w s = answered (answer p vs) w s
applied ev env MakeInstance name vs w s = instance_made ev vs w s
applied ev env ChangeClass name vs w s = change_called ev vs w s
applied ev env FindMethod name vs w s = comes_to (method_answer w.classes w.generics vs) w s
applied ev env NativeCall name vs w s = native_called vs w s
applied ev env (ClassFunction f) name vs w s = comes_to (class_answer f w.classes (class_of w) vs) w s
applied ev env (SlotFunction f) name vs w s = slot_called ev env f vs w s
applied ev env Defined name vs w s = called_function ev name vs (named w.generics (Symbol name)) w s

-- the function is looked up after its arguments were evaluated
abbrev pub called : Eval → Context → Name → List Val → Run
called ev env name vs w s = applied ev env (callee_of name) name vs w s

-- ---- places that have subforms: how they are read with their values, and set with these and the new value after them

-- the slot of an instance, or what functions of this name and of (setf name) tell
pub data Access : Type 0 where
  slot_access : Access
  call_access : Name → Access

-- the value of the place, as its form would give it with these values of its subforms
abbrev pub place_read : Eval → Context → Access → List Val → Run
place_read ev env (call_access name) vs w s = called ev env name vs w s
place_read ev env slot_access vs w s = slot_called ev env SlotValue vs w s

-- the new value comes last; given is what the function (setf name) gives, or the new value of the slot
abbrev pub place_set : Eval → Context → Access → List Val → Run
place_set ev env (call_access name) vs w s = called_setter ev name vs w s
place_set ev env slot_access vs w s = slot_set ev env vs w s
