-- What definition forms do once their forms are evaluated (HyperSpec 7.7): the checks again, now with the values, and then one step for the
-- whole of the effect.
use Rattle.std.specs.Prelude.{ℕ, List, [], length, slice_get, Option, Some, None, Result, Ok, Err}
use Rattle.lisp_data.specs.Value.{Val, class, generic, list, method, nil}
use Rattle.clos_forms.specs.declared.operator.FunctionName.{FunctionName}
use Rattle.clos_machine.specs.clos_world.clos_generic.Table.{number}
use Rattle.clos_syntax.specs.clos_defclass.declared.class.ClassDefinition.{ClassDefinition}
use Rattle.clos_syntax.specs.declared.generic.GenericDefinition.{GenericDefinition}
use Rattle.clos_syntax.specs.declared.method.MethodDefinition.{MethodDefinition}
use Rattle.clos_machine.specs.clos_world.World.{State}
use Rattle.clos_machine.specs.clos_world.declared.condition.Condition.{Condition}
use Rattle.clos_effects.specs.clos_definition.Class.{class_concerned, class_number, class_refusal, with_defined_class}
use Rattle.clos_effects.specs.clos_definition.Generic.{generic_concerned, generic_refusal, with_defined_generic}
use Rattle.clos_effects.specs.clos_definition.Method.{method_concerned, method_refusal, with_defined_method}
use Rattle.clos_effects.specs.clos_definition.Removal.{concerned_by_removal, removable, with_removed}
use Rattle.clos_machine.specs.clos_meaning.Outcome.{Run, Stopped}
use Rattle.clos_machine.specs.clos_world.clos_cache.Cache.{Change}
use Rattle.clos_effects.specs.Effects.{takes_effect}

-- it goes on where nothing is wrong
abbrev pub unless : Option Condition → Run → Run
unless None go w k = go w k
unless (Some c) go w k = Stopped c w k

-- ---- defmethod

-- with the values of the eql forms, which may refuse it too; the method is given
abbrev pub method_made : FunctionName → MethodDefinition → List (Option Val) → Run
method_made name m vs w k =
    unless (method_refusal name m (Some vs) w) (takes_effect (method_concerned name m vs w) (method (length w.generics.methods)) (with_defined_method name m vs w)) w k

-- ---- defgeneric

-- with the values of the eql forms of its own methods; the generic function is given
abbrev pub generic_made : GenericDefinition → List (Option Val) → Run
generic_made d vs w k =
    unless (generic_refusal d (Some vs) w) (takes_effect (generic_concerned d vs w) (generic (number w.generics d.name)) (with_defined_generic d vs w)) w k

-- ---- defclass

-- with the values of the initforms of its shared slots, evaluated this once; the class is given
abbrev pub class_made : ClassDefinition → List (Option Val) → Run
class_made d vs w k = unless (class_refusal d (length vs) w) (takes_effect (class_concerned d vs w) (class (class_number d w)) (with_defined_class d vs w)) w k

-- ---- remove-method

-- the function is given, also where the method is not one of its own
abbrev pub removed_if : Val → Result (ℕ × ℕ) Condition → Run
removed_if function (Err c) w k = Stopped c w k
removed_if function (Ok p) w k = takes_effect (concerned_by_removal p.0 p.1 w.generics) function (with_removed p.0 p.1 w) w k

-- a value of a wrong type, or a method of the system, is a condition, and takes no step
abbrev pub method_removed : Val → Val → Run
method_removed function m w k = removed_if function (removable function m) w k

-- the value that a form gave; NIL where there was no form
abbrev pub object_in : Option (Option Val) → Val
object_in None = list nil
object_in (Some None) = list nil
object_in (Some (Some v)) = v

-- by the place of its form among those that were evaluated
abbrev pub value_at : List (Option Val) → ℕ → Val
value_at vs n = object_in (slice_get vs n)

-- the value of the first form is the function, that of the second the method
abbrev pub values_removed : List (Option Val) → Run
values_removed vs w k = method_removed (value_at vs 0) (value_at vs 1) w k

-- the calls that it concerns
abbrev pub concerned_if : Result (ℕ × ℕ) Condition → State → List Change
concerned_if (Err c) w = []
concerned_if (Ok p) w = concerned_by_removal p.0 p.1 w.generics

abbrev pub values_concerned : List (Option Val) → State → List Change
values_concerned vs w = concerned_if (removable (value_at vs 0) (value_at vs 1)) w
