-- What definition forms do (HyperSpec 7.7): all checks come first, then the forms that are evaluated, then the checks again, now with
-- their values, and last one step for the whole of the effect.
use Rattle.std.specs.Prelude.{[], ◌∷◌, length, map, Some, None}
use Rattle.clos_forms.specs.Form.{Form}
use Rattle.clos_forms.specs.declared.operator.FunctionName.{FunctionName}
use Rattle.clos_syntax.specs.clos_defclass.declared.class.ClassDefinition.{ClassDefinition}
use Rattle.clos_syntax.specs.declared.generic.GenericDefinition.{GenericDefinition}
use Rattle.clos_syntax.specs.declared.method.MethodDefinition.{MethodDefinition}
use Rattle.clos_making.specs.clos_effects.clos_definition.Class.{cells_needed, class_refusal, initforms}
use Rattle.clos_making.specs.clos_effects.clos_definition.Generic.{eql_forms, generic_refusal}
use Rattle.clos_making.specs.clos_effects.clos_definition.Method.{eql_form, method_refusal}
use Rattle.clos_eval.specs.clos_machine.clos_meaning.Outcome.{Run}
use Rattle.clos_making.specs.Made.{class_made, generic_made, method_made, unless, values_removed}
use Rattle.clos_definition_forms.specs.Forms.{forms_evaluated}

-- ---- defmethod

-- the eql forms are evaluated only where nothing stands against it without their values
abbrev pub define_method : FunctionName → MethodDefinition → Run
define_method name m w k = unless (method_refusal name m None w) (forms_evaluated (map eql_form m.specializers) [] (method_made name m)) w k

-- ---- defgeneric

-- the eql forms of its :method options, in order, where nothing stands against it without their values
abbrev pub define_generic : GenericDefinition → Run
define_generic d w k = unless (generic_refusal d None w) (forms_evaluated (eql_forms d.methods) [] (generic_made d)) w k

-- ---- defclass

-- A new class, of whose direct superclasses some may not be defined yet; or one that is defined, and is defined again (4.3.6).
abbrev pub define_class : ClassDefinition → Run
define_class d w k = unless (class_refusal d (length (cells_needed d w)) w) (forms_evaluated (initforms (cells_needed d w)) [] (class_made d)) w k

-- ---- remove-method

-- from left to right, each form by itself
abbrev pub remove_method : Form → Form → Run
remove_method function m w k = forms_evaluated (Some function ∷ Some m ∷ []) [] values_removed w k
