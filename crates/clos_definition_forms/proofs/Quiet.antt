-- With no step left a definition changes nothing.
use Rattle.std.proofs.Common.{◌≡◌, List, [], ◌∷◌, Option, Some, None, map, length}
use Rattle.clos_forms.specs.Form.{Form}
use Rattle.clos_forms.specs.declared.operator.FunctionName.{FunctionName}
use Rattle.clos_syntax.specs.clos_defclass.declared.class.ClassDefinition.{ClassDefinition}
use Rattle.clos_syntax.specs.declared.generic.GenericDefinition.{GenericDefinition}
use Rattle.clos_syntax.specs.declared.method.MethodDefinition.{MethodDefinition}
use Rattle.clos_eval.specs.clos_machine.clos_world.World.{State}
use Rattle.clos_making.specs.clos_effects.clos_definition.Class.{cells_needed, class_refusal, initforms}
use Rattle.clos_making.specs.clos_effects.clos_definition.Generic.{eql_forms, generic_refusal}
use Rattle.clos_making.specs.clos_effects.clos_definition.Method.{eql_form, method_refusal}
use Rattle.clos_eval.specs.clos_machine.clos_meaning.Outcome.{leaves}
use Rattle.clos_definition_forms.specs.Definition.{define_class, define_generic, define_method, remove_method}
use Rattle.clos_making.specs.Made.{class_made, generic_made, method_made, values_removed}
use Rattle.clos_definition_forms.specs.Forms.{forms_evaluated}
use Rattle.clos_definition_forms.proofs.Evaluated.{forms_quiet}
use Rattle.clos_making.proofs.Quiet.{class_made_quiet, generic_made_quiet, method_made_quiet, unless_quiet, values_removed_quiet}

-- ---- defmethod

pub method_forms_quiet : (name : FunctionName) (m : MethodDefinition) (w : State) → w.locals ≡ [] → leaves (forms_evaluated (map eql_form m.specializers) [] (method_made name m) w 0) w 0
method_forms_quiet name m w e = forms_quiet (map eql_form m.specializers) [] (method_made name m) w e (λ vs. method_made_quiet name m vs w)

pub define_method_quiet : (name : FunctionName) (m : MethodDefinition) (w : State) → w.locals ≡ [] → leaves (define_method name m w 0) w 0
define_method_quiet name m w e =
    unless_quiet (method_refusal name m None w) (forms_evaluated (map eql_form m.specializers) [] (method_made name m)) w (method_forms_quiet name m w e)

-- ---- defgeneric

pub generic_forms_quiet : (d : GenericDefinition) (w : State) → w.locals ≡ [] → leaves (forms_evaluated (eql_forms d.methods) [] (generic_made d) w 0) w 0
generic_forms_quiet d w e = forms_quiet (eql_forms d.methods) [] (generic_made d) w e (λ vs. generic_made_quiet d vs w)

pub define_generic_quiet : (d : GenericDefinition) (w : State) → w.locals ≡ [] → leaves (define_generic d w 0) w 0
define_generic_quiet d w e = unless_quiet (generic_refusal d None w) (forms_evaluated (eql_forms d.methods) [] (generic_made d)) w (generic_forms_quiet d w e)

-- ---- defclass

pub class_forms_quiet : (d : ClassDefinition) (fs : List (Option Form)) (w : State) → w.locals ≡ [] → leaves (forms_evaluated fs [] (class_made d) w 0) w 0
class_forms_quiet d fs w e = forms_quiet fs [] (class_made d) w e (λ vs. class_made_quiet d vs w)

pub define_class_quiet : (d : ClassDefinition) (w : State) → w.locals ≡ [] → leaves (define_class d w 0) w 0
define_class_quiet d w e =
    unless_quiet (class_refusal d (length (cells_needed d w)) w) (forms_evaluated (initforms (cells_needed d w)) [] (class_made d)) w
    (class_forms_quiet d (initforms (cells_needed d w)) w e)

-- ---- remove-method

pub remove_method_quiet : (f m : Form) (w : State) → w.locals ≡ [] → leaves (remove_method f m w 0) w 0
remove_method_quiet f m w e = forms_quiet (Some f ∷ Some m ∷ []) [] values_removed w e (λ vs. values_removed_quiet vs w)
