-- Methods that are defined (HyperSpec 7.6.2, 7.7 defmethod).
use Rattle.std.specs.Prelude.{ℕ, is_none, is_some, List, [], ◌∷◌, Option, Some, None, drop, unwrap_or, if◌then◌else◌}
use Rattle.lisp_data.specs.Datum.{Dats}
use Rattle.lisp_data.specs.Datum as datum
use Rattle.lisp_data.specs.Print.{Specializer, on_class, on_eql}
use Rattle.lisp_data.specs.Value.{Val, list, nil}
use Rattle.clos_class.specs.Table as classes
use Rattle.clos_forms.specs.Form.{Form}
use Rattle.clos_forms.specs.Quotation.{quotation}
use Rattle.clos_forms.specs.declared.operator.FunctionName.{FunctionName}
use Rattle.clos_syntax.specs.declared.method.MethodDefinition.{MethodDefinition}
use Rattle.clos_syntax.specs.declared.method.ParameterSpecializer.{ParameterSpecializer}
use Rattle.clos_syntax.specs.declared.method.ParameterSpecializer.TheVariants.{Class, Eql}
use Rattle.clos_cache.specs.Cache.{Change}
use Rattle.clos_generic.specs.Changes.{Changes}
use Rattle.clos_generic.specs.Initial.{standard_options}
use Rattle.clos_generic.specs.Table.{Table, named as function_named, number}
use Rattle.clos_generic.specs.declared.changes.Addition.{Addition}
use Rattle.clos_generic.specs.declared.changes.Definition.{Definition}
use Rattle.clos_method.specs.Shape.{made_by, shape_of}
use Rattle.clos_method.specs.declared.method.Method.{Method}
use Rattle.clos_method.specs.declared.method.MethodBody.TheVariants.{Forms}
use Rattle.clos_method.specs.declared.origin.Origin.{Origin}
use Rattle.clos_method.specs.declared.origin.Origin.TheVariants.{Defmethod}
use Rattle.clos_method.specs.declared.shape.Shape.{Shape}
use Rattle.clos_world.specs.Class.{named}
use Rattle.clos_world.specs.World.{State}
use Rattle.clos_world.specs.declared.condition.Condition.{Condition}
use Rattle.clos_definition.specs.Effect.{changes_of, changing, concerned}
use Rattle.clos_definition.specs.Refusal.{or_else, table_refusal, taken_refusal, undefined_class, when}

-- ---- qualifiers: atoms, as they would be quoted

abbrev pub qualifiers_of : Dats → List Val
qualifiers_of datum.nil = []
qualifiers_of (datum.cons d l) = unwrap_or (quotation d) (list nil) ∷ qualifiers_of l

-- ---- specializers: classes, which have to be defined, and objects, to which forms evaluate

abbrev pub specializer_refusal : State → ParameterSpecializer → Option Condition
specializer_refusal w (Class name) = when (is_none (named w.classes name)) (undefined_class name)
specializer_refusal w (Eql f) = None

-- the first class that is not defined
abbrev pub specializers_refusal : List ParameterSpecializer → State → Option Condition
specializers_refusal [] w = None
specializers_refusal (s ∷ ss) w = or_else (specializer_refusal w s) (specializers_refusal ss w)

-- the form that is evaluated for it
abbrev pub eql_form : ParameterSpecializer → Option Form
eql_form (Class name) = None
eql_form (Eql f) = Some f

-- where its class is defined, and its form gave this value
abbrev pub specializer_with : classes.Table → ParameterSpecializer → Option Val → Specializer
specializer_with t (Class name) v = on_class (unwrap_or (named t name) 0)
specializer_with t (Eql f) v = on_eql (unwrap_or v (list nil))

abbrev pub first_value : List (Option Val) → Option Val
first_value [] = None
first_value (v ∷ vs) = v

-- Of the values there is one for each specializer, or more.
abbrev pub specializers_with : classes.Table → List ParameterSpecializer → List (Option Val) → List Specializer
specializers_with t [] vs = []
specializers_with t (s ∷ ss) vs = specializer_with t s (first_value vs) ∷ specializers_with t ss (drop 1 vs)

-- ---- methods

-- of the function of this number; what makes it is a defmethod or a :method option
abbrev pub method_with : classes.Table → ℕ → Origin → MethodDefinition → List (Option Val) → Method
method_with t g origin m vs = record {
  generic = record { 0 = g };
  qualifiers = qualifiers_of m.qualifiers;
  specializers = specializers_with t m.specializers vs;
  shape = shape_of m.lambda_list;
  origin = origin;
  body = Forms m.lambda_list m.body;
}

-- its addition where the forms of its specializers are not evaluated yet
abbrev pub open_addition : ℕ → MethodDefinition → Addition
open_addition g m = record { generic = record { 0 = g }; shape = shape_of m.lambda_list; likeness = None }

-- ---- defmethod

-- the function that it makes where there is none (7.6.4)
abbrev pub function_for : Table → FunctionName → Shape → List Definition
function_for t name shape = if is_some (function_named t name) then [] else (record { name = name; options = standard_options (made_by shape) } ∷ [])

abbrev pub defined_method : FunctionName → MethodDefinition → List (Option Val) → State → Method
defined_method name m vs w = method_with w.classes (number w.generics name) Defmethod m vs

-- where the values of the forms of its specializers are known, or not
abbrev pub method_changes : FunctionName → MethodDefinition → Option (List (Option Val)) → State → Changes
method_changes name m None w = record {
  removals = [];
  definitions = function_for w.generics name (shape_of m.lambda_list);
  additions = open_addition (number w.generics name) m ∷ [];
}
method_changes name m (Some vs) w = changes_of [] (function_for w.generics name (shape_of m.lambda_list)) (defined_method name m vs w ∷ [])

-- why it can't be defined: the name is a function's, a class is not defined, or the table of generic functions refuses it
abbrev pub method_refusal : FunctionName → MethodDefinition → Option (List (Option Val)) → State → Option Condition
method_refusal name m vs w =
    or_else (taken_refusal name w) (or_else (specializers_refusal m.specializers w) (table_refusal name (method_changes name m vs w) w))

-- the state after it is defined
abbrev pub with_defined_method : FunctionName → MethodDefinition → List (Option Val) → State → State
with_defined_method name m vs w =
    changing [] (function_for w.generics name (shape_of m.lambda_list)) (defined_method name m vs w ∷ []) w

-- the calls that it concerns
abbrev pub method_concerned : FunctionName → MethodDefinition → List (Option Val) → State → List Change
method_concerned name m vs w = concerned [] (function_for w.generics name (shape_of m.lambda_list)) (defined_method name m vs w ∷ []) w.generics
