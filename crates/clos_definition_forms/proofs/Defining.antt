-- Definition forms that are refused, and those that go on.
use Rattle.std.proofs.Common.{◌≡◌, ℕ, List, [], None, Result, Err, map, length, refl, ap, sym, subst}
use Rattle.std.specs.Prelude.{ℤ}
use Rattle.lisp_data.specs.declared.value.Value.{Value}
use Rattle.clos_making.specs.clos_effects.clos_class.declared.reserve.NewCell.{NewCell}
use Rattle.clos_forms.specs.declared.operator.FunctionName.{FunctionName}
use Rattle.clos_syntax.specs.clos_defclass.declared.class.ClassDefinition.{ClassDefinition}
use Rattle.clos_syntax.specs.declared.generic.GenericDefinition.{GenericDefinition}
use Rattle.clos_syntax.specs.declared.method.MethodDefinition.{MethodDefinition}
use Rattle.clos_eval.specs.clos_machine.clos_world.Uses.{uses_of}
use Rattle.clos_eval.specs.clos_machine.clos_world.World.{seen}
use Rattle.clos_eval.specs.clos_machine.clos_world.declared.condition.Stop.{Stop}
use Rattle.clos_eval.specs.clos_machine.clos_world.declared.tables.World.{World}
use Rattle.clos_making.specs.clos_effects.clos_definition.Class.{cells_needed, class_refusal, initforms}
use Rattle.clos_making.specs.clos_effects.clos_definition.Generic.{eql_forms, generic_refusal}
use Rattle.clos_making.specs.clos_effects.clos_definition.Method.{eql_form, method_refusal}
use Rattle.clos_making.specs.clos_effects.clos_definition.Refusal.{StopsFor}
use Rattle.clos_eval.specs.Evaluation.{Performs}
use Rattle.clos_eval.specs.clos_machine.clos_meaning.Host.{Host}
use Rattle.clos_definition_forms.specs.Definition.{define_class, define_generic, define_method}
use Rattle.clos_making.specs.Made.{class_made, generic_made, method_made, unless}
use Rattle.clos_definition_forms.specs.Forms.{forms_evaluated}
use Rattle.clos_definition_forms.proofs.Quiet.{define_class_quiet, define_generic_quiet, define_method_quiet}
use Rattle.clos_definition_forms.proofs.Evaluated.{performs_alone, performs_as, performs_from}
use Rattle.clos_making.proofs.Making.{stops_at}

-- ---- defmethod

module _ (host : Host) (name : FunctionName) (m : MethodDefinition) (w : World) (s : ℕ) (past : List ℤ) where
  pub method_refused : (stop : Stop) → StopsFor (method_refusal name m None (seen w)) stop → Performs host (define_method name m) w s past (Err stop) w s past
  method_refused stop h =
      performs_alone host (define_method name m) w w s s past (Err stop)
      (stops_at (method_refusal name m None (seen w)) (forms_evaluated (map eql_form m.specializers) [] (method_made name m)) (seen w) (seen w) s stop refl
      (define_method_quiet name m (seen w) refl) h) refl

  pub method_evaluated : (past' : List ℤ) (u : World) (k : ℕ) (r : Result Value Stop) → method_refusal name m None (seen w) ≡ None
      → Performs host (forms_evaluated (map eql_form m.specializers) [] (method_made name m)) w s past r u k past'
      → Performs host (define_method name m) w s past r u k past'
  method_evaluated past' u k r h a =
      let forms = forms_evaluated (map eql_form m.specializers) [] (method_made name m) in
      performs_as host forms (define_method name m) w u s k past past' r (λ i. sym (ap (λ p. unless p forms (seen w) i) h)) a

-- ---- defgeneric

module _ (host : Host) (d : GenericDefinition) (w : World) (s : ℕ) (past : List ℤ) where
  pub generic_refused : (stop : Stop) → StopsFor (generic_refusal d None (seen w)) stop → Performs host (define_generic d) w s past (Err stop) w s past
  generic_refused stop h =
      performs_alone host (define_generic d) w w s s past (Err stop)
      (stops_at (generic_refusal d None (seen w)) (forms_evaluated (eql_forms d.methods) [] (generic_made d)) (seen w) (seen w) s stop refl
      (define_generic_quiet d (seen w) refl) h) refl

  pub generic_evaluated : (past' : List ℤ) (u : World) (k : ℕ) (r : Result Value Stop) → generic_refusal d None (seen w) ≡ None
      → Performs host (forms_evaluated (eql_forms d.methods) [] (generic_made d)) w s past r u k past'
      → Performs host (define_generic d) w s past r u k past'
  generic_evaluated past' u k r h a =
      let forms = forms_evaluated (eql_forms d.methods) [] (generic_made d) in
      performs_as host forms (define_generic d) w u s k past past' r (λ i. sym (ap (λ p. unless p forms (seen w) i) h)) a

-- ---- defclass

-- A class that is not defined is a new one.

module _ (host : Host) (d : ClassDefinition) (w v : World) (s : ℕ) (past : List ℤ) where
  pub class_refused : (stop : Stop) → seen v ≡ seen w → uses_of v ≡ uses_of w → StopsFor (class_refusal d (length (cells_needed d (seen w))) (seen w)) stop
      → Performs host (define_class d) w s past (Err stop) v s past
  class_refused stop e q h =
      performs_alone host (define_class d) w v s s past (Err stop)
      (stops_at (class_refusal d (length (cells_needed d (seen w))) (seen w)) (forms_evaluated (initforms (cells_needed d (seen w))) [] (class_made d)) (seen w)
      (seen v) s stop e (define_class_quiet d (seen w) refl) h) q

  pub class_evaluated : (cs : List NewCell) (past' : List ℤ) (u : World) (k : ℕ) (r : Result Value Stop) → seen v ≡ seen w → uses_of v ≡ uses_of w
      → cs ≡ cells_needed d (seen w) → class_refusal d (length (cells_needed d (seen w))) (seen w) ≡ None
      → Performs host (forms_evaluated (initforms cs) [] (class_made d)) v s past r u k past' → Performs host (define_class d) w s past r u k past'
  class_evaluated cs past' u k r e q n h a =
      let forms = forms_evaluated (initforms (cells_needed d (seen w))) [] (class_made d) in
      performs_as host forms (define_class d) w u s k past past' r (λ i. sym (ap (λ p. unless p forms (seen w) i) h))
      (performs_from host forms w v u s k past past' r e q
      (subst (λ l. Performs host (forms_evaluated (initforms l) [] (class_made d)) v s past r u k past') n a))
