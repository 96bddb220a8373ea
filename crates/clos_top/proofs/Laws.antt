-- Each method that is read has a specializer for each required parameter.
use Rattle.std.specs.Prelude.{IfSome, Some}
use Rattle.lisp_data.specs.Datum.{Dats, nil, cons}
use Rattle.clos_forms.specs.Fault.{◌>>=◌}
use Rattle.clos_lambda.specs.PlainForm.{form_in}
use Rattle.clos_combination.specs.Combination.{combination_in}
use Rattle.clos_syntax.specs.Class.{class_in}
use Rattle.clos_syntax.specs.Function.{function_in}
use Rattle.clos_syntax.specs.FunctionName.{method_function_in}
use Rattle.clos_syntax.specs.Laws.{IsSpecialized}
use Rattle.clos_syntax.specs.Method.{method_in}
use Rattle.clos_syntax.specs.Variable.{variable_definition_in}
use Rattle.clos_syntax.proofs.Laws.{generic_law, method_law}
use Rattle.clos_syntax.proofs.WhereGiven.{keeps, nothing, passes}
use Rattle.clos_top.specs.Laws.{AreSpecialized}
use Rattle.clos_top.specs.Top.{defmethod_in, two_forms_in}
use Rattle.clos_top.specs.declared.top.Top.TheVariants.{DefMethod}
use Rattle.clos_top.proofs.Cases.{Cases}

defmethod_law : (l : Dats) → IfSome (defmethod_in l) AreSpecialized
defmethod_law nil = tt
defmethod_law (cons name l) =
    passes AreSpecialized (method_function_in name) (λ n. method_in l >>= λ m. Some (DefMethod n m))
    (λ n. keeps IsSpecialized AreSpecialized (method_in l) (λ m. Some (DefMethod n m)) (method_law l) (λ m p. p))

pub specialized_cases : Cases AreSpecialized
specialized_cases = record {
  class = λ l. nothing (class_in l);
  generic = generic_law;
  defmethod = defmethod_law;
  combination = λ l. nothing (combination_in l);
  function = λ l. nothing (function_in l);
  variable = λ definer l. nothing (variable_definition_in definer l);
  removal = λ l. nothing (two_forms_in l);
  addition = λ l. nothing (two_forms_in l);
  dismissal = λ l. nothing (two_forms_in l);
  in_package = tt;
  form = λ d. nothing (form_in d);
}
