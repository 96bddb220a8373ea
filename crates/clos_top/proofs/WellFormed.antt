-- The forms of each top-level form that is read are well formed.
use Rattle.std.specs.Prelude.{IfSome, Some}
use Rattle.lisp_data.specs.Datum.{Dats, nil, cons}
use Rattle.clos_forms.specs.Fault.{◌>>=◌}
use Rattle.clos_forms.specs.Form.{Form}
use Rattle.clos_forms.specs.Part.{only_in}
use Rattle.clos_lambda.specs.PlainForm.{form_in}
use Rattle.clos_combination.specs.Combination.{combination_in}
use Rattle.clos_syntax.specs.FunctionName.{method_function_in}
use Rattle.clos_syntax.specs.Method.{method_in}
use Rattle.clos_syntax.specs.WellFormed.{IsPlain, OfMethod}
use Rattle.clos_syntax.proofs.WellFormed.{class_law, form_law, function_law, generic_law, method_law, variable_law}
use Rattle.clos_syntax.proofs.WhereGiven.{keeps, nothing, passes}
use Rattle.clos_top.specs.Top.{defmethod_in, two_forms_in}
use Rattle.clos_top.specs.WellFormed.{AreWellFormed}
use Rattle.clos_top.specs.declared.top.Top.TheVariants.{DefMethod}
use Rattle.clos_top.proofs.Cases.{Cases}

defmethod_law : (l : Dats) → IfSome (defmethod_in l) AreWellFormed
defmethod_law nil = tt
defmethod_law (cons name l) =
    passes AreWellFormed (method_function_in name) (λ n. method_in l >>= λ m. Some (DefMethod n m))
    (λ n. keeps OfMethod AreWellFormed (method_in l) (λ m. Some (DefMethod n m)) (method_law l) (λ m p. p))

abbrev BothPlain : Form × Form → Type 0
BothPlain p = IsPlain p.0 × IsPlain p.1

two_forms_law : (l : Dats) → IfSome (two_forms_in l) BothPlain
two_forms_law nil = tt
two_forms_law (cons a l) =
    passes BothPlain (only_in l) (λ b. form_in a >>= λ f. form_in b >>= λ g. Some (f, g))
    (λ b. keeps IsPlain BothPlain (form_in a) (λ f. form_in b >>= λ g. Some (f, g)) (form_law a)
    (λ f p. keeps IsPlain BothPlain (form_in b) (λ g. Some (f, g)) (form_law b) (λ g q. (p, q))))

pub well_formed_cases : Cases AreWellFormed
well_formed_cases = record {
  class = class_law;
  generic = generic_law;
  defmethod = defmethod_law;
  combination = λ l. nothing (combination_in l);
  function = function_law;
  variable = variable_law;
  removal = two_forms_law;
  addition = two_forms_law;
  dismissal = two_forms_law;
  in_package = tt;
  form = form_law;
}
