-- Each top-level form that is read is well read.
use Rattle.std.proofs.Common.{◌≡◌, Bool, true, false, Some, None, Ok, refl}
use Rattle.std.specs.Prelude.{⊤, IfSome, if◌then◌else◌}
use Rattle.std.proofs.lemmas.Option.{none-some}
use Rattle.lisp_data.specs.Datum.{Dat, Dats, nil, cons}
use Rattle.clos_forms.specs.Fault.{◌>>=◌}
use Rattle.clos_definition_forms.specs.clos_generic.Sound.{IsOrderly}
use Rattle.clos_definition_forms.proofs.clos_definition.clos_generic.Members.{each_of}
use Rattle.clos_top.specs.clos_combination.Combination.{combination_in}
use Rattle.clos_top.specs.clos_combination.clos_lambda.PlainForm.{form_in}
use Rattle.clos_top.specs.clos_syntax.Class.{class_in}
use Rattle.clos_top.specs.clos_syntax.Function.{function_in as read_function}
use Rattle.clos_top.specs.clos_syntax.FunctionName.{method_function_in}
use Rattle.clos_top.specs.clos_syntax.Method.{method_in}
use Rattle.clos_top.specs.clos_syntax.Laws.{IsSpecialized}
use Rattle.clos_top.specs.clos_syntax.Variable.{variable_definition_in}
use Rattle.clos_top.proofs.clos_syntax.WhereGiven.{nothing, passes}
use Rattle.clos_top.specs.Laws.{AreSpecialized}
use Rattle.clos_top.specs.Top.{any_top, defmethod_in, has_method, top_of, two_forms_in}
use Rattle.clos_top.specs.declared.top.Top.{Top}
use Rattle.clos_top.specs.declared.top.Top.TheVariants.{DefClass, DefGeneric, DefMethod, DefCombination, Defun, DefVar, RemoveMethod, AddDependent, RemoveDependent, InPackage, Expr}
use Rattle.clos_top.proofs.Cases.{Cases, given_so}
use Rattle.clos_top.proofs.Laws.{specialized_cases}
use Rattle.clos_definition_forms.specs.clos_definition.Generic.{options_of}
use Rattle.clos_definition_forms.proofs.clos_definition.Orders.{orderly}
use Rattle.clos_perform.specs.Read.{IsWellRead}

-- the functions that are read have argument precedence orders
abbrev IsOrderlyTop : Top → Type 0
IsOrderlyTop (DefGeneric g) = IsOrderly (options_of g)
IsOrderlyTop (DefClass c) = ⊤
IsOrderlyTop (DefMethod n m) = ⊤
IsOrderlyTop (DefCombination c) = ⊤
IsOrderlyTop (Defun f) = ⊤
IsOrderlyTop (DefVar v) = ⊤
IsOrderlyTop (RemoveMethod f g) = ⊤
IsOrderlyTop (AddDependent f g) = ⊤
IsOrderlyTop (RemoveDependent f g) = ⊤
IsOrderlyTop InPackage = ⊤
IsOrderlyTop (Expr f) = ⊤

defmethod_orderly : (l : Dats) → IfSome (defmethod_in l) IsOrderlyTop
defmethod_orderly nil = tt
defmethod_orderly (cons name l) =
    passes IsOrderlyTop (method_function_in name) (λ n. method_in l >>= λ m. Some (DefMethod n m))
    (λ n. passes IsOrderlyTop (method_in l) (λ m. Some (DefMethod n m)) (λ m. tt))

orderly_cases : Cases IsOrderlyTop
orderly_cases = record {
  class = λ l. nothing (class_in l);
  generic = orderly;
  defmethod = defmethod_orderly;
  combination = λ l. nothing (combination_in l);
  function = λ l. nothing (read_function l);
  variable = λ definer l. nothing (variable_definition_in definer l);
  removal = λ l. nothing (two_forms_in l);
  addition = λ l. nothing (two_forms_in l);
  dismissal = λ l. nothing (two_forms_in l);
  in_package = tt;
  form = λ d. nothing (form_in d);
}

both : (top : Top) → AreSpecialized top → IsOrderlyTop top → IsWellRead top
both (DefClass c) h k = tt
both (DefGeneric g) h k = (k, each_of IsSpecialized g.methods h)
both (DefMethod n m) h k = h
both (DefCombination c) h k = tt
both (Defun f) h k = tt
both (DefVar v) h k = tt
both (RemoveMethod f g) h k = tt
both (AddDependent f g) h k = tt
both (RemoveDependent f g) h k = tt
both InPackage h k = tt
both (Expr f) h k = tt

any_of : (d : Dat) (b : Bool) (top : Top) → has_method d ≡ b → (if b then None else any_top d) ≡ Some top → any_top d ≡ Some top
any_of d true top h k = absurd (none-some top k)
any_of d false top h k = k

pub well_read : (d : Dat) (top : Top) → top_of d ≡ Some top → IsWellRead top
well_read d top h =
    let k = any_of d (has_method d) top refl h in
    both top (given_so AreSpecialized specialized_cases (Ok top) d k) (given_so IsOrderlyTop orderly_cases (Ok top) d k)
