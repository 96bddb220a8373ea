-- Top-level forms (HyperSpec 3.2.3.1).
use Rattle.std.specs.Prelude.{Bool, true, false, ◌||◌, codes, Option, Some, None, if◌then◌else◌}
use Rattle.lisp_data.specs.Name.{Name}
use Rattle.lisp_data.specs.Datum.{Dat, integer, symbol, string, list, dotted, method, Dats, nil, cons}
use Rattle.clos_forms.specs.Fault.{◌>>=◌}
use Rattle.clos_forms.specs.Form.{Form}
use Rattle.clos_forms.specs.clos_names.Names.{is_called}
use Rattle.clos_forms.specs.Part.{only_in}
use Rattle.clos_lambda.specs.PlainForm.{form_in}
use Rattle.clos_combination.specs.Combination.{combination_in}
use Rattle.clos_syntax.specs.Class.{class_in}
use Rattle.clos_syntax.specs.Function.{function_in}
use Rattle.clos_syntax.specs.FunctionName.{method_function_in}
use Rattle.clos_syntax.specs.Generic.{generic_in}
use Rattle.clos_syntax.specs.Method.{method_in}
use Rattle.clos_syntax.specs.Variable.{variable_definition_in}
use Rattle.clos_top.specs.declared.top.Top.{Top}
use Rattle.clos_top.specs.declared.top.Top.TheVariants.{DefClass, DefGeneric, DefMethod, DefCombination, Defun, DefVar, RemoveMethod, AddDependent, RemoveDependent, InPackage, Expr}
use Rattle.clos_syntax.specs.declared.variable.Definer.TheVariants.{DefVar as a_defvar, DefParameter as a_defparameter}

-- whether a method stands in the datum
abbrev mutual
  pub has_method : Dat → Bool
  has_method (integer n) = false
  has_method (symbol s) = false
  has_method (string s) = false
  has_method (list l) = any_has_method l
  has_method (dotted l d) = any_has_method l || has_method d
  has_method (method n) = true

  pub any_has_method : Dats → Bool
  any_has_method nil = false
  any_has_method (cons d l) = has_method d || any_has_method l

-- a name, and a method of its function
abbrev pub defmethod_in : Dats → Option Top
defmethod_in nil = None
defmethod_in (cons name l) = method_function_in name >>= λ n. method_in l >>= λ m. Some (DefMethod n m)

-- exactly two forms
abbrev pub two_forms_in : Dats → Option (Form × Form)
two_forms_in nil = None
two_forms_in (cons a rest) = only_in rest >>= λ b. form_in a >>= λ f. form_in b >>= λ g. Some (f, g)

-- exactly one datum
abbrev pub in_package : Dats → Option Top
in_package l = only_in l >>= λ d. Some InPackage

abbrev pub expression : Dat → Option Top
expression d = form_in d >>= λ f. Some (Expr f)

-- forms that change functions and metaobjects that there are, and expressions
abbrev pub other_top : Name → Dats → Dat → Option Top
other_top name rest whole =
    if is_called (codes "REMOVE-METHOD") name then (two_forms_in rest >>= λ p. Some (RemoveMethod p.0 p.1))
    else if is_called (codes "ADD-DEPENDENT") name then (two_forms_in rest >>= λ p. Some (AddDependent p.0 p.1))
    else if is_called (codes "REMOVE-DEPENDENT") name then (two_forms_in rest >>= λ p. Some (RemoveDependent p.0 p.1))
    else if is_called (codes "IN-PACKAGE") name then in_package rest
    else expression whole

-- by the operator's name
abbrev pub named_top : Name → Dats → Dat → Option Top
named_top name rest whole =
    if is_called (codes "DEFCLASS") name then (class_in rest >>= λ c. Some (DefClass c))
    else if is_called (codes "DEFGENERIC") name then (generic_in rest >>= λ g. Some (DefGeneric g))
    else if is_called (codes "DEFMETHOD") name then defmethod_in rest
    else if is_called (codes "DEFINE-METHOD-COMBINATION") name then (combination_in rest >>= λ c. Some (DefCombination c))
    else if is_called (codes "DEFUN") name then (function_in rest >>= λ f. Some (Defun f))
    else if is_called (codes "DEFVAR") name then (variable_definition_in a_defvar rest >>= λ v. Some (DefVar v))
    else if is_called (codes "DEFPARAMETER") name then (variable_definition_in a_defparameter rest >>= λ v. Some (DefVar v))
    else other_top name rest whole

abbrev pub headed_top : Dat → Dats → Dat → Option Top
headed_top (integer n) rest whole = expression whole
headed_top (symbol name) rest whole = named_top name rest whole
headed_top (string s) rest whole = expression whole
headed_top (list l) rest whole = expression whole
headed_top (dotted l d) rest whole = expression whole
headed_top (method n) rest whole = expression whole

abbrev pub listed_top : Dats → Dat → Option Top
listed_top nil whole = expression whole
listed_top (cons head rest) whole = headed_top head rest whole

abbrev pub any_top : Dat → Option Top
any_top (integer n) = expression (integer n)
any_top (symbol s) = expression (symbol s)
any_top (string s) = expression (string s)
any_top (list l) = listed_top l (list l)
any_top (dotted l d) = expression (dotted l d)
any_top (method n) = expression (method n)

-- the checked form of a datum
abbrev pub top_of : Dat → Option Top
top_of d = if has_method d then None else any_top d
