-- What holds of each top-level form.
use Rattle.std.proofs.Common.{◌≡◌, Bool, true, false, Option, Some, None, Result, Ok, Err, sym, rules}
use Rattle.std.specs.Prelude.{IfSome, IfOk, codes, if◌then◌else◌}
use Rattle.std.proofs.lemmas.Option.{none-some}
use Rattle.lisp_data.specs.Name.{Name}
use Rattle.lisp_data.specs.Datum.{Dat, integer, symbol, string, list, dotted, method, Dats, nil, cons}
use Rattle.clos_forms.specs.Fault.{◌>>=◌, Gives}
use Rattle.clos_forms.specs.clos_names.Names.{is_called}
use Rattle.clos_forms.specs.Part.{only_in}
use Rattle.clos_forms.specs.declared.fault.SyntaxFault.{SyntaxFault}
use Rattle.clos_lambda.specs.PlainForm.{form_in}
use Rattle.clos_combination.specs.Combination.{combination_in}
use Rattle.clos_syntax.specs.Class.{class_in}
use Rattle.clos_syntax.specs.Function.{function_in}
use Rattle.clos_syntax.specs.Generic.{generic_in}
use Rattle.clos_top.specs.Top.{any_top, defmethod_in, expression, headed_top, in_package, listed_top, named_top, other_top, two_forms_in}
use Rattle.clos_syntax.specs.Variable.{variable_definition_in}
use Rattle.clos_top.specs.declared.top.Top.{Top}
use Rattle.clos_top.specs.declared.top.Top.TheVariants.{DefClass, DefGeneric, DefCombination, Defun, DefVar, RemoveMethod, AddDependent, RemoveDependent, InPackage, Expr}
use Rattle.clos_syntax.specs.declared.variable.Definer.{Definer}
use Rattle.clos_syntax.specs.declared.variable.Definer.TheVariants.{DefVar as a_defvar, DefParameter as a_defparameter}
use Rattle.clos_syntax.proofs.WhereGiven.{keeps, passes}

-- what is shown of a law, for each kind of top-level form
pub record Cases (P : Top → Type 0) : Type 0 where
  pub class : (l : Dats) → IfSome (class_in l) (λ c. P (DefClass c))
  pub generic : (l : Dats) → IfSome (generic_in l) (λ g. P (DefGeneric g))
  pub defmethod : (l : Dats) → IfSome (defmethod_in l) P
  pub combination : (l : Dats) → IfSome (combination_in l) (λ c. P (DefCombination c))
  pub function : (l : Dats) → IfSome (function_in l) (λ f. P (Defun f))
  pub variable : (definer : Definer) (l : Dats) → IfSome (variable_definition_in definer l) (λ v. P (DefVar v))
  pub removal : (l : Dats) → IfSome (two_forms_in l) (λ p. P (RemoveMethod p.0 p.1))
  pub addition : (l : Dats) → IfSome (two_forms_in l) (λ p. P (AddDependent p.0 p.1))
  pub dismissal : (l : Dats) → IfSome (two_forms_in l) (λ p. P (RemoveDependent p.0 p.1))
  pub in_package : P InPackage
  pub form : (d : Dat) → IfSome (form_in d) (λ f. P (Expr f))

as_top : {A : Type 0} (P : Top → Type 0) (o : Option A) (top : A → Top) → IfSome o (λ a. P (top a)) → IfSome (o >>= λ a. Some (top a)) P
as_top P o top h = keeps (λ a. P (top a)) P o (λ a. Some (top a)) h (λ a p. p)

expression_law : (P : Top → Type 0) → Cases P → (d : Dat) → IfSome (expression d) P
expression_law P h d = as_top P (form_in d) Expr (h.form d)

of_five : (P : Top → Type 0) (a b c d : Bool) (u v w x y : Option Top) → IfSome u P → IfSome v P → IfSome w P → IfSome x P → IfSome y P → IfSome (if a then u else if b then v else if c then w else if d then x else y) P
of_five P true b c d u v w x y hu hv hw hx hy = hu
of_five P false true c d u v w x y hu hv hw hx hy = hv
of_five P false false true d u v w x y hu hv hw hx hy = hw
of_five P false false false true u v w x y hu hv hw hx hy = hx
of_five P false false false false u v w x y hu hv hw hx hy = hy

other_law : (P : Top → Type 0) → Cases P → (name : Name) (l : Dats) (d : Dat) → IfSome (other_top name l d) P
other_law P h name l d =
    of_five P (is_called (codes "REMOVE-METHOD") name) (is_called (codes "ADD-DEPENDENT") name) (is_called (codes "REMOVE-DEPENDENT") name)
    (is_called (codes "IN-PACKAGE") name) (two_forms_in l >>= λ p. Some (RemoveMethod p.0 p.1)) (two_forms_in l >>= λ p. Some (AddDependent p.0 p.1))
    (two_forms_in l >>= λ p. Some (RemoveDependent p.0 p.1)) (in_package l) (expression d)
    (as_top P (two_forms_in l) (λ p. RemoveMethod p.0 p.1) (h.removal l)) (as_top P (two_forms_in l) (λ p. AddDependent p.0 p.1) (h.addition l))
    (as_top P (two_forms_in l) (λ p. RemoveDependent p.0 p.1) (h.dismissal l))
    (passes P (only_in l) (λ x. Some InPackage) (λ x. h.in_package)) (expression_law P h d)

-- the definitions after those of methods and their combinations
abbrev past_methods : Name → Dats → Dat → Option Top
past_methods name l d =
    if is_called (codes "DEFUN") name then (function_in l >>= λ f. Some (Defun f))
    else if is_called (codes "DEFVAR") name then (variable_definition_in a_defvar l >>= λ v. Some (DefVar v))
    else if is_called (codes "DEFPARAMETER") name then (variable_definition_in a_defparameter l >>= λ v. Some (DefVar v))
    else other_top name l d

past_methods_law : (P : Top → Type 0) → Cases P → (name : Name) (l : Dats) (d : Dat) → IfSome (past_methods name l d) P
past_methods_law P h name l d =
    of_five P (is_called (codes "DEFUN") name) (is_called (codes "DEFVAR") name) (is_called (codes "DEFPARAMETER") name) true
    (function_in l >>= λ f. Some (Defun f)) (variable_definition_in a_defvar l >>= λ v. Some (DefVar v))
    (variable_definition_in a_defparameter l >>= λ v. Some (DefVar v)) (other_top name l d) None
    (as_top P (function_in l) Defun (h.function l)) (as_top P (variable_definition_in a_defvar l) DefVar (h.variable a_defvar l))
    (as_top P (variable_definition_in a_defparameter l) DefVar (h.variable a_defparameter l)) (other_law P h name l d) tt

named_law : (P : Top → Type 0) → Cases P → (name : Name) (l : Dats) (d : Dat) → IfSome (named_top name l d) P
named_law P h name l d =
    of_five P (is_called (codes "DEFCLASS") name) (is_called (codes "DEFGENERIC") name) (is_called (codes "DEFMETHOD") name)
    (is_called (codes "DEFINE-METHOD-COMBINATION") name) (class_in l >>= λ c. Some (DefClass c)) (generic_in l >>= λ g. Some (DefGeneric g))
    (defmethod_in l) (combination_in l >>= λ c. Some (DefCombination c)) (past_methods name l d)
    (as_top P (class_in l) DefClass (h.class l)) (as_top P (generic_in l) DefGeneric (h.generic l)) (h.defmethod l)
    (as_top P (combination_in l) DefCombination (h.combination l)) (past_methods_law P h name l d)

headed_law : (P : Top → Type 0) → Cases P → (head : Dat) (l : Dats) (d : Dat) → IfSome (headed_top head l d) P
headed_law P h (integer n) l d = expression_law P h d
headed_law P h (symbol name) l d = named_law P h name l d
headed_law P h (string s) l d = expression_law P h d
headed_law P h (list m) l d = expression_law P h d
headed_law P h (dotted m e) l d = expression_law P h d
headed_law P h (method n) l d = expression_law P h d

listed_law : (P : Top → Type 0) → Cases P → (l : Dats) (d : Dat) → IfSome (listed_top l d) P
listed_law P h nil d = expression_law P h d
listed_law P h (cons head l) d = headed_law P h head l d

any_law : (P : Top → Type 0) → Cases P → (d : Dat) → IfSome (any_top d) P
any_law P h (integer n) = expression_law P h (integer n)
any_law P h (symbol name) = expression_law P h (symbol name)
any_law P h (string s) = expression_law P h (string s)
any_law P h (list l) = listed_law P h l (list l)
any_law P h (dotted l d) = expression_law P h (dotted l d)
any_law P h (method n) = expression_law P h (method n)

so_of : (P : Top → Type 0) (o : Option Top) (t : Top) → o ≡ Some t → IfSome o P → P t
so_of P (Some u) t e h = let k : u ≡ t = search (rules, e) in rw (sym k) h
so_of P None t e h = absurd (none-some t e)

-- what is given is so
pub given_so : (P : Top → Type 0) → Cases P → (r : Result Top SyntaxFault) (d : Dat) → Gives (λ t. t) r (any_top d) → IfOk r P
given_so P h (Ok t) d e = so_of P (any_top d) t e (any_law P h d)
given_so P h (Err f) d e = tt
