-- Effective forms, and data that are none: instances of the definitions.
use Rattle.std.specs.Prelude.{◌≡◌, ℕ, false, pos, List, [], ◌∷◌, Some, None, codes, refl}
use Rattle.lisp_data.specs.Name.{Name}
use Rattle.lisp_data.specs.Datum.{Dat, integer, symbol, list, method, list_from}
use Rattle.lisp_data.specs.Value as value
use Rattle.clos_forms.specs.Effective.{effective_form}
use Rattle.clos_forms.specs.Form.{Form, form, nil, cons}
use Rattle.clos_forms.specs.Operator.{the_method, made, constant, call, call_method}

-- these characters name a symbol that is no keyword
abbrev name : List ℕ → Name
name text = record { text = text; keyword = false }

-- a list of the symbol of this name and these data
abbrev after_name : List ℕ → List Dat → Dat
after_name text ds = list (list_from (symbol (name text) ∷ ds))

-- (call-method ..), with these data after the name
abbrev calling : List Dat → Dat
calling ds = after_name (codes "CALL-METHOD") ds

-- (make-method 5)
abbrev made_of_five : Dat
made_of_five = after_name (codes "MAKE-METHOD") (integer (pos 5) ∷ [])

-- (call-method M2 (M3 (make-method 5)))
abbrev with_next : Dat
with_next = calling (method 2 ∷ list (list_from (method 3 ∷ made_of_five ∷ [])) ∷ [])

-- M2 is called, with M3 and the method that is made as next methods
abbrev call_with_next : Form
call_with_next = form (call_method (the_method 2) (the_method 3 ∷ made ∷ [])) (cons (form (constant (value.integer (pos 5))) nil) nil)

-- (list (call-method M1) (call-method M2 (M3 (make-method 5)))) is a call with two arguments
two_calls : effective_form (after_name (codes "LIST") (calling (method 1 ∷ []) ∷ with_next ∷ [])) ≡ Some (form (call (name (codes "LIST"))) (cons (form (call_method (the_method 1) []) nil) (cons call_with_next nil)))
two_calls = refl

-- (quote (call-method M1)) has no form, since M1 is not called in it
a_quoted_call : effective_form (after_name (codes "QUOTE") (calling (method 1 ∷ []) ∷ [])) ≡ None
a_quoted_call = refl

-- (call-method 5) has none, since it names no method
no_method : effective_form (calling (integer (pos 5) ∷ [])) ≡ None
no_method = refl
