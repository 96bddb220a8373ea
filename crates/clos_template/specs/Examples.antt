-- Small templates and what they stand for: instances of the definitions.
use Rattle.std.specs.Prelude.{◌≡◌, ℕ, false, pos, List, [], ◌∷◌, Option, Some, None, codes, refl}
use Rattle.lisp_data.specs.Name.{Name}
use Rattle.lisp_data.specs.Datum.{Dat, integer, symbol, list, method, list_from}
use Rattle.clos_template.specs.Expansion.{Expansion, made, bad, beyond}
use Rattle.clos_template.specs.Grammar.{body_template_of}
use Rattle.clos_template.specs.Meaning.{meaning}
use Rattle.clos_template.specs.Scope.{Env, bound}
use Rattle.clos_template.specs.Template.{Template}

-- these characters name a symbol that is no keyword
abbrev name : List ℕ → Name
name text = record { text = text; keyword = false }

-- such a symbol as a datum
abbrev named : List ℕ → Dat
named text = symbol (name text)

-- these data in parentheses, without a dot
abbrev listed : List Dat → Dat
listed ds = list (list_from ds)

-- a list of the symbol of this name and these data
abbrev after_name : List ℕ → List Dat → Dat
after_name text ds = listed (named text ∷ ds)

-- a template that is none stands for nothing
abbrev standing : Option Template → Env → ℕ → Expansion
standing None env n = bad
standing (Some t) env n = meaning t env n

-- what a body of one template comes to, with so many conses to make
abbrev comes_to : Dat → Env → ℕ → Expansion
comes_to d env n = standing (body_template_of (list_from (d ∷ []))) env n

-- `(call-method ,m)
abbrev a_call : Dat
a_call = after_name (codes "QUASIQUOTE") (after_name (codes "CALL-METHOD") (after_name (codes "UNQUOTE") (named (codes "M") ∷ []) ∷ []) ∷ [])

-- (mapcar (lambda (m) `(call-method ,m)) all)
abbrev the_calls : Dat
the_calls =
    after_name (codes "MAPCAR") (after_name (codes "LAMBDA") (listed (named (codes "M") ∷ []) ∷ a_call ∷ []) ∷ named (codes "ALL") ∷ [])

-- `(list ,@(mapcar (lambda (m) `(call-method ,m)) all))
abbrev a_list_of_calls : Dat
a_list_of_calls =
    after_name (codes "QUASIQUOTE") (after_name (codes "LIST") (after_name (codes "UNQUOTE-SPLICING") (the_calls ∷ []) ∷ []) ∷ [])

-- ALL stands for the list of the methods M1 and M2
abbrev two_methods : Env
two_methods = bound (name (codes "ALL")) (listed (method 1 ∷ method 2 ∷ [])) ∷ []

-- (call-method M), where M is the method of this number
abbrev called : ℕ → Dat
called m = after_name (codes "CALL-METHOD") (method m ∷ [])

-- two conses for each call, two for what mapcar gives, and three for the list
calls_of_two : comes_to a_list_of_calls two_methods 9 ≡ made (after_name (codes "LIST") (called 1 ∷ called 2 ∷ [])) 0
calls_of_two = refl

-- one less is not enough
calls_cut : comes_to a_list_of_calls two_methods 8 ≡ beyond
calls_cut = refl

-- (car 5)
car_of_a_number : comes_to (after_name (codes "CAR") (integer (pos 5) ∷ [])) [] 9 ≡ bad
car_of_a_number = refl

-- no group, parameter or local has this name
unknown_name : comes_to (named (codes "ALL")) [] 9 ≡ bad
unknown_name = refl

-- `(a `b): a backquote stands directly in another
backquote_in_backquote : body_template_of (list_from (after_name (codes "QUASIQUOTE") (listed (named (codes "A") ∷ after_name (codes "QUASIQUOTE") (named (codes "B") ∷ []) ∷ []) ∷ []) ∷ [])) ≡ None
backquote_in_backquote = refl
