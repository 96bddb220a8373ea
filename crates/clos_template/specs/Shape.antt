-- What a datum is as a template, by its operator (HyperSpec 7.7 define-method-combination).
use Rattle.std.specs.Prelude.{ℕ, List, [], ◌∷◌, ◌++◌, Bool, true, false, codes, nat_le, ◌&&◌, Option, Some, None, if◌then◌else◌}
use Rattle.lisp_data.specs.Name.{Name}
use Rattle.lisp_data.specs.Datum.{Dat, integer, symbol, string, list, dotted, method, Dats, nil, cons, length_of}
use Rattle.clos_forms.specs.Binding.{Entry, each, each_in, binding_in, bounds_of, names_of}
use Rattle.clos_forms.specs.Distinct.{are_distinct}
use Rattle.clos_forms.specs.Fault.{◌>>=◌}
use Rattle.clos_forms.specs.FunctionName.{symbol_in}
use Rattle.clos_forms.specs.Part.{only_in}
use Rattle.clos_forms.specs.clos_names.Names.{is_called, is_constant}
use Rattle.clos_lambda.specs.LambdaList.{parameter_in}
use Rattle.clos_template.specs.Backquote.{quoted_shape}
use Rattle.clos_template.specs.Operator.{Operator, constant, variable, if_form, cond, and_form, or_form, let_form, let_in_order, mapcar, call}
use Rattle.clos_template.specs.Part.{Part, Shape, shape, atom, operation, as_it_is, in_role, inits_of, body_parts}
use Rattle.clos_template.specs.Word.{word_of, takes}
use Rattle.clos_template.specs.declared.operator.Function.{Function}
use Rattle.clos_template.specs.declared.part.Role.{Role}
use Rattle.clos_template.specs.declared.part.Role.TheVariants.{Template, Quoted, Body}
use Rattle.clos_template.specs.declared.word.Word.{Word}
use Rattle.clos_template.specs.declared.word.Word.TheVariants.{Quote, Quasiquote, If, Cond, And, Or, Let, LetInOrder, MapCar, Function as Calls}

-- exactly one datum
abbrev pub quote_shape : Dats → Option Shape
quote_shape l = only_in l >>= λ d. Some (atom (constant d))

-- exactly one datum
abbrev pub quasiquote_shape : Dats → Option Shape
quasiquote_shape l = only_in l >>= λ d. Some (as_it_is Quoted d)

-- a test, and one template or two
abbrev pub if_shape : Dats → Option Shape
if_shape l = if nat_le 2 (length_of l) && nat_le (length_of l) 3 then Some (operation if_form l) else None

-- ---- cond

-- a clause: its test, the clause itself, and whether there is a body after the test
pub record Clause : Type 0 where
  pub test : Dat
  pub whole : Dat
  pub has_body : Bool

-- whether anything follows the test of a clause
abbrev is_some_data : Dats → Bool
is_some_data nil = false
is_some_data (cons d l) = true

-- the first datum is the test; the clause is kept whole, since its body is read from it
abbrev pub listed_clause : Dats → Option Clause
listed_clause nil = None
listed_clause (cons t l) = Some (record { test = t; whole = list (cons t l); has_body = is_some_data l })

-- a list of at least one template
abbrev pub clause_in : Dat → Option Clause
clause_in (integer n) = None
clause_in (symbol name) = None
clause_in (string s) = None
clause_in (list l) = listed_clause l
clause_in (dotted l d) = None
clause_in (method n) = None

-- the whole clause in the role of a body, where it has one
abbrev pub body_part : Clause → List Part
body_part c = if c.has_body then in_role Body c.whole ∷ [] else []

-- of each clause the test, and the body where it has one, before those of the next
abbrev pub parts_of_all : List Clause → List Part
parts_of_all [] = []
parts_of_all (c ∷ cs) = in_role Template c.test ∷ (body_part c ++ parts_of_all cs)

-- for each clause whether it has a body, which tells its parts from those of the next
abbrev pub bodies_of : List Clause → List Bool
bodies_of [] = []
bodies_of (c ∷ cs) = c.has_body ∷ bodies_of cs

-- the operator says which clauses have a body; their tests and bodies are the parts
abbrev pub cond_with : List Clause → Shape
cond_with cs = shape (cond (bodies_of cs)) (parts_of_all cs)

-- any number of clauses, also none (5.3 cond)
abbrev pub cond_shape : Dats → Option Shape
cond_shape l = each clause_in l >>= λ cs. Some (cond_with cs)

-- ---- let and let*

-- all at once, no name may be bound twice; the values are parts, and then the body
abbrev pub let_with : List Entry → Dats → Option Shape
let_with es body =
    if are_distinct (names_of es) then Some (shape (let_form (bounds_of es)) (inits_of es ++ body_parts body)) else None

-- the variables in a list, which may be written NIL, and then the body
abbrev pub let_shape : Dats → Option Shape
let_shape nil = None
let_shape (cons bindings body) = each_in binding_in bindings >>= λ es. let_with es body

-- in order, a name may be bound again
abbrev pub let_in_order_shape : Dats → Option Shape
let_in_order_shape nil = None
let_in_order_shape (cons bindings body) =
    each_in binding_in bindings >>= λ es. Some (shape (let_in_order (bounds_of es)) (inits_of es ++ body_parts body))

-- ---- mapcar

-- the variable of a lambda expression, and what is given
pub record Lambda : Type 0 where
  pub variable : Name
  pub body : Dat

-- the one variable of a lambda list
abbrev pub only_parameter_in : Dat → Option Name
only_parameter_in (integer n) = None
only_parameter_in (symbol name) = None
only_parameter_in (string s) = None
only_parameter_in (list l) = only_in l >>= parameter_in
only_parameter_in (dotted l d) = None
only_parameter_in (method n) = None

-- a list of one variable, and one template
abbrev pub lambda_with : Dats → Option Lambda
lambda_with nil = None
lambda_with (cons v l) = only_parameter_in v >>= λ n. only_in l >>= λ d. Some (record { variable = n; body = d })

-- after this name at the head of a list
abbrev pub after_head : List ℕ → Dat → Option Dats
after_head text (integer n) = None
after_head text (symbol name) = None
after_head text (string s) = None
after_head text (list nil) = None
after_head text (list (cons head rest)) = symbol_in head >>= λ n. if is_called text n then Some rest else None
after_head text (dotted l d) = None
after_head text (method n) = None

-- (lambda (v) template), where v may be bound
abbrev pub lambda_in : Dat → Option Lambda
lambda_in d = after_head (codes "LAMBDA") d >>= lambda_with

-- the datum of a function form, or the datum itself where it is none
abbrev pub or_itself : Dat → Option Dats → Option Dat
or_itself d None = Some d
or_itself d (Some l) = only_in l

-- a lambda expression, also in a function form
abbrev pub mapped_by : Dat → Option Lambda
mapped_by d = or_itself d (after_head (codes "FUNCTION") d) >>= lambda_in

-- the parts are the list, and then what is given for each of its elements
abbrev pub mapcar_with : Lambda → Dat → Shape
mapcar_with f d = shape (mapcar f.variable) (in_role Template d ∷ in_role Template f.body ∷ [])

-- a function and one list
abbrev pub mapcar_shape : Dats → Option Shape
mapcar_shape nil = None
mapcar_shape (cons f l) = mapped_by f >>= λ g. only_in l >>= λ d. Some (mapcar_with g d)

-- ---- all templates

-- as many arguments as the function takes
abbrev pub call_shape : Function → Dats → Option Shape
call_shape f l = if takes f (length_of l) then Some (operation (call f) l) else None

-- what must follow a name with this meaning
abbrev pub worded_shape : Word → Dats → Option Shape
worded_shape Quote l = quote_shape l
worded_shape Quasiquote l = quasiquote_shape l
worded_shape If l = if_shape l
worded_shape Cond l = cond_shape l
worded_shape And l = Some (operation and_form l)
worded_shape Or l = Some (operation or_form l)
worded_shape Let l = let_shape l
worded_shape LetInOrder l = let_in_order_shape l
worded_shape MapCar l = mapcar_shape l
worded_shape (Calls f) l = call_shape f l

-- a symbol at the head that names an operator of templates; nothing else may be called
abbrev pub headed_shape : Dat → Dats → Option Shape
headed_shape head l = symbol_in head >>= word_of >>= λ w. worded_shape w l

-- NIL, T and keywords stand for themselves, another symbol for what is bound to it
abbrev pub symbol_operator : Name → Operator
symbol_operator name = if is_constant name then constant (symbol name) else variable name

-- the empty list is NIL
abbrev pub listed_shape : Dats → Option Shape
listed_shape nil = Some (atom (constant (list nil)))
listed_shape (cons head rest) = headed_shape head rest

-- an atom is a constant or a name, a list has an operator; a dotted list and a method are no templates
abbrev pub template_shape : Dat → Option Shape
template_shape (integer n) = Some (atom (constant (integer n)))
template_shape (symbol name) = Some (atom (symbol_operator name))
template_shape (string s) = Some (atom (constant (string s)))
template_shape (list l) = listed_shape l
template_shape (dotted l d) = None
template_shape (method n) = None

-- what follows the test of a clause
abbrev pub body_shape : Dat → Option Shape
body_shape (integer n) = None
body_shape (symbol name) = None
body_shape (string s) = None
body_shape (list nil) = None
body_shape (list (cons t l)) = Some (operation (let_form []) l)
body_shape (dotted l d) = None
body_shape (method n) = None

-- what a datum is in its role
abbrev pub shape_of : Role → Dat → Option Shape
shape_of Template d = template_shape d
shape_of Quoted d = quoted_shape d
shape_of Body d = body_shape d
