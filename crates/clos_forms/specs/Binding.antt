-- The variables of let, let*, setq and dotimes (HyperSpec 5.3, 6.2).
use Rattle.std.specs.Prelude.{List, [], ◌∷◌, ◌++◌, Option, Some, None, is_some, codes, if◌then◌else◌}
use Rattle.lisp_data.specs.Name.{Name}
use Rattle.lisp_data.specs.Datum.{Dat, integer, symbol, string, list, dotted, method, Dats, nil, cons}
use Rattle.clos_forms.specs.Body.{body_parts}
use Rattle.clos_forms.specs.Distinct.{are_distinct}
use Rattle.clos_forms.specs.Fault.{◌>>=◌}
use Rattle.clos_forms.specs.FunctionName.{variable_in, unless_constant}
use Rattle.clos_names.specs.Names.{is_called}
use Rattle.clos_forms.specs.Operator.{Bound, let_form, let_in_order, setq, dotimes}
use Rattle.clos_forms.specs.Part.{Part, Shape, shape, in_role, optional, at_most_one}
use Rattle.clos_forms.specs.declared.part.Role.TheVariants.{Expression}

-- what each datum gives, where each gives something
abbrev pub each : {A : Type 0} → (Dat → Option A) → Dats → Option (List A)
each f nil = Some []
each f (cons d l) = f d >>= λ x. each f l >>= λ xs. Some (x ∷ xs)

-- the same of the elements of a list, which may be written NIL
abbrev pub each_in : {A : Type 0} → (Dat → Option A) → Dat → Option (List A)
each_in f (integer n) = None
each_in f (symbol name) = if is_called (codes "NIL") name then Some [] else None
each_in f (string s) = None
each_in f (list l) = each f l
each_in f (dotted l d) = None
each_in f (method n) = None

-- a variable, and the datum of its value, where there is one
pub record Entry : Type 0 where
  pub name : Name
  pub init : Option Dat

-- a variable as it is written, with its value or without one
abbrev pub entry : Name → Option Dat → Entry
entry n init = record { name = n; init = init }

-- the variables alone, in order
abbrev pub names_of : List Entry → List Name
names_of [] = []
names_of (e ∷ es) = e.name ∷ names_of es

-- the operator keeps whether there is a value; its form becomes a part
abbrev pub bound_by : Entry → Bound
bound_by e = record { name = e.name; has_init = is_some e.init }

-- the same of each entry, in order
abbrev pub bounds_of : List Entry → List Bound
bounds_of [] = []
bounds_of (e ∷ es) = bound_by e ∷ bounds_of es

-- the values that are written, as expressions, in the order of their variables
abbrev pub inits_of : List Entry → List Part
inits_of [] = []
inits_of (e ∷ es) = optional e.init ++ inits_of es

-- ---- let and let*

-- (v) or (v init), where v may be bound
abbrev pub listed_binding : Dats → Option Entry
listed_binding nil = None
listed_binding (cons v rest) = variable_in v >>= λ n. at_most_one rest >>= λ init. Some (entry n init)

-- v, (v) or (v init)
abbrev pub binding_in : Dat → Option Entry
binding_in (integer n) = None
binding_in (symbol name) = unless_constant name >>= λ n. Some (entry n None)
binding_in (string s) = None
binding_in (list l) = listed_binding l
binding_in (dotted l d) = None
binding_in (method n) = None

-- all at once, no name may be bound twice; the values are parts, and then the body
abbrev pub let_with : List Entry → Dats → Option Shape
let_with es body =
    if are_distinct (names_of es) then Some (shape (let_form (bounds_of es)) (inits_of es ++ body_parts body)) else None

-- the variables in a list, which may be written NIL, and then the body
abbrev pub let_shape : Dats → Option Shape
let_shape nil = None
let_shape (cons bindings body) = each_in binding_in bindings >>= λ es. let_with es body

-- in order, a name may be bound again
abbrev pub let_in_order_shape : Dats → Option Shape
let_in_order_shape nil = None
let_in_order_shape (cons bindings body) =
    each_in binding_in bindings >>= λ es. Some (shape (let_in_order (bounds_of es)) (inits_of es ++ body_parts body))

-- ---- setq

-- variables and values in turn; a variable may stand twice
abbrev pub assignments_in : Dats → Option (List Entry)
assignments_in nil = Some []
assignments_in (cons v nil) = None
assignments_in (cons v (cons d l)) = variable_in v >>= λ n. assignments_in l >>= λ es. Some (entry n (Some d) ∷ es)

-- any number of variables, each with its value (5.3 setq)
abbrev pub setq_shape : Dats → Option Shape
setq_shape l = assignments_in l >>= λ es. Some (shape (setq (names_of es)) (inits_of es))

-- ---- dotimes

-- the variable, the form of the count, and that of the result
pub record Counter : Type 0 where
  pub name : Name
  pub count : Dat
  pub result : Option Dat

-- what follows the variable: the count, and perhaps a result form
abbrev pub counted : Name → Dats → Option Counter
counted n nil = None
counted n (cons count rest) = at_most_one rest >>= λ result. Some (record { name = n; count = count; result = result })

-- (v count) or (v count result), where v may be bound
abbrev pub listed_counter : Dats → Option Counter
listed_counter nil = None
listed_counter (cons v rest) = variable_in v >>= λ n. counted n rest

-- a list of a variable, a count and perhaps a result form, and no other datum
abbrev pub counter_in : Dat → Option Counter
counter_in (integer n) = None
counter_in (symbol name) = None
counter_in (string s) = None
counter_in (list l) = listed_counter l
counter_in (dotted l d) = None
counter_in (method n) = None

-- the parts are the count, the result form where there is one, and the body
abbrev pub dotimes_with : Counter → Dats → Shape
dotimes_with c body = shape (dotimes c.name (is_some c.result)) (in_role Expression c.count ∷ (optional c.result ++ body_parts body))

-- the list of variable, count and result, and then the body (6.2 dotimes)
abbrev pub dotimes_shape : Dats → Option Shape
dotimes_shape nil = None
dotimes_shape (cons head body) = counter_in head >>= λ c. Some (dotimes_with c body)
