-- The operators of forms (HyperSpec 3.1.2.1).
use Rattle.std.specs.Prelude.{ℕ, Bool, List}
use Rattle.lisp_data.specs.Name.{Name}
use Rattle.lisp_data.specs.Print.{Called}
use Rattle.lisp_data.specs.Value.{Val}

-- a variable that is bound, and whether it has an init form
pub record Bound : Type 0 where
  pub name : Name
  pub has_init : Bool

-- a variable that stands for a slot
pub record BoundSlot : Type 0 where
  pub variable : Name
  pub slot : Name

-- a place (HyperSpec 5.1.2), its subforms apart
pub data Place : Type 0 where
  variable_place : Name → Place
  slot_value_place : Place  -- an instance and a slot's name
  call_place : Name → Place  -- the arguments of a function that is set by another

-- what call-method calls, or what comes next in it (7.6.6.2): the method of this number, or one that is made of a form
pub data Callable : Type 0 where
  the_method : ℕ → Callable
  made : Callable

-- an operator, its parts apart. The comment says what these are
pub data Operator : Type 0 where
  constant : Val → Operator  -- none: a self-evaluating object, or what a quote form quotes
  no_value : Operator  -- none: a quote form of a datum that is no value
  variable : Name → Operator  -- none
  function : Called → Operator  -- none: what a function form names
  if_form : Operator  -- the test, what is evaluated where it holds, and else, where there is one
  cond : Operator  -- the clauses
  clause : Operator  -- of a cond: the test, and the forms
  when : Operator  -- the test, and the forms
  unless : Operator  -- the test, and the forms
  and_form : Operator  -- the forms
  or_form : Operator  -- the forms
  progn : Operator  -- the forms
  prog1 : Operator  -- the form whose value is given, and the others
  let_form : List Bound → Operator  -- the init forms of the variables that have one, and the body
  let_in_order : List Bound → Operator  -- the same, of let*
  setq : List Name → Operator  -- a new value for each name
  setf : Operator  -- places and new values in turn
  incf : Operator  -- the place and, where it is given, the amount
  decf : Operator  -- the place and, where it is given, the amount
  place : Place → Operator  -- the subforms of a place
  dotimes : Name → Bool → Operator  -- the count, the result form where there is one, and the body
  with_slots : List BoundSlot → Operator  -- the instance, and the body
  call_next_method : Operator  -- the arguments
  next_method_p : Operator  -- none
  call : Name → Operator  -- the arguments
  call_method : Callable → List Callable → Operator  -- the forms of those that are made; the method that is called, and its next methods
