-- The forms that method combinations expand to (HyperSpec 7.6.6.2, 7.7 call-method).
use Rattle.std.specs.Prelude.{ℕ, List, [], ◌∷◌, ◌++◌, length, Option, Some, None, ◌==◌, if◌then◌else◌}
use Rattle.lisp_data.specs.Datum as given
use Rattle.lisp_data.specs.Datum.{Dat, integer, symbol, string, list, dotted, method, Dats}
use Rattle.clos_forms.specs.Fault.{◌>>=◌}
use Rattle.clos_forms.specs.Form.{Form, form, Forms, nil, cons}
use Rattle.clos_forms.specs.Grammar.{form_of}
use Rattle.clos_forms.specs.Operator.{Callable, the_method, made, Operator, call_method}
use Rattle.clos_forms.specs.declared.part.Context.TheVariants.{Effective}

-- the methods that stand in a datum, from left to right, wherever they stand
abbrev mutual
  -- a method is one, other atoms have none; a list has those of its elements, and then of the atom after its dot
  pub methods_of : Dat → List ℕ
  methods_of (integer n) = []
  methods_of (symbol name) = []
  methods_of (string s) = []
  methods_of (list l) = methods_in_all l
  methods_of (dotted l d) = methods_in_all l ++ methods_of d
  methods_of (method n) = n ∷ []

  -- those of the first datum, and then of the others
  pub methods_in_all : Dats → List ℕ
  methods_in_all given.nil = []
  methods_in_all (given.cons d l) = methods_of d ++ methods_in_all l

-- the method that it is, where it is not made of a form
abbrev pub number_of : Callable → List ℕ
number_of (the_method n) = n ∷ []
number_of made = []

-- the same of all of these, in order
abbrev pub numbers_of : List Callable → List ℕ
numbers_of [] = []
numbers_of (m ∷ ms) = number_of m ++ numbers_of ms

-- the methods that an operator calls or has as next methods
abbrev pub called_at : Operator → List ℕ
called_at (call_method m ns) = number_of m ++ numbers_of ns
called_at _ = []

-- the methods that a form calls or has as next methods: those of its operator, then those of its parts
abbrev mutual
  -- what its operator calls before what its parts do; a method that is called twice counts twice
  pub called_by : Form → List ℕ
  called_by (form o parts) = called_at o ++ called_by_all parts

  -- those of the first form, and then of the others
  pub called_by_all : Forms → List ℕ
  called_by_all nil = []
  called_by_all (cons f fs) = called_by f ++ called_by_all fs

-- a form in which as many methods are called
abbrev pub calling_all : List ℕ → Form → Option Form
calling_all methods f = if length (called_by f) == length methods then Some f else None

-- The form of an effective form's datum. As many methods are called in it as stand in the datum, so none stands where it is
-- not called: in a quotation or a declaration.
abbrev pub effective_form : Dat → Option Form
effective_form d = form_of Effective d >>= calling_all (methods_of d)
