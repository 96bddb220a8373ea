-- What a datum is as a form, by its operator (HyperSpec 3.1.2.1).
use Rattle.std.specs.Prelude.{[], Bool, Option, Some, None, nat_le, ◌&&◌, codes, if◌then◌else◌}
use Rattle.lisp_data.specs.Name.{Name}
use Rattle.lisp_data.specs.Value as value
use Rattle.lisp_data.specs.Value.{Val}
use Rattle.lisp_data.specs.Datum.{Dat, integer, symbol, string, list, dotted, method, Dats, nil, cons, length_of}
use Rattle.clos_forms.specs.Binding.{let_shape, let_in_order_shape, setq_shape, dotimes_shape}
use Rattle.clos_forms.specs.Fault.{◌>>=◌}
use Rattle.clos_forms.specs.FunctionName.{function_named}
use Rattle.clos_forms.specs.NamedMethods.{call_method_shape}
use Rattle.clos_names.specs.Names.{is_called, is_constant, is_one_of, definitions}
use Rattle.clos_forms.specs.Operator.{Operator, constant, no_value, variable, function, if_form, cond, clause, when, unless, and_form, or_form, progn, prog1, incf, decf, call_next_method, next_method_p, call}
use Rattle.clos_forms.specs.Part.{Shape, shape, operation, in_roles, only_in, in_effective, in_method}
use Rattle.clos_forms.specs.Place.{place_shape, setf_shape, change_shape}
use Rattle.clos_forms.specs.Quotation.{name_value, quotation}
use Rattle.clos_forms.specs.Slots.{with_slots_shape}
use Rattle.clos_names.specs.Special.{special_of}
use Rattle.clos_forms.specs.declared.part.Context.{Context}
use Rattle.clos_forms.specs.declared.part.Role.{Role}
use Rattle.clos_forms.specs.declared.part.Role.TheVariants.{Expression, Clause, Place}
use Rattle.clos_names.specs.declared.special.Special.{Special}
use Rattle.clos_names.specs.declared.special.Special.TheVariants.{Quote, Function, If, Cond, When, Unless, And, Or, Progn, Prog1, Let, LetInOrder, Setq, Setf, Incf, Decf, Dotimes, WithSlots, CallNextMethod, NextMethodP}

-- a form in which no other stands
abbrev pub atom : Operator → Shape
atom o = shape o []

-- a datum that is no value may be quoted; the form is refused only where it is evaluated
abbrev pub quoting : Option Val → Operator
quoting (Some v) = constant v
quoting None = no_value

-- exactly one datum
abbrev pub quote_shape : Dats → Option Shape
quote_shape l = only_in l >>= λ d. Some (atom (quoting (quotation d)))

-- exactly one name of a function
abbrev pub function_shape : Dats → Option Shape
function_shape l = only_in l >>= function_named >>= λ c. Some (atom (function c))

-- at least one form
abbrev pub headed : Operator → Dats → Option Shape
headed o l = if nat_le 1 (length_of l) then Some (operation o l) else None

-- a test, and one form or two
abbrev pub if_shape : Dats → Option Shape
if_shape l = if nat_le 2 (length_of l) && nat_le (length_of l) 3 then Some (operation if_form l) else None

-- in the body of a method alone
abbrev pub call_next_method_shape : Context → Dats → Option Shape
call_next_method_shape context l = if in_method context then Some (operation call_next_method l) else None

-- in the body of a method alone, and without arguments
abbrev pub next_method_p_shape : Context → Dats → Option Shape
next_method_p_shape context l = if in_method context && nat_le (length_of l) 0 then Some (atom next_method_p) else None

-- what must follow a name with this meaning, in this context
abbrev pub special_shape : Context → Special → Dats → Option Shape
special_shape context Quote l = quote_shape l
special_shape context Function l = function_shape l
special_shape context If l = if_shape l
special_shape context Cond l = Some (shape cond (in_roles Clause l))
special_shape context When l = headed when l
special_shape context Unless l = headed unless l
special_shape context And l = Some (operation and_form l)
special_shape context Or l = Some (operation or_form l)
special_shape context Progn l = Some (operation progn l)
special_shape context Prog1 l = headed prog1 l
special_shape context Let l = let_shape l
special_shape context LetInOrder l = let_in_order_shape l
special_shape context Setq l = setq_shape l
special_shape context Setf l = setf_shape l
special_shape context Incf l = change_shape incf l
special_shape context Decf l = change_shape decf l
special_shape context Dotimes l = dotimes_shape l
special_shape context WithSlots l = with_slots_shape l
special_shape context CallNextMethod l = call_next_method_shape context l
special_shape context NextMethodP l = next_method_p_shape context l

-- whether a form of this name calls a method
abbrev pub calls_method : Context → Name → Bool
calls_method context name = in_effective context && is_called (codes "CALL-METHOD") name

-- A function is called whatever its name and the number of its arguments, but a definition stands at the top level alone, and
-- in an effective form call-method is no function's name.
abbrev pub call_shape : Context → Name → Dats → Option Shape
call_shape context name l =
    if is_one_of definitions name then None
    else if calls_method context name then call_method_shape l else Some (operation (call name) l)

-- a name that means something special by its own rule; any other is called
abbrev pub named_shape : Option Special → Context → Name → Dats → Option Shape
named_shape (Some s) context name l = special_shape context s l
named_shape None context name l = call_shape context name l

-- a symbol at the head; a lambda form, which has a list there, is no form here (3.1.2.1.2.4)
abbrev pub headed_shape : Context → Dat → Dats → Option Shape
headed_shape context (integer n) l = None
headed_shape context (symbol name) l = named_shape (special_of name) context name l
headed_shape context (string s) l = None
headed_shape context (list m) l = None
headed_shape context (dotted m d) l = None
headed_shape context (method n) l = None

-- NIL, T and keywords stand for themselves, another symbol is a variable (3.1.2.1.1)
abbrev pub symbol_operator : Name → Operator
symbol_operator name = if is_constant name then constant (name_value name) else variable name

-- the empty list is NIL
abbrev pub listed_shape : Context → Dats → Option Shape
listed_shape context nil = Some (atom (constant (value.list value.nil)))
listed_shape context (cons head rest) = headed_shape context head rest

-- an atom is a constant or a variable, a list has an operator; a dotted list and a method are no forms
abbrev pub expression_shape : Context → Dat → Option Shape
expression_shape context (integer n) = Some (atom (constant (value.integer n)))
expression_shape context (symbol name) = Some (atom (symbol_operator name))
expression_shape context (string s) = Some (atom (constant (value.string s)))
expression_shape context (list l) = listed_shape context l
expression_shape context (dotted l d) = None
expression_shape context (method n) = None

-- a list of at least one form
abbrev pub clause_shape : Dat → Option Shape
clause_shape (integer n) = None
clause_shape (symbol name) = None
clause_shape (string s) = None
clause_shape (list l) = headed clause l
clause_shape (dotted l d) = None
clause_shape (method n) = None

-- what a datum is in its role
abbrev pub shape_of : Context → Role → Dat → Option Shape
shape_of context Expression d = expression_shape context d
shape_of context Clause d = clause_shape d
shape_of context Place d = place_shape d
