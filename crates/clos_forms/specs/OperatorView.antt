-- The operator that an `Operator` stands for.
use Rattle.lisp_data.specs.ValueView.{value_of}
use Rattle.lisp_data.specs.Print.{Called, by_symbol, by_setf}
use Rattle.clos_forms.specs.CallMethodView.{callable}
use Rattle.clos_forms.specs.Operator.{Operator, Place}
use Rattle.clos_forms.specs.Operator as of
use Rattle.clos_forms.specs.declared.operator.FunctionName as named
use Rattle.clos_forms.specs.declared.operator.FunctionName.TheVariants.{Symbol, Setf as Setter}
use Rattle.clos_forms.specs.declared.operator.Place as in_code
use Rattle.clos_forms.specs.declared.operator.Place.TheVariants.{Variable as VariablePlace, SlotValue, Call as CallPlace}
use Rattle.clos_forms.specs.declared.operator.Operator as coded
use Rattle.clos_forms.specs.declared.operator.Operator.TheVariants.{Constant, NoValue, Variable, Function, If, Cond, Clause, When, Unless, And, Or, Progn, Prog1, Let, LetInOrder, Setq, Setf, Incf, Decf, Place as Subforms, Dotimes, WithSlots, CallNextMethod, NextMethodP, Call, CallMethod}

-- a symbol or (setf symbol), with the same name
abbrev pub called_of : named.FunctionName → Called
called_of (Symbol name) = by_symbol name
called_of (Setter name) = by_setf name

-- each variant as its kind of place, with the same name of a variable or function
abbrev pub place_of : in_code.Place → Place
place_of (VariablePlace name) = of.variable_place name
place_of SlotValue = of.slot_value_place
place_of (CallPlace name) = of.call_place name

-- each variant as its operator, with the same names and flags, and what the code's values and methods stand for
abbrev pub operator_of : coded.Operator → Operator
operator_of (Constant value) = of.constant (value_of value)
operator_of NoValue = of.no_value
operator_of (Variable name) = of.variable name
operator_of (Function name) = of.function (called_of name)
operator_of If = of.if_form
operator_of Cond = of.cond
operator_of Clause = of.clause
operator_of When = of.when
operator_of Unless = of.unless
operator_of And = of.and_form
operator_of Or = of.or_form
operator_of Progn = of.progn
operator_of Prog1 = of.prog1
operator_of (Let bindings) = of.let_form bindings
operator_of (LetInOrder bindings) = of.let_in_order bindings
operator_of (Setq names) = of.setq names
operator_of Setf = of.setf
operator_of Incf = of.incf
operator_of Decf = of.decf
operator_of (Subforms p) = of.place (place_of p)
operator_of (Dotimes name has_result) = of.dotimes name has_result
operator_of (WithSlots bindings) = of.with_slots bindings
operator_of CallNextMethod = of.call_next_method
operator_of NextMethodP = of.next_method_p
operator_of (Call name) = of.call name
operator_of (CallMethod method next) = of.call_method (callable method) next
