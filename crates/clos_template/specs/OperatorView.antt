-- The operators that the code's stand for.
use Rattle.std.specs.Prelude.{option_map}
use Rattle.lisp_data.specs.DatumView.{datum_of}
use Rattle.clos_template.specs.Operator as of
use Rattle.clos_template.specs.declared.operator.Operator.{Operator}
use Rattle.clos_template.specs.declared.operator.Operator.TheVariants.{Constant, Variable, If, Cond, And, Or, Let, LetInOrder, MapCar, Call, Written}

-- each variant as its operator, with the same names and flags, and the datum that the code's stands for
abbrev pub operator_of : Operator → of.Operator
operator_of (Constant d) = of.constant (datum_of d)
operator_of (Variable n) = of.variable n
operator_of If = of.if_form
operator_of (Cond bodies) = of.cond bodies
operator_of And = of.and_form
operator_of Or = of.or_form
operator_of (Let bs) = of.let_form bs
operator_of (LetInOrder bs) = of.let_in_order bs
operator_of (MapCar n) = of.mapcar n
operator_of (Call f) = of.call f
operator_of (Written spliced last) = of.written spliced (option_map datum_of last)
