-- An argument as the definitions have it.
use Rattle.lisp_data.specs.ValueView.{value_of}
use Rattle.clos_precedence.specs.PrecedenceView.{numbers}
use Rattle.clos_method.specs.Arguments.{Argument}
use Rattle.clos_method.specs.declared.arguments.Argument as code

abbrev pub argument_of : code.Argument → Argument
argument_of a = record { list = numbers a.list.now; value = value_of a.value.now }
