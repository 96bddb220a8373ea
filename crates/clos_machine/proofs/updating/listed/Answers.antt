use Rattle.std.proofs.Common.{map}
use Rattle.lisp_data.specs.ValueView.{value_of}
use Rattle.lisp_prims.specs.Primitive.{answer}
use Rattle.lisp_prims.specs.lisp_functions.declared.lists.ListFunction.TheVariants.{List}
use Rattle.lisp_prims.specs.lisp_functions.declared.primitive.Primitive.TheVariants.{Listed}
use Rattle.clos_machine.proofs.Updates.{not_listed}
use Rattle.clos_machine.proofs.updating.listed.Goals as goal

pub returns-in-Err : goal.returns-in-Err
returns-in-Err c =
    not_listed (answer (Listed List) (map value_of c.args.values.now)) c.in-Err.fault c.of_function.result c.in-Err.ensures.answer
    c.of_function.ensures.signals c.of_function.ensures.memory
