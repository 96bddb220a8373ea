use Rattle.std.proofs.Common.{map, ap, ◌∙◌}
use Rattle.lisp_data.specs.Value.{class}
use Rattle.lisp_data.specs.ValueView.{value_of}
use Rattle.clos_machine.specs.clos_world.clos_precedence.PrecedenceView.{numbers}
use Rattle.clos_machine.proofs.Updates.{told_of_values}
use Rattle.clos_objects_core.proofs.class_functions.classes_listed.Goals as goal

pub returns : goal.returns
returns c =
    told_of_values (map class (numbers c.args.classes.now)) (map value_of c.as_slice.result.now) c.listed.result (ap (map value_of) c.as_slice.ensures.value ∙ c.in_ok-values.ensures) c.listed.ensures
