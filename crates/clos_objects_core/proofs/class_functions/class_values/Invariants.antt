use Rattle.std.proofs.Common.{◌≡◌, take, map}
use Rattle.lisp_data.specs.Value.{class}
use Rattle.lisp_data.specs.ValueView.{value_of}
use Rattle.clos_objects_core.proofs.class_functions.class_values.Given as goal

abbrev pub invariant-loop-id : goal.invariant-loop-id
invariant-loop-id l = map value_of l.values.items ≡ map class (map (λ c. c.0) (take l.id-index l.ids))
