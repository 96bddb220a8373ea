use Rattle.std.proofs.Common.{◌≡◌, ◌++◌}
use Rattle.std.specs.Prelude.{option_map}
use Rattle.lisp_data.specs.Value.{size_of_values}
use Rattle.clos_machine.specs.clos_meaning.FindMethod.{designators}
use Rattle.clos_objects_core.specs.Designators.{designators_of}
use Rattle.clos_objects_core.proofs.find_method.designators.Given as goal

abbrev pub invariant-loop-first : goal.invariant-loop-first
invariant-loop-first l = option_map (λ ds. designators_of l.list.items ++ ds) (designators l.rest) ≡ designators l.fn.items

abbrev pub decreases-loop-first : goal.decreases-loop-first
decreases-loop-first l = size_of_values l.rest
