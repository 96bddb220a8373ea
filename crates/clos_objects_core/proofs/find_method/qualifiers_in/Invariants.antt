use Rattle.std.proofs.Common.{◌≡◌, ◌++◌}
use Rattle.lisp_data.specs.Value.{size_of_values}
use Rattle.clos_machine.specs.clos_meaning.FindMethod.{values_of}
use Rattle.clos_objects_core.proofs.find_method.qualifiers_in.Given as goal

abbrev pub invariant-loop-first : goal.invariant-loop-first
invariant-loop-first l = l.qualifiers ++ values_of l.rest ≡ values_of l.fn.items

abbrev pub decreases-loop-first : goal.decreases-loop-first
decreases-loop-first l = size_of_values l.rest
