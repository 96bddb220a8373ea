use Rattle.std.proofs.Common.{◌≡◌, ◌++◌, map}
use Rattle.lisp_data.specs.Value.{elements, size_of_values}
use Rattle.lisp_data.specs.ValueView.{value_of}
use Rattle.lisp_prims.proofs.lists.values_of.Given as goal

abbrev pub invariant-loop-first : goal.invariant-loop-first
invariant-loop-first l = elements l.items ≡ map value_of l.values.items ++ elements l.rest

abbrev pub decreases-loop-first : goal.decreases-loop-first
decreases-loop-first l = size_of_values l.rest
