use Rattle.std.proofs.Common.{◌≡◌}
use Rattle.lisp_data.specs.Value.{size_of_values}
use Rattle.lisp_prims.specs.Lists.{element_at}
use Rattle.lisp_prims.proofs.lists.element_at.Given as goal

abbrev pub invariant-loop-first : goal.invariant-loop-first
invariant-loop-first l = element_at l.position l.items ≡ element_at l.left l.rest

abbrev pub decreases-loop-first : goal.decreases-loop-first
decreases-loop-first l = size_of_values l.rest
