use Rattle.std.proofs.Common.{◌≡◌}
use Rattle.std.specs.Prelude.{reverse}
use Rattle.lisp_data.specs.Value.{nil, elements, size_of_values}
use Rattle.lisp_prims.specs.Lists.{put_before}
use Rattle.lisp_prims.proofs.lists.reversed.Given as goal

abbrev pub invariant-loop-first : goal.invariant-loop-first
invariant-loop-first l =
    put_before (reverse (elements l.items)) nil ≡ put_before (reverse (elements l.rest)) l.reversed

abbrev pub decreases-loop-first : goal.decreases-loop-first
decreases-loop-first l = size_of_values l.rest
