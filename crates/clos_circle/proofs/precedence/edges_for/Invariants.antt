use Rattle.std.proofs.Common.{◌≡◌, ◌++◌, length}
use Rattle.clos_circle.specs.DefinitionView.{direct_of}
use Rattle.clos_circle.specs.inner.Before.{edges_for}
use Rattle.clos_circle.proofs.precedence.edges_for.Given as goal

abbrev pub invariant-loop-left : goal.invariant-loop-left
invariant-loop-left l =
    l.edges.items ++ edges_for (direct_of l.definition) l.names l.left ≡ edges_for (direct_of l.definition) l.names l.fn.circle

abbrev pub decreases-loop-left : goal.decreases-loop-left
decreases-loop-left l = length l.left
