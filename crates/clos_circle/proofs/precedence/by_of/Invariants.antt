use Rattle.std.proofs.Common.{◌≡◌, length}
use Rattle.clos_circle.specs.DefinitionView.{direct_of}
use Rattle.clos_circle.specs.inner.Before.{by_of}
use Rattle.clos_circle.proofs.precedence.by_of.Given as goal

abbrev pub invariant-loop-left : goal.invariant-loop-left
invariant-loop-left l =
    by_of (direct_of l.definition) l.left l.before l.after ≡ by_of (direct_of l.definition) l.fn.names l.before l.after

abbrev pub decreases-loop-left : goal.decreases-loop-left
decreases-loop-left l = length l.left
