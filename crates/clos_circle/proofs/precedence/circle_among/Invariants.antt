use Rattle.std.proofs.Common.{length}
use Rattle.clos_circle.specs.DefinitionView.{direct_of}
use Rattle.clos_circle.specs.inner.Before.{befores}
use Rattle.clos_circle.proofs.Before.{NoneButLeft}
use Rattle.clos_circle.proofs.precedence.circle_among.Given as goal

abbrev pub invariant-loop-first : goal.invariant-loop-first
invariant-loop-first l = NoneButLeft (befores (direct_of l.definition) l.names) l.names l.left

abbrev pub decreases-loop-first : goal.decreases-loop-first
decreases-loop-first l = length l.left
