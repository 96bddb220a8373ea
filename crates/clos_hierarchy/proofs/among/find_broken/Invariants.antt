use Rattle.std.proofs.Common.{length}
use Rattle.clos_precedence.specs.PrecedenceView.{numbers}
use Rattle.clos_hierarchy.proofs.Broken.{NoneBut}
use Rattle.clos_hierarchy.proofs.among.find_broken.Given as goal

abbrev pub invariant-loop-place : goal.invariant-loop-place
invariant-loop-place l = NoneBut l.fn.definitions l.fn.kept (numbers l.fn.places) (numbers l.left)

abbrev pub decreases-loop-place : goal.decreases-loop-place
decreases-loop-place l = length l.left
