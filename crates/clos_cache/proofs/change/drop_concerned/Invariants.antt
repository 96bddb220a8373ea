use Rattle.clos_cache.specs.ChangeView.{change_of}
use Rattle.clos_cache.proofs.Dropping.{Dropping}
use Rattle.clos_cache.proofs.change.drop_concerned.Given as goal

abbrev pub invariant-loop-left : goal.invariant-loop-left
invariant-loop-left g l = Dropping (change_of l.fn.change) l.fn.index.entries l.fn.entries l.index.entries l.entries l.left

abbrev pub decreases-loop-left : goal.decreases-loop-left
decreases-loop-left g l = l.left
