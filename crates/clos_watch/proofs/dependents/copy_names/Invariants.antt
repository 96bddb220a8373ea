use Rattle.std.proofs.Common.{◌≡◌, ◌++◌, length, map}
use Rattle.clos_watch.proofs.dependents.copy_names.Given as goal

abbrev pub invariant-loop-first : goal.invariant-loop-first
invariant-loop-first g l = l.names.items ++ map (λ d. d.0) l.left ≡ map (λ d. d.0) l.fn.handed

abbrev pub decreases-loop-first : goal.decreases-loop-first
decreases-loop-first g l = length l.left
