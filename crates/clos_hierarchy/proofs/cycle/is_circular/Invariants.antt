use Rattle.std.proofs.Common.{◌-◌, length}
use Rattle.clos_hierarchy.proofs.Climbing.{Climbs}
use Rattle.clos_hierarchy.proofs.cycle.is_circular.Given as goal

abbrev pub invariant-loop-place : goal.invariant-loop-place
invariant-loop-place l = Climbs l.fn.definitions l.fn.class.0 l.above l.place

abbrev pub decreases-loop-place : goal.decreases-loop-place
decreases-loop-place l = length l.fn.definitions.names - l.place
