use Rattle.std.proofs.Common.{◌≡◌, length}
use Rattle.clos_meaning.specs.clos_world.World.{seen}
use Rattle.clos_machine.specs.Machine.{settled}
use Rattle.clos_machine.proofs.locals.settle.Given as goal

abbrev pub invariant-loop-parameter : goal.invariant-loop-parameter
invariant-loop-parameter l = settled (seen l.world).globals l.plan l.locals ≡ settled (seen l.world).globals l.fn.plan l.fn.locals

abbrev pub decreases-loop-parameter : goal.decreases-loop-parameter
decreases-loop-parameter l = length l.plan
