use Rattle.std.proofs.Common.{◌≡◌, length}
use Rattle.clos_meaning.specs.clos_world.World.{seen}
use Rattle.clos_machine.specs.Machine.{unset}
use Rattle.clos_machine.proofs.locals.bind_unset.Given as goal

abbrev pub invariant-loop-binding : goal.invariant-loop-binding
invariant-loop-binding l = unset (seen l.world).globals l.plan l.locals ≡ unset (seen l.world).globals l.fn.plan l.fn.locals

abbrev pub decreases-loop-binding : goal.decreases-loop-binding
decreases-loop-binding l = length l.plan
