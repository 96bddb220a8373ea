use Rattle.clos_machine.specs.clos_world.World.{seen}
use Rattle.clos_machine.specs.Machine.{Took, at}
use Rattle.clos_control.proofs.arguments.take_values.Given as goal

abbrev pub invariant-loop-first : goal.invariant-loop-first
invariant-loop-first l =
    Took l.fn.machine.room l.fn.machine.context (at l.fn.machine (seen l.fn.world)) l.fn.forms l.fn.values l.fn.steps l.rest l.values l.steps

abbrev pub decreases-loop-first : goal.decreases-loop-first
decreases-loop-first l = l.steps
