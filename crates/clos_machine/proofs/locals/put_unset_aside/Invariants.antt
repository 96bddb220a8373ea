use Rattle.std.proofs.Common.{◌≡◌, length}
use Rattle.clos_machine.specs.Machine.{unset_aside}
use Rattle.clos_machine.proofs.locals.put_unset_aside.Given as goal

abbrev pub invariant-loop-binding : goal.invariant-loop-binding
invariant-loop-binding l = unset_aside l.plan l.locals ≡ unset_aside l.fn.plan l.fn.locals

abbrev pub decreases-loop-binding : goal.decreases-loop-binding
decreases-loop-binding l = length l.plan
