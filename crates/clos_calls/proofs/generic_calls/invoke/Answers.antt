use Rattle.std.proofs.Common.{slice_get, subst}
use Rattle.clos_machine.specs.clos_world.Uses.{uses_of}
use Rattle.clos_machine.specs.clos_world.World.{seen}
use Rattle.clos_machine.specs.clos_meaning.GenericCalls.{called_generic}
use Rattle.clos_machine.specs.Machine.{inside}
use Rattle.clos_machine.specs.Uses.{LeadsBy}
use Rattle.clos_machine.specs.clos_meaning.Meaning.{meaning}
use Rattle.clos_calls.proofs.generic_calls.invoke.Goals as goal

pub returns-clause-leads : goal.returns-clause-leads
returns-clause-leads c =
    subst (λ n. LeadsBy (inside c.args.machine.now (λ w. called_generic (meaning c.args.machine.now.room) c.args.values n (slice_get w.generics.functions n) w)) (seen c.args.world.now) (uses_of c.args.world.now)
    c.call_generic.result c.call_generic.new.machine (uses_of c.call_generic.new.world)) c.id.ensures c.call_generic.ensures.leads
