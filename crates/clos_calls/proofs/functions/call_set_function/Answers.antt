use Rattle.std.proofs.Common.{ap}
use Rattle.clos_machine.specs.clos_world.FunctionName.{setter_value}
use Rattle.clos_machine.specs.clos_world.Functions.{function_in}
use Rattle.clos_machine.specs.clos_world.World.{seen}
use Rattle.clos_machine.specs.clos_meaning.Calls.{called_defined, applied_to}
use Rattle.clos_machine.specs.Machine.{inside}
use Rattle.clos_machine.specs.clos_meaning.Meaning.{meaning}
use Rattle.clos_machine.proofs.Turns.{leads_same}
use Rattle.clos_calls.proofs.functions.call_set_function.Goals as goal

pub returns-in-Some-clause-leads : goal.returns-in-Some-clause-leads
returns-in-Some-clause-leads c =
    leads_same (inside c.args.machine.now (applied_to (meaning c.args.machine.now.room) c.args.values c.in-Some.function.now))
    (inside c.args.machine.now (λ w. called_defined (meaning c.args.machine.now.room) c.args.values (setter_value c.args.name.now) (function_in w.setters c.args.name.now) w))
    (seen c.args.world.now) c.call_function.result c.call_function.new.machine
    (λ t. ap (λ o. inside c.args.machine.now (called_defined (meaning c.args.machine.now.room) c.args.values (setter_value c.args.name.now) o) (seen c.args.world.now) t)
    c.in-Some.ensures) c.call_function.ensures.leads
