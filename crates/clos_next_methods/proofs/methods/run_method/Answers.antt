use Rattle.std.proofs.Common.{slice_get, subst}
use Rattle.clos_machine.specs.clos_world.World.{seen}
use Rattle.clos_machine.specs.clos_meaning.Calls.{method_run}
use Rattle.clos_machine.specs.clos_meaning.Contexts.{running, with_arguments}
use Rattle.clos_machine.specs.Machine.{Leads, inside}
use Rattle.clos_machine.specs.clos_meaning.Meaning.{meaning}
use Rattle.clos_machine.proofs.Turns.{no_method}
use Rattle.clos_next_methods.proofs.methods.run_method.Goals as goal

pub returns-in-None-clause-leads : goal.returns-in-None-clause-leads
returns-in-None-clause-leads c = λ t.
    no_method c.args.machine.now (meaning c.args.machine.now.room) (running c.args.id.0 c.args.next.now c.args.forms.now (with_arguments c.args.arguments c.args.machine.now.context))
    (slice_get (seen c.args.world.now).generics.methods c.args.id.0) c.plain.result (seen c.args.world.now) t c.in-None.ensures c.plain.ensures

pub returns-in-Some-clause-leads : goal.returns-in-Some-clause-leads
returns-in-Some-clause-leads c =
    subst (λ o. Leads (inside c.args.machine.now (method_run (meaning c.args.machine.now.room)
    (running c.args.id.0 c.args.next.now c.args.forms.now (with_arguments c.args.arguments c.args.machine.now.context)) o))
    (seen c.args.world.now) c.run_method_body.result c.run_method_body.new.machine) c.in-Some.ensures c.run_method_body.ensures.leads
