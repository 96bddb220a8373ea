use Rattle.std.proofs.Common.{◌∙◌}
use Rattle.clos_machine.specs.clos_world.World.{seen}
use Rattle.clos_machine.specs.Machine.{at}
use Rattle.clos_machine.specs.clos_meaning.Meaning.{meaning, next_method}
use Rattle.clos_next_methods.proofs.Nexting.{none_given, some_given}
use Rattle.clos_next_methods.proofs.next_methods.call_next_method.Goals as goal

pub returns-in-Some-clause-leads : goal.returns-in-Some-clause-leads
returns-in-Some-clause-leads c =
    c.collect_next.ensures.leads (next_method (meaning c.args.machine.now.room) c.args.machine.now.context c.args.forms.now) (seen c.args.world.now)
    (λ t. some_given (meaning c.args.machine.now.room) c.args.machine.now.context c.args.forms.now c.in-Some.field-0.0.now c.in-Some.field-0.1.now c.new.result
    (at c.args.machine.now (seen c.args.world.now)) t c.in-Some.ensures c.new.ensures)

pub returns-in_ok-arguments-in-None-clause-leads : goal.returns-in_ok-arguments-in-None-clause-leads
returns-in_ok-arguments-in-None-clause-leads c =
    none_given c.args.machine.now c.run_next.new.machine c.in_ok-arguments-in-None.arguments (seen c.args.world.now) c.args.forms.now c.run_next.result
    c.in-None.ensures (c.in_ok-arguments-in-None.ensures ∙ c.arguments.ensures) c.run_next.ensures.leads
