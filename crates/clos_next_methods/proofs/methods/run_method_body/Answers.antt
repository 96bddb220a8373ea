use Rattle.clos_machine.specs.clos_world.World.{seen}
use Rattle.clos_machine.specs.clos_meaning.Contexts.{running, with_arguments}
use Rattle.clos_next_methods.proofs.Accessing.{body_of_forms, body_of_system, body_reads, body_writes}
use Rattle.clos_next_methods.proofs.methods.run_method_body.Goals as goal

pub returns-in_ok-context-in-Forms-clause-leads : goal.returns-in_ok-context-in-Forms-clause-leads
returns-in_ok-context-in-Forms-clause-leads c =
    body_of_forms c.args.machine.now c.run_forms.new.machine (running c.args.id.0 c.args.next.now c.args.forms.now (with_arguments c.args.arguments c.args.machine.now.context))
    c.args.body.now (seen c.args.world.now) c.in-Forms.lambda_list c.in-Forms.body c.in_ok-context-in-Forms.context c.list.result.now c.run_forms.result
    c.in-Forms.is c.in_ok-context-in-Forms.ensures c.list.ensures c.run_forms.ensures.leads

pub returns-in_ok-copy-in-Reader-clause-leads : goal.returns-in_ok-copy-in-Reader-clause-leads
returns-in_ok-copy-in-Reader-clause-leads c =
    body_reads c.args.machine.now (running c.args.id.0 c.args.next.now c.args.forms.now (with_arguments c.args.arguments c.args.machine.now.context))
    c.args.body.now (seen c.args.world.now) c.in-Reader.slot c.in_ok-copy-in-Reader.field-0 c.in-Reader.is c.in_ok-copy-in-Reader.ensures

pub returns-in_ok-copy-in-Writer-clause-leads : goal.returns-in_ok-copy-in-Writer-clause-leads
returns-in_ok-copy-in-Writer-clause-leads c =
    body_writes c.args.machine.now (running c.args.id.0 c.args.next.now c.args.forms.now (with_arguments c.args.arguments c.args.machine.now.context))
    c.args.body.now (seen c.args.world.now) c.in-Writer.slot c.in_ok-copy-in-Writer.field-0 c.in-Writer.is c.in_ok-copy-in-Writer.ensures

pub returns-in-System-clause-leads : goal.returns-in-System-clause-leads
returns-in-System-clause-leads c =
    body_of_system c.args.machine.now (running c.args.id.0 c.args.next.now c.args.forms.now (with_arguments c.args.arguments c.args.machine.now.context))
    c.args.body.now (seen c.args.world.now) c.in-System.function c.in-System.is
