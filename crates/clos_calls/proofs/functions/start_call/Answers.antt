use Rattle.std.proofs.Common.{ap, ◌∙◌}
use Rattle.clos_machine.specs.Machine.{at, acted}
use Rattle.clos_machine.specs.clos_meaning.Meaning.{collect, meaning}
use Rattle.clos_machine.specs.declared.machine.Action.TheVariants.{Call}
use Rattle.clos_calls.proofs.functions.start_call.Goals as goal

pub returns-clause-leads : goal.returns-clause-leads
returns-clause-leads c = λ run w h.
    c.collect_next.ensures.leads run w (λ t.
    ap (λ x. collect (meaning c.args.machine.now.room) c.args.machine.now.context c.args.arguments.now c.new.result (acted (meaning c.args.machine.now.room) c.args.machine.now.context (Call x)) (at c.args.machine.now w) t) c.in_ok-copy.ensures
    ∙ ap (λ x. collect (meaning c.args.machine.now.room) c.args.machine.now.context c.args.arguments.now x (acted (meaning c.args.machine.now.room) c.args.machine.now.context (Call c.args.name.now)) (at c.args.machine.now w) t) c.new.ensures
    ∙ h t)
