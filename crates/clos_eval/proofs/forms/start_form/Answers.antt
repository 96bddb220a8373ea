use Rattle.std.proofs.Common.{subst}
use Rattle.clos_forms.specs.Form.{parts_in}
use Rattle.clos_forms.specs.OperatorView.{operator_of}
use Rattle.clos_machine.specs.clos_world.World.{seen}
use Rattle.clos_machine.specs.clos_meaning.Meaning.{meaning, operated}
use Rattle.clos_machine.specs.Machine.{Leads, inside}
use Rattle.clos_eval.proofs.forms.start_form.Goals as goal

pub returns-clause-leads : goal.returns-clause-leads
returns-clause-leads c =
    subst (λ o. Leads (inside c.args.machine.now (operated (meaning c.args.machine.now.room) c.args.machine.now.context o (parts_in c.args.form.now)))
    (seen c.args.world.now) c.operate.result c.operate.new.machine) c.operator.ensures
    (subst (λ ps. Leads (inside c.args.machine.now (operated (meaning c.args.machine.now.room) c.args.machine.now.context (operator_of c.operator.result.now) ps))
    (seen c.args.world.now) c.operate.result c.operate.new.machine) c.parts.ensures c.operate.ensures.leads)
