use Rattle.std.proofs.Common.{ap, sym, ◌∙◌}
use Rattle.clos_machine.specs.clos_world.World.{seen}
use Rattle.clos_machine.specs.clos_meaning.Calls.{keys_are_even}
use Rattle.clos_next_methods.proofs.Accessing.{keys_even}
use Rattle.clos_next_methods.proofs.methods.run_forms.Goals as goal

pub returns-clause-leads : goal.returns-clause-leads
returns-clause-leads c =
    keys_even c.args.machine.now c.run_body.new.machine c.args.context c.args.lambda_list.now c.args.body.now (seen c.args.world.now) c.run_body.result
    (sym c.if-not-keys_are_even.false ∙ c.keys_are_even.ensures ∙ ap (keys_are_even c.args.lambda_list.now) (c.as_slice.ensures ∙ c.arguments.ensures)) c.run_body.ensures.leads
